use Rattle.std.proofs.Common.{◌≡◌, ◌++◌, inr, ℕ, true, List, [], ◌∷◌, drop, sym, ap, subst, ◌∙◌, append_assoc, arith}
use Rattle.std.specs.List.{AllByRecursion}
use Rattle.std.proofs.lemmas.List.{append-nil}
use Rattle.lt_rec.specs.Bytes.{is_less}
use Rattle.lt_rec.specs.Record.{Record}
use Rattle.lt_rec.specs.Periods.{InPeriod}
use Rattle.lt_mem.specs.Rising.{IsRising}
use Rattle.lt_tablet.specs.Writing.{Wrote}
use Rattle.lt_merge.proofs.Writing.{first_of, none_left, rising_head, rising_tail}
use Rattle.lt_merge.proofs.flushing.add_all.Goals as goal

pub loop-rec-preserved : goal.loop-rec-preserved
loop-rec-preserved g c =
    let i = c.loop-rec.invariant in
    let left : List Record = c.loop-rec.left in
    let r : Record = c.in-Some.rec.now in
    let rest : List Record = drop 1 left in
    let cut : left ≡ r ∷ rest = first_of left r c.in-Some.ensures in
    let behind : c.skip_first.new.self ≡ rest = c.skip_first.ensures in
    let rising : IsRising (r ∷ rest) = subst IsRising cut i.rising in
    let timed : AllByRecursion (λ s. InPeriod c.args.writer.now.period s.ts) (r ∷ rest) = subst (AllByRecursion (λ s. InPeriod c.args.writer.now.period s.ts)) cut i.timed in
    let last : c.add.new.self.last ≡ r.key = c.in_ok-add.ensures.last in
    record {
      done = i.done ++ r ∷ [];
      parts = i.parts ∙ ap (λ (rs : List Record). i.done ++ rs) cut ∙ sym (append_assoc i.done (r ∷ []) rest) ∙ ap (λ (rs : List Record). (i.done ++ r ∷ []) ++ rs) (sym behind);
      wrote = c.in_ok-add.ensures.added i.done i.wrote;
      above = inr (subst (AllByRecursion (λ s. is_less c.add.new.self.last s.key ≡ true)) (sym behind)
          (subst (λ (key : List ℕ). AllByRecursion (λ s. is_less key s.key ≡ true) rest) (sym last) (rising_head r rest rising)));
      rising = subst IsRising (sym behind) (rising_tail r rest rising);
      timed = subst (AllByRecursion (λ s. InPeriod c.args.writer.now.period s.ts)) (sym behind) timed.1;
      number = c.add.ensures.number ∙ i.number;
      period = c.add.ensures.period ∙ i.period;
      later = omega (arith, i.later, c.add.ensures.cause.later);
    }

pub returns-clause-written : goal.returns-clause-written
returns-clause-written g c =
    let i = c.loop-rec.invariant in
    let all : c.args.left ≡ i.done = i.parts ∙ ap (λ (rs : List Record). i.done ++ rs) (none_left c.loop-rec.left c.in_default.ensures) ∙ append-nil i.done in
    subst (Wrote g.V.Device.honest c.loop-rec.writer) (sym all) i.wrote
