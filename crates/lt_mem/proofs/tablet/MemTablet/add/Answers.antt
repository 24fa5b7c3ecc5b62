use Rattle.std.proofs.Common.{ℕ, Option, sym, ap, subst, ◌∙◌, arith}
use Rattle.lt_rec.specs.Record.{Record}
use Rattle.lt_mem.specs.Rising.{SpansOf, widened_by}
use Rattle.lt_mem.proofs.Kept.{spans_gained, stored_gained}
use Rattle.lt_mem.proofs.tablet.MemTablet.add.Goals as goal

pub invariant_of-self : goal.invariant_of-self
invariant_of-self c =
    let i = c.self.inside in
    let new = c.add.new.self in
    let rec = c.args.rec in
    let gains = c.in-Ok.ensures.ok in
    record {
      rising = c.in-Ok.ensures.rising;
      seqs = subst (λ (o : Option (ℕ × ℕ)). SpansOf (λ (r : Record). r.seq) new o) (sym (c.widened-self-inside.ensures ∙ ap (widened_by i.seqs) c.seq-seq.ensures.value))
          (spans_gained i.pieces new rec gains (λ (r : Record). r.seq) i.seqs c.self.invariant.seqs);
      span = subst (λ (o : Option (ℕ × ℕ)). SpansOf (λ (r : Record). r.ts) new o) (sym (c.widened-self-inside-in-Ok.ensures ∙ ap (widened_by i.span) c.ts-ts.ensures.value))
          (spans_gained i.pieces new rec gains (λ (r : Record). r.ts) i.span c.self.invariant.span);
      bytes = (let more = stored_gained i.pieces new rec gains in let was = c.self.invariant.bytes in let len = c.stored_len-len.ensures.exact in omega arith);
    }
