use Rattle.std.proofs.Common.{◌≡◌, ℕ, List, [], ◌∷◌, Result, Ok, Err, length, get_or, refl, ap, sym, subst, ◌∙◌, arith}
use Rattle.std.specs.Prelude.{OnOk, IsErrAnd, MatchResult}
use Rattle.std.proofs.lemmas.Bool.{eqb-true}
use Rattle.std.proofs.lemmas.List.{get_or_default}
use Rattle.std.proofs.lemmas.Result.{err_from_is_err_and, on_ok_weaker}
use Rattle.lt_rec.specs.Record.{Record}
use Rattle.lt_rec.specs.Records.{joined}
use Rattle.lt_mem.specs.Lead.{IsLead}
use Rattle.lt_mem.specs.Rising.{IsRising}
use Rattle.lt_mem.specs.Pieces.{IsFound, IsGap, piece_at, place_of}
use Rattle.lt_mem.proofs.Gap.{found_in, fits, gap_none, gap_rises}
use Rattle.lt_mem.proofs.pieces.Pieces.add.Goals as goal
use Rattle.lt_mem.proofs.pieces.Pieces.add.Goals.{in-Ok-put_at, in-Err-put_at}

none_in : (ps : List (List Record)) → length ps ≡ 0 → joined ps ≡ []
none_in [] none = refl
none_in (p ∷ ps) none = absurd (omega (arith, none))

-- what holds where the first call succeeds holds where the second, which only tells its refusal otherwise, does
begun : {T E F : Type 0} (r : Result T E) (s : Result T F) (P : Type 0) (Q : E → F → Type 0) → MatchResult r (λ (t : T). s ≡ Ok t) (λ (e : E). IsErrAnd s (Q e)) → OnOk r P → OnOk s P
begun (Ok t) s P Q h on = rw h on
begun (Err e) s P Q h on = rw (err_from_is_err_and s h).1 tt

pub returns-then-is_empty-clause-ok : goal.returns-then-is_empty-clause-ok
returns-then-is_empty-clause-ok c =
    let ps = c.self.inside.pieces.items in
    let len : length ps ≡ 0 = sym (ap length c.as_slice.ensures.value) ∙ eqb-true (length c.as_slice.result.now) 0 (sym c.is_empty.ensures ∙ c.if-is_empty.true) in
    let none = none_in ps len in
    rw (← c.self.view_is)
    (begun c.begin.result c.map_err.result _ _ c.map_err.ensures.cases
    (on_ok_weaker c.begin.result (λ one. (0, omega arith, ap joined one ∙ ap (λ (rs : List Record). c.args.rec ∷ rs) (sym none))) c.begin.ensures.ok))

pub put_at-requires-clause-lead : goal.put_at-requires-clause-lead
put_at-requires-clause-lead c = subst (λ (k : List ℕ). IsLead k c.lead_of-lead.result) c.key.ensures.value c.lead_of-lead.ensures

pub invariant_of-self-in-Err : goal.invariant_of-self-in-Err
invariant_of-self-in-Err c =
    let ps = c.self.inside.pieces.items in
    let at = c.in-Err.at in
    let place = c.in-Err.place in
    let h : IsGap ps c.key-2.result.now at place = subst (λ (qs : List (List Record)). IsGap qs c.key-2.result.now at place) c.as_slice-2.ensures.value c.in-Err.ensures.gap in
    let rises = gap_rises ps c.key-2.result.now at place c.self.invariant h c.args.rec (sym c.key-2.ensures.value) in
    record {
      some = c.put_at.ensures.some;
      rising = elim c.match-put_at.branch [
        | in-Ok-put_at w ↦ subst IsRising (sym w.in-Ok-put_at.ensures.ok) rises
        | in-Err-put_at w ↦ subst IsRising (sym w.in-Err-put_at.ensures.unchanged) c.self.invariant.rising
      ];
    }

pub returns-after-put_at-clause-rising : goal.returns-after-put_at-clause-rising
returns-after-put_at-clause-rising c =
    let ps = c.self.inside.pieces.items in
    let at = c.in-Err.at in
    let place = c.in-Err.place in
    let h : IsGap ps c.key-2.result.now at place = subst (λ (qs : List (List Record)). IsGap qs c.key-2.result.now at place) c.as_slice-2.ensures.value c.in-Err.ensures.gap in
    let rises = gap_rises ps c.key-2.result.now at place c.self.invariant h c.args.rec (sym c.key-2.ensures.value) in
    elim c.match-put_at.branch [
      | in-Ok-put_at w ↦ subst IsRising (sym w.in-Ok-put_at.ensures.ok) rises
      | in-Err-put_at w ↦ subst IsRising (sym w.in-Err-put_at.ensures.unchanged) c.self.invariant.rising
    ]

pub returns-after-put_at-clause-ok : goal.returns-after-put_at-clause-ok
returns-after-put_at-clause-ok c =
    let ps = c.self.inside.pieces.items in
    let at = c.in-Err.at in
    let place = c.in-Err.place in
    let h : IsGap ps c.key-2.result.now at place = subst (λ (qs : List (List Record)). IsGap qs c.key-2.result.now at place) c.as_slice-2.ensures.value c.in-Err.ensures.gap in
    elim c.match-put_at.branch [
      | in-Ok-put_at w ↦ rw (w.result-is, ← c.self.view_is) (place_of ps at place, fits ps at c.self.invariant h.held place h.within, w.in-Ok-put_at.ensures.ok)
      | in-Err-put_at w ↦ rw w.result-is tt
    ]

pub returns-after-put_at-clause-distinct : goal.returns-after-put_at-clause-distinct
returns-after-put_at-clause-distinct c =
    let ps = c.self.inside.pieces.items in
    let at = c.in-Err.at in
    let place = c.in-Err.place in
    let h : IsGap ps c.args.rec.key at place = subst (λ (k : List ℕ). IsGap ps k at place) c.key-2.ensures.value (subst (λ (qs : List (List Record)). IsGap qs c.key-2.result.now at place) c.as_slice-2.ensures.value c.in-Err.ensures.gap) in
    elim c.match-put_at.branch [
      | in-Ok-put_at w ↦ rw (w.result-is, ← c.self.view_is) (gap_none ps c.args.rec.key at place c.self.invariant h)
      | in-Err-put_at w ↦ rw w.result-is tt
    ]

pub returns-after-put_at-clause-cause : goal.returns-after-put_at-clause-cause
returns-after-put_at-clause-cause c =
    let ps = c.self.inside.pieces.items in
    let at = c.in-Err.at in
    let place = c.in-Err.place in
    let h : IsGap ps c.args.rec.key at place = subst (λ (k : List ℕ). IsGap ps k at place) c.key-2.ensures.value (subst (λ (qs : List (List Record)). IsGap qs c.key-2.result.now at place) c.as_slice-2.ensures.value c.in-Err.ensures.gap) in
    elim c.match-put_at.branch [
      | in-Ok-put_at w ↦ rw w.result-is tt
      | in-Err-put_at w ↦ rw (w.result-is, ← c.self.view_is) (gap_none ps c.args.rec.key at place c.self.invariant h)
    ]

pub returns-in-Ok-clause-cause : goal.returns-in-Ok-clause-cause
returns-in-Ok-clause-cause c =
    let ps = c.self.inside.pieces.items in
    let at = c.in-Ok.at in
    let place = c.in-Ok.place in
    let key = c.key-2.result.now in
    let x = c.index-recs-place.result in
    let f : IsFound ps key at place = subst (λ (qs : List (List Record)). IsFound qs key at place) c.as_slice-2.ensures.value c.in-Ok.ensures.found in
    let same : c.as_slice-recs.result.now ≡ piece_at ps at = c.as_slice-recs.ensures ∙ c.index-piece.ensures ∙ get_or_default ps at c.index-piece.result.now [] f.held in
    let e : x ≡ get_or (piece_at ps at) place x = subst (λ (xs : List Record). x ≡ get_or xs place x) same c.index-recs-place.is in
    let w = found_in ps at c.self.invariant f.held place x f.within e in
    let keyed : x.key ≡ c.args.rec.key = ap (λ (r : Record). r.key) e ∙ f.same x ∙ c.key-2.ensures.value in
    rw (← c.self.view_is) (w.0, x, w.1, w.2, (sym c.seq-seq.ensures.value, keyed))
