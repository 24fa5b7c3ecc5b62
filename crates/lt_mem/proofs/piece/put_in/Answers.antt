use Rattle.std.proofs.Common.{◌≡◌, ◌⊎◌, inl, inr, Vec, vec_len, Global, List, insert, refl, sym, ap, ◌∙◌}
use Rattle.std.specs.List.{AllZip}
use Rattle.std.specs.Arc.{arc_value}
use Rattle.std.proofs.lemmas.List.Elements.{same_from_all_zip}
use Rattle.std.proofs.lemmas.Result.{on_ok_weaker, on_err_weaker}
use Rattle.lt_rec.specs.Record.{Record}
use Rattle.lt_mem.proofs.piece.put_in.Goals as goal

-- a vector, or a clone of it, has its elements
kept : (old new : Vec Record Global) → (new ≡ old) ⊎ (AllZip (λ x y. x ≡ y) old.items new.items × (vec_len new ≡ vec_len old)) → new.items ≡ old.items
kept old new (inl same) = ap (λ (v : Vec Record Global). v.items) same
kept old new (inr clone) = same_from_all_zip (λ x y. x ≡ y) old.items new.items clone.0 (λ x y same. sym same)

pub returns-in-Err-clause-unchanged : goal.returns-in-Err-clause-unchanged
returns-in-Err-clause-unchanged c = kept (arc_value c.args.recs.now) (arc_value c.make_mut.follows.lender-at-none) (rw c.in-Err.is at c.make_mut.follows.holds-at-none)

pub returns-in-Ok-clause-ok : goal.returns-in-Ok-clause-ok
returns-in-Ok-clause-ok c =
    let front = kept (arc_value c.args.recs.now) c.in-Ok.recs.now c.in-Ok.ensures.value in
    let back = c.make_mut.follows.holds c.place_in_vec.new.items (rw c.in-Ok.is refl) in
    on_ok_weaker c.place_in_vec.result (λ put. ap (λ (v : Vec Record Global). v.items) back ∙ put ∙ ap (λ (xs : List Record). insert xs c.args.place c.args.rec) front) c.place_in_vec.ensures.ok

pub returns-in-Ok-clause-unchanged : goal.returns-in-Ok-clause-unchanged
returns-in-Ok-clause-unchanged c =
    let front = kept (arc_value c.args.recs.now) c.in-Ok.recs.now c.in-Ok.ensures.value in
    let back = c.make_mut.follows.holds c.place_in_vec.new.items (rw c.in-Ok.is refl) in
    on_err_weaker c.place_in_vec.result (λ same. ap (λ (v : Vec Record Global). v.items) back ∙ same ∙ front) c.place_in_vec.ensures.unchanged
