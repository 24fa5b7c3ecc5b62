-- What holds in each block of a tablet, or in one, and the records of all of them.
use Rattle.std.proofs.Common.{◌≡◌, ℕ, zero, suc, ◌+◌, List, [], ◌∷◌, ◌++◌, length, refl, sym, subst, ◌∙◌, arith, length-append}
use Rattle.std.specs.Prelude.{slice_get, Some}
use Rattle.std.specs.List.{All, Any}
use Rattle.std.proofs.lemmas.List.Elements.{All-append}
use Rattle.std.proofs.lemmas.List.{get_or-append-add}
use Rattle.std.proofs.Math.ListN.{get_or-append}
use Rattle.lt_rec.specs.Record.{Record}
use Rattle.lt_rec.specs.Records.{joined}

pub all_joined : (P : Record → Type 0) (blocks : List (List Record)) → ((i : ℕ) (recs : List Record) → slice_get blocks i ≡ Some recs → All P recs) → All P (joined blocks)
all_joined P [] each = λ k d h. absurd (omega (arith, h))
all_joined P (b ∷ blocks) each = All-append P b (joined blocks) (each 0 b refl) (all_joined P blocks (λ i recs q. each (suc i) recs q))

any_left : (P : Record → Type 0) (xs ys : List Record) → Any P xs → Any P (xs ++ ys)
any_left P xs ys any =
    let size = length-append xs ys in
    (any.0, any.1, omega (arith, any.2), get_or-append xs ys any.1 any.0 any.2 ∙ any.3, any.4)

any_right : (P : Record → Type 0) (xs ys : List Record) → Any P ys → Any P (xs ++ ys)
any_right P xs ys any =
    let size = length-append xs ys in
    (length xs + any.0, any.1, omega (arith, any.2), get_or-append-add xs ys any.0 any.1 ∙ any.3, any.4)

pub any_joined : (P : Record → Type 0) (blocks : List (List Record)) (i : ℕ) (recs : List Record) → slice_get blocks i ≡ Some recs → Any P recs → Any P (joined blocks)
any_joined P [] i recs q any = absurd cc
any_joined P (b ∷ blocks) zero recs q any =
    let same : b ≡ recs = cc in
    any_left P b (joined blocks) (subst (Any P) (sym same) any)
any_joined P (b ∷ blocks) (suc i) recs q any = any_right P b (joined blocks) (any_joined P blocks i recs q any)

-- what holds of the records of all blocks holds in each
pub all_part : (P : Record → Type 0) (blocks : List (List Record)) (i : ℕ) (recs : List Record) → slice_get blocks i ≡ Some recs → All P (joined blocks) → All P recs
all_part P [] i recs q all = absurd cc
all_part P (b ∷ blocks) zero recs q all =
    let same : b ≡ recs = cc in
    let size = length-append b (joined blocks) in
    subst (All P) same (λ k d w. subst P (get_or-append b (joined blocks) d k w) (all k d (omega (arith, size, w))))
all_part P (b ∷ blocks) (suc i) recs q all =
    let size = length-append b (joined blocks) in
    all_part P blocks i recs q (λ k d w. subst P (get_or-append-add b (joined blocks) k d) (all (length b + k) d (omega (arith, size, w))))
