-- The records of a block below a cut are its first ones.
use Rattle.std.proofs.Common.{◌≡◌, ℕ, zero, suc, ◌+◌, ◌<◌, ◌≤◌, ◌||◌, Bool, true, false, cond, List, [], ◌∷◌, length, get_or, refl, sym, ap, ◌∙◌, arith}
use Rattle.std.specs.Prelude.{count_by}
use Rattle.std.proofs.lemmas.List.{get_or_default}
use Rattle.std.proofs.lemmas.List.Sums.{sum_by-cons}
use Rattle.lt_rec.specs.Bytes.{is_less}
use Rattle.lt_rec.specs.Record.{Record}
use Rattle.lt_rec.specs.Boxes.{is_below}
use Rattle.lt_rec.specs.declared.cut.Cut.{Cut}
use Rattle.lt_block.specs.Spelling.{IsBlock, Rises}
use Rattle.lt_block.specs.Below.{nobody, below_at}
use Rattle.lt_block.proofs.Cuts.{up, count_is}
use Rattle.lt_probe.proofs.Less.{not_less_itself, less_trans}

abbrev count : Cut → List Record → ℕ
count cut recs = count_by (λ x. is_below cut x.key) recs

counted_yes : (cut : Cut) (r : Record) (recs : List Record) → is_below cut r.key ≡ true → count cut (r ∷ recs) ≡ suc (count cut recs)
counted_yes cut r recs e = sum_by-cons (λ x. cond (is_below cut x.key) 1 0) r recs ∙ (ap (λ (b : Bool). cond b 1 0 + count cut recs) e ∙ omega arith)

-- where the first is not below, none is
counted_none : (cut : Cut) (last : List ℕ) (r : Record) (recs : List Record) → Rises last (r ∷ recs) → is_below cut r.key ≡ false → count cut (r ∷ recs) ≡ 0
counted_none cut last r recs rising e =
    count_is cut (r ∷ recs) 0 (omega arith) (λ k lt. absurd (omega (arith, lt))) (λ k ge lt. up cut last (r ∷ recs) 0 k rising lt (omega arith) e)

first_by : (cut : Cut) (last : List ℕ) (r : Record) (recs : List Record) → Rises last (r ∷ recs) → (b : Bool) → is_below cut r.key ≡ b → ((k : ℕ) → k < count cut recs → below_at cut recs k ≡ true) → (k : ℕ) → k < count cut (r ∷ recs) → below_at cut (r ∷ recs) k ≡ true
first_by cut last r recs rising true e rest zero h = e
first_by cut last r recs rising true e rest (suc k) h = rest k (omega (arith, h, counted_yes cut r recs e))
first_by cut last r recs rising false e rest k h = absurd (omega (arith, h, counted_none cut last r recs rising e))

pub first_below : (cut : Cut) (last : List ℕ) (recs : List Record) → Rises last recs → (k : ℕ) → k < count_by (λ x. is_below cut x.key) recs → below_at cut recs k ≡ true
first_below cut last [] rising k h = absurd (omega (arith, h))
first_below cut last (r ∷ recs) rising k h = first_by cut last r recs rising (is_below cut r.key) refl (first_below cut r.key recs rising.1) k h

rest_by : (cut : Cut) (last : List ℕ) (r : Record) (recs : List Record) → Rises last (r ∷ recs) → (b : Bool) → is_below cut r.key ≡ b → ((k : ℕ) → count cut recs ≤ k → k < length recs → below_at cut recs k ≡ false) → (k : ℕ) → count cut (r ∷ recs) ≤ k → k < length (r ∷ recs) → below_at cut (r ∷ recs) k ≡ false
rest_by cut last r recs rising true e rest zero ge lt = absurd (omega (arith, ge, counted_yes cut r recs e))
rest_by cut last r recs rising true e rest (suc k) ge lt = rest k (omega (arith, ge, counted_yes cut r recs e)) (omega (arith, lt))
rest_by cut last r recs rising false e rest k ge lt = up cut last (r ∷ recs) 0 k rising lt (omega arith) e

pub rest_not_below : (cut : Cut) (last : List ℕ) (recs : List Record) → Rises last recs → (k : ℕ) → count_by (λ x. is_below cut x.key) recs ≤ k → k < length recs → below_at cut recs k ≡ false
rest_not_below cut last [] rising k ge lt = absurd (omega (arith, lt))
rest_not_below cut last (r ∷ recs) rising k ge lt = rest_by cut last r recs rising (is_below cut r.key) refl (rest_not_below cut r.key recs rising.1) k ge lt

-- ---- a cut right before its bytes

pub or_none : (a b : Bool) → b ≡ false → (a || b) ≡ a
or_none true b e = refl
or_none false b e = e

pub before_is : (bytes a : List ℕ) → is_below (record { bytes = bytes; after = false }) a ≡ is_less a bytes
before_is bytes a = or_none (is_less a bytes) false refl

pub differs_below : (bytes : List ℕ) (recs : List Record) (k : ℕ) (d : Record) → k < length recs → below_at (record { bytes = bytes; after = false }) recs k ≡ true → (get_or recs k d).key ≡ bytes → ⊥
differs_below bytes recs k d h below same =
    let less : is_less (get_or recs k nobody).key bytes ≡ true = sym (before_is bytes (get_or recs k nobody).key) ∙ below in
    let clash : true ≡ false = sym less ∙ ap (λ (r : Record). is_less r.key bytes) (get_or_default recs k nobody d h) ∙ ap (λ (b : List ℕ). is_less b bytes) same ∙ not_less_itself bytes in
    absurd cc

pub first_not_less : (bytes : List ℕ) (recs : List Record) (place : ℕ) → IsBlock recs → place ≡ count_by (λ r. is_below (record { bytes = bytes; after = false }) r.key) recs → place < length recs → is_less (get_or recs place nobody).key bytes ≡ false
first_not_less bytes recs place block is within =
    sym (before_is bytes (get_or recs place nobody).key) ∙ rest_not_below (record { bytes = bytes; after = false }) [] recs block.rising place (omega (arith, is)) within

-- ---- each key is below all later ones

rises_over : (last : List ℕ) (recs : List Record) → Rises last recs → (k : ℕ) (d : Record) → k < length recs → is_less last (get_or recs k d).key ≡ true
rises_over last [] rising k d h = absurd (omega (arith, h))
rises_over last (r ∷ recs) rising zero d h = rising.0
rises_over last (r ∷ recs) rising (suc k) d h = less_trans last r.key (get_or recs k d).key rising.0 (rises_over r.key recs rising.1 k d (omega (arith, h)))

pub rises_pairs : (last : List ℕ) (recs : List Record) → Rises last recs → (i j : ℕ) (d : Record) → i < j → j < length recs → is_less (get_or recs i d).key (get_or recs j d).key ≡ true
rises_pairs last [] rising i j d lt h = absurd (omega (arith, h))
rises_pairs last (r ∷ recs) rising i zero d lt h = absurd (omega (arith, lt))
rises_pairs last (r ∷ recs) rising zero (suc j) d lt h = rises_over r.key recs rising.1 j d (omega (arith, h))
rises_pairs last (r ∷ recs) rising (suc i) (suc j) d lt h = rises_pairs r.key recs rising.1 i j d (omega (arith, lt)) (omega (arith, h))
