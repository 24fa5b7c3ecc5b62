-- Rows and the places of their tablets.
use Rattle.std.proofs.Common.{◌≡◌, ◌≢◌, ℕ, ◌+◌, ◌<◌, ◌≤◌, Bool, true, false, List, [], ◌∷◌, ◌++◌, length, drop, get_or, nat_eq, not, filter, refl, sym, ap, ◌∙◌, inl, inr, arith, length-append, eq-eqb, add-one}
use Rattle.std.specs.List.{prefix_len, IsDistinct}
use Rattle.std.proofs.Math.ListN.{get_or-append}
use Rattle.std.proofs.Math.Seq.{get_or-append_seam}
use Rattle.std.proofs.lemmas.List.Elements.{recursion_from_All}
use Rattle.std.proofs.lemmas.List.Folds.{list_any_at, Any-from_list_any}
use Rattle.std.proofs.lemmas.Bool.{cases_lt, cases_Bool, eqb-true, ne_eqb}
use Rattle.std.proofs.lemmas.Grind.{get_or_default_zero}
use Rattle.lt_rec.specs.Closure.{has}
use Rattle.lt_deps.specs.Kept.{IsAt}

-- a tablet stands at one place alone
pub same_place : (ts : List ℕ) (i j : ℕ) → ((i j : ℕ) → i < j → j < length ts → get_or ts i 0 ≢ get_or ts j 0) → i < length ts → j < length ts → get_or ts i 0 ≡ get_or ts j 0 → i ≡ j
same_place ts i j distinct h k e = elim (cases_lt i j) [
  | inl low ↦ absurd (distinct i j low k e)
  | inr up ↦ elim (cases_lt j i) [ inl high ↦ absurd (distinct j i high h (sym e)) | inr down ↦ omega arith ]
]

-- a tablet that stands at a place of the list is one of it, and the other way
pub has_at : (xs : List ℕ) (i u : ℕ) → i < length xs → get_or xs i 0 ≡ u → has xs u ≡ true
has_at xs i u h e = list_any_at (λ held. nat_eq held u) xs i 0 h (eq-eqb (get_or xs i 0) u e)

pub at_has : (xs : List ℕ) (u : ℕ) → has xs u ≡ true → (i : ℕ) × (i < length xs) × (get_or xs i 0 ≡ u)
at_has xs u h =
    let a = Any-from_list_any (λ held. nat_eq held u) xs h in
    let e : get_or xs a.0 a.1 ≡ a.1 = a.3 in
    let z : get_or xs a.0 a.1 ≡ get_or xs a.0 0 = get_or_default_zero xs a.0 a.1 a.2 in
    (a.0, a.2, sym z ∙ e ∙ eqb-true a.1 u a.4)

at_next : (x : ℕ) (xs : List ℕ) (k : ℕ) → get_or xs k 0 ≡ get_or (x ∷ xs) (k + 1) 0
at_next x xs k = rw add-one refl

-- numbers that differ by place differ
pub distinct_from_places : (xs : List ℕ) → ((i j : ℕ) → i < j → j < length xs → get_or xs i 0 ≢ get_or xs j 0) → IsDistinct nat_eq xs
unfolding IsDistinct
distinct_from_places [] d = tt
distinct_from_places (x ∷ xs) d = (
  recursion_from_All (λ y. nat_eq x y ≡ false) xs (λ k e h. ne_eqb x (get_or xs k e) (λ s. d 0 (k + 1) (omega arith) (omega arith) (s ∙ get_or_default_zero xs k e h ∙ at_next x xs k))),
  distinct_from_places xs (λ i j h k s. d (i + 1) (j + 1) (omega arith) (omega arith) (sym (at_next x xs i) ∙ s ∙ at_next x xs j)),
)

filter_none : (p : ℕ → Bool) (xs : List ℕ) → ((k : ℕ) → k < length xs → p (get_or xs k 0) ≡ false) → filter (λ x. not (p x)) xs ≡ xs
filter_none p [] h = refl
filter_none p (x ∷ xs) h =
    let e : p x ≡ false = h 0 (omega arith) in
    let kept : filter (λ y. not (p y)) (x ∷ xs) ≡ x ∷ filter (λ y. not (p y)) xs = rw e refl in
    kept ∙ ap (λ ys. x ∷ ys) (filter_none p xs (λ k b. ap p (at_next x xs k) ∙ h (k + 1) (omega arith)))

-- where the first elements pass and no other does, a filter leaves just the first ones out
pub filter_end : (p : ℕ → Bool) (xs : List ℕ) → ((k : ℕ) → prefix_len p xs ≤ k → k < length xs → p (get_or xs k 0) ≡ false) → filter (λ x. not (p x)) xs ≡ drop (prefix_len p xs) xs
filter_end p [] h = refl
filter_end p (x ∷ xs) h = elim (cases_Bool (p x)) [
  | inl e ↦
      let n = prefix_len p xs in
      let long : prefix_len p (x ∷ xs) ≡ n + 1 = rw e (omega arith) in
      let gone : filter (λ y. not (p y)) (x ∷ xs) ≡ filter (λ y. not (p y)) xs = rw e refl in
      let shorter : drop (n + 1) (x ∷ xs) ≡ drop n xs = rw add-one refl in
      gone ∙ filter_end p xs (λ k a b. ap p (at_next x xs k) ∙ h (k + 1) (omega arith) (omega arith)) ∙ sym shorter ∙ ap (λ k. drop k (x ∷ xs)) (sym long)
  | inr e ↦
      let long : prefix_len p (x ∷ xs) ≡ 0 = rw e refl in
      let kept : filter (λ y. not (p y)) (x ∷ xs) ≡ x ∷ filter (λ y. not (p y)) xs = rw e refl in
      kept ∙ ap (λ ys. x ∷ ys) (filter_none p xs (λ k b. ap p (at_next x xs k) ∙ h (k + 1) (omega arith) (omega arith))) ∙ ap (λ k. drop k (x ∷ xs)) (sym long)
]

pub at_more : (ts notes : List ℕ) (t row place : ℕ) → IsAt ts notes row place → IsAt ts (notes ++ t ∷ []) row place
at_more ts notes t row place a = record {
  noted = (let n = a.noted in let long = length-append notes (t ∷ []) in omega arith);
  held = a.held;
  same = get_or-append notes (t ∷ []) 0 row a.noted ∙ a.same;
}

pub at_before : (ts notes : List ℕ) (t row place : ℕ) → row < length notes → IsAt ts (notes ++ t ∷ []) row place → IsAt ts notes row place
at_before ts notes t row place h a = record {
  noted = h;
  held = a.held;
  same = sym (get_or-append notes (t ∷ []) 0 row h) ∙ a.same;
}

-- the row that is added
pub new_row : (notes : List ℕ) (t row : ℕ) → row ≡ length notes → get_or (notes ++ t ∷ []) row 0 ≡ t
new_row notes t row e = ap (λ r. get_or (notes ++ t ∷ []) r 0) e ∙ get_or-append_seam notes t [] 0
