-- The records below a cut are the first ones.
use Rattle.std.proofs.Common.{◌≡◌, ℕ, zero, suc, ◌+◌, ◌<◌, ◌≤◌, Bool, true, false, cond, eqb, ◌&&◌, ◌||◌, List, [], ◌∷◌, length, take, Less, Equal, Greater, Ordering, refl, sym, ap, ◌∙◌, arith, inl, inr}
use Rattle.std.specs.Prelude.{count_by}
use Rattle.std.proofs.lemmas.Bool.{cases_order, cases_Bool, eq-eqb, ne_eqb}
use Rattle.std.specs.Ordering.{is_lt, nat_cmp, ordering_then}
use Rattle.std.specs.Cmp.{nat_cmp_is}
use Rattle.std.specs.Cmp.Lexicographic.{slice_cmp, pointwise}
use Rattle.std.proofs.lemmas.List.Sums.{sum_by-cons}
use Rattle.lt_rec.specs.Bytes.{is_less, begins_with}
use Rattle.lt_rec.specs.Record.{Record}
use Rattle.lt_rec.specs.Boxes.{is_below}
use Rattle.lt_rec.specs.declared.cut.Cut.{Cut}
use Rattle.lt_block.specs.Spelling.{Rises}
use Rattle.lt_block.specs.Below.{below_at}

abbrev at_cut : Bool → List ℕ → List ℕ → Bool
at_cut after key c = is_less key c || (after && begins_with key c)

and_false : (b : Bool) → (b && false) ≡ false
and_false true = refl
and_false false = refl

head_less : (after : Bool) (z : ℕ) (a : List ℕ) (x : ℕ) (c : List ℕ) → z < x → at_cut after (z ∷ a) (x ∷ c) ≡ true
head_less after z a x c lt = ap (λ (o : Ordering). is_lt (ordering_then o (slice_cmp nat_cmp a c)) || (after && begins_with (z ∷ a) (x ∷ c))) (sym (nat_cmp_is z x Less lt))

head_same : (after : Bool) (z : ℕ) (a : List ℕ) (x : ℕ) (c : List ℕ) → z ≡ x → at_cut after (z ∷ a) (x ∷ c) ≡ at_cut after a c
head_same after z a x c e =
    ap (λ (o : Ordering). is_lt (ordering_then o (slice_cmp nat_cmp a c)) || (after && begins_with (z ∷ a) (x ∷ c))) (sym (nat_cmp_is z x Equal e))
    ∙ ap (λ (t : Bool). is_less a c || (after && (t && pointwise eqb c (take (length c) a)))) (eq-eqb x z (sym e))

head_more : (after : Bool) (z : ℕ) (a : List ℕ) (x : ℕ) (c : List ℕ) → x < z → at_cut after (z ∷ a) (x ∷ c) ≡ false
head_more after z a x c lt =
    ap (λ (o : Ordering). is_lt (ordering_then o (slice_cmp nat_cmp a c)) || (after && begins_with (z ∷ a) (x ∷ c))) (sym (nat_cmp_is z x Greater lt))
    ∙ (ap (λ (t : Bool). after && (t && pointwise eqb c (take (length c) a))) (ne_eqb x z (λ e. omega (arith, e, lt))) ∙ and_false after)

less_same : (z : ℕ) (a : List ℕ) (y : ℕ) (b : List ℕ) → z ≡ y → is_less (z ∷ a) (y ∷ b) ≡ is_less a b
less_same z a y b e = ap (λ (o : Ordering). is_lt (ordering_then o (slice_cmp nat_cmp a b))) (sym (nat_cmp_is z y Equal e))

less_more : (z : ℕ) (a : List ℕ) (y : ℕ) (b : List ℕ) → y < z → is_less (z ∷ a) (y ∷ b) ≡ false
less_more z a y b lt = ap (λ (o : Ordering). is_lt (ordering_then o (slice_cmp nat_cmp a b))) (sym (nat_cmp_is z y Greater lt))

no : {A : Type 0} (b : Bool) → b ≡ false → b ≡ true → A
no true f t = absurd cc
no false f t = absurd cc

-- a key less than one below the cut is below it
mono : (after : Bool) (a b c : List ℕ) → is_less a b ≡ true → at_cut after b c ≡ true → at_cut after a c ≡ true
mono after [] [] [] h k = k
mono after [] (y ∷ b) [] h k = k
mono after (z ∷ a) [] [] h k = k
mono after (z ∷ a) (y ∷ b) [] h k = k
mono after [] b (x ∷ c) h k = refl
mono after (z ∷ a) [] (x ∷ c) h k = absurd cc
mono after (z ∷ a) (y ∷ b) (x ∷ c) h k =
    elim (cases_order y x) [
      | inl same ↦
          elim (cases_order z y) [
            | inl e ↦ head_same after z a x c (e ∙ same) ∙ mono after a b c (sym (less_same z a y b e) ∙ h) (sym (head_same after y b x c same) ∙ k)
            | inr o ↦ elim o [
              | inl lt ↦ head_less after z a x c (omega (arith, lt, same))
              | inr gt ↦ no (is_less (z ∷ a) (y ∷ b)) (less_more z a y b gt) h
            ]
          ]
      | inr o ↦ elim o [
        | inl below ↦
            elim (cases_order z y) [
              | inl e ↦ head_less after z a x c (omega (arith, e, below))
              | inr p ↦ elim p [
                | inl lt ↦ head_less after z a x c (omega (arith, lt, below))
                | inr gt ↦ no (is_less (z ∷ a) (y ∷ b)) (less_more z a y b gt) h
              ]
            ]
        | inr above ↦ no (at_cut after (y ∷ b) (x ∷ c)) (head_more after y b x c above) k
      ]
    ]

pub down : (cut : Cut) (last : List ℕ) (recs : List Record) (i j : ℕ) → Rises last recs → j < length recs → i ≤ j → below_at cut recs j ≡ true → below_at cut recs i ≡ true
down cut last [] i j rising lt le h = absurd (omega arith)
down cut last (r ∷ recs) (suc i) zero rising lt le h = absurd (omega arith)
down cut last (r ∷ recs) zero zero rising lt le h = h
down cut last (r ∷ recs) (suc i) (suc j) rising lt le h = down cut r.key recs i j rising.1 (omega arith) (omega arith) h
down cut last (r ∷ []) zero (suc j) rising lt le h = absurd (omega arith)
down cut last (r ∷ (s ∷ recs)) zero (suc j) rising lt le h =
    mono cut.after r.key s.key cut.bytes rising.1.0 (down cut r.key (s ∷ recs) zero j rising.1 (omega arith) (omega arith) h)

pub up : (cut : Cut) (last : List ℕ) (recs : List Record) (i j : ℕ) → Rises last recs → j < length recs → i ≤ j → below_at cut recs i ≡ false → below_at cut recs j ≡ false
up cut last recs i j rising lt le h =
    elim (cases_Bool (below_at cut recs j)) [
      | inl t ↦ no (below_at cut recs i) h (down cut last recs i j rising lt le t)
      | inr f ↦ f
    ]

counted_no : (cut : Cut) (r : Record) (recs : List Record) → is_below cut r.key ≡ false → count_by (λ x. is_below cut x.key) (r ∷ recs) ≡ count_by (λ x. is_below cut x.key) recs
counted_no cut r recs e = sum_by-cons (λ x. cond (is_below cut x.key) 1 0) r recs ∙ (ap (λ (b : Bool). cond b 1 0 + count_by (λ x. is_below cut x.key) recs) e ∙ omega arith)

counted_yes : (cut : Cut) (r : Record) (recs : List Record) → is_below cut r.key ≡ true → count_by (λ x. is_below cut x.key) (r ∷ recs) ≡ suc (count_by (λ x. is_below cut x.key) recs)
counted_yes cut r recs e = sum_by-cons (λ x. cond (is_below cut x.key) 1 0) r recs ∙ (ap (λ (b : Bool). cond b 1 0 + count_by (λ x. is_below cut x.key) recs) e ∙ omega arith)

pub count_is : (cut : Cut) (recs : List Record) (n : ℕ) → n ≤ length recs → ((k : ℕ) → k < n → below_at cut recs k ≡ true) → ((k : ℕ) → n ≤ k → k < length recs → below_at cut recs k ≡ false) → count_by (λ r. is_below cut r.key) recs ≡ n
count_is cut [] n le first rest = omega arith
count_is cut (r ∷ recs) zero le first rest =
    counted_no cut r recs (rest 0 (omega arith) (omega arith)) ∙ count_is cut recs 0 (omega arith) (λ k lt. absurd (omega (arith, lt))) (λ k ge lt. rest (suc k) (omega arith) (omega (arith, lt)))
count_is cut (r ∷ recs) (suc n) le first rest =
    counted_yes cut r recs (first 0 (omega arith)) ∙ ap suc (count_is cut recs n (omega arith) (λ k lt. first (suc k) (omega (arith, lt))) (λ k ge lt. rest (suc k) (omega (arith, ge)) (omega (arith, lt))))
