-- What a list weighs, by the numbers of its entries.
use Rattle.std.proofs.Common.{◌≡◌, ℕ, ◌+◌, Bool, true, false, ◌||◌, true≢false, List, [], ◌∷◌, refl, ap, ◌∙◌, arith, eqb, eqb-true}
use Rattle.std.specs.List.{sum_by}
use Rattle.std.proofs.lemmas.List.Sums.{sum_by-cons}
use Rattle.lt_turn.specs.Lists.{entries, keep_if, of, sums, Every, Differ, numbers, has}
use Rattle.lt_turn.specs.Seats.{Sitting, Closed, number, seen, mine, ended, parts}
use Rattle.lt_turn.proofs.Lists.{has_none}

abbrev add_unless : Bool → ℕ → ℕ → ℕ
add_unless true k n = n
add_unless false k n = k + n

module _ {X : Type 0} (h : X → ℕ) where
  -- what the entries weigh that have none of these numbers
  abbrev left : List ℕ → List (ℕ × X) → ℕ
  left ns [] = 0
  left ns (t ∷ ts) = add_unless (has ns t.0) (h t.1) (left ns ts)

  left_none : (list : List (ℕ × X)) → left [] list ≡ sum_by h (entries list)
  left_none [] = refl
  left_none (t ∷ ts) = let a = left_none ts in let b = sum_by-cons h t.1 (entries ts) in omega arith

  one_more : (b c : Bool) (x : X) (l r : ℕ) (rest : List X) → l + sum_by h rest ≡ r → (b ≡ true → c ≡ false) → add_unless (b || c) (h x) l + sum_by h (keep_if b x rest) ≡ add_unless c (h x) r
  one_more true true x l r rest e not_in = absurd (true≢false (not_in refl))
  one_more true false x l r rest e not_in = let a = sum_by-cons h x rest in omega arith
  one_more false true x l r rest e not_in = e
  one_more false false x l r rest e not_in = omega arith

  left_more : (n : ℕ) (ns : List ℕ) (list : List (ℕ × X)) → has ns n ≡ false → left (n ∷ ns) list + sum_by h (of n list) ≡ left ns list
  left_more n ns [] not_in = refl
  left_more n ns (t ∷ ts) not_in =
      one_more (eqb t.0 n) (has ns t.0) t.1 (left (n ∷ ns) ts) (left ns ts) (of n ts) (left_more n ns ts not_in) (λ is. ap (has ns) (eqb-true t.0 n is) ∙ not_in)

  left_ended : (es : List (ℕ × List X)) (list : List (ℕ × X)) → Every (λ e. of e.0 list ≡ e.1) es → Differ (numbers es) → left (numbers es) list + sums h es ≡ sum_by h (entries list)
  left_ended [] list a d = let n = left_none list in omega arith
  left_ended (e ∷ es) list a d =
      let m = left_more e.0 (numbers es) list (has_none (numbers es) e.0 d.0) in
      let r = left_ended es list a.1 d.1 in
      let l : sum_by h (of e.0 list) ≡ sum_by h e.1 = ap (sum_by h) a.0 in
      omega arith

  nothing_left : (ns : List ℕ) (list : List (ℕ × X)) → Every (λ t. has ns t.0 ≡ true) list → left ns list ≡ 0
  nothing_left ns [] a = refl
  nothing_left ns (t ∷ ts) a = ap (λ (b : Bool). add_unless b (h t.1) (left ns ts)) a.0 ∙ nothing_left ns ts a.1

  -- the list of a turn that was closed by a seat with every part weighs what the turn was made with, what the seat added, and
  -- what those added that were joined into it
  pub closed_sum : {T : Type 0} (stands : T → List X → Type 0) (every_part : ℕ) (s : Sitting X) (value : T) (k : Closed stands every_part s value) → parts s ≡ every_part
      → sum_by h (entries k.list) ≡ sum_by h (of 0 (seen s)) + (sum_by h (mine s) + sums h (ended s))
  closed_sum stands every_part s value k whole =
      let a = k.accounts in
      let x = left_more 0 (number s ∷ numbers (ended s)) k.list (has_none (number s ∷ numbers (ended s)) 0 a.apart.0) in
      let y = left_more (number s) (numbers (ended s)) k.list (has_none (numbers (ended s)) (number s) a.apart.1.0) in
      let z = left_ended (ended s) k.list a.ended a.apart.1.1 in
      let none = nothing_left (0 ∷ number s ∷ numbers (ended s)) k.list (k.alone whole) in
      let first : sum_by h (of 0 k.list) ≡ sum_by h (of 0 (seen s)) = ap (sum_by h) k.opening in
      let own : sum_by h (of (number s) k.list) ≡ sum_by h (mine s) = ap (sum_by h) a.own in
      omega arith
