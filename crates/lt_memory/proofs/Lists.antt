-- Lists by their elements.
use Rattle.std.proofs.Common.{◌≡◌, ℕ, ◌+◌, ◌<◌, ◌≤◌, ◌⊎◌, List, [], ◌∷◌, ◌++◌, length, get_or, set, take, drop, insert, map, Contains, refl, sym, ◌∙◌, ap, subst, inl, inr, ⊎_elim, arith, length-append}
use Rattle.std.specs.List.Sorted.{IsStrictlyIncreasing}
use Rattle.std.proofs.lemmas.Bool.{cases_eq, cases_lt}
use Rattle.std.proofs.lemmas.List.{get_or-set_same, get_or-set_other, take-append-drop, get_or_append_left, get_or_push, get_or_default, length-set, take_more}
use Rattle.std.proofs.lemmas.List.Elements.{Contains-append_left, Contains-append_right, Contains-append_cases, Contains-push, Contains-push_cases}

pub none_in : {X : Type 0} (x : X) → Contains [] x → ⊥
none_in x among = omega (arith, among.1)

pub first_in : {X : Type 0} (x : X) (xs : List X) → Contains (x ∷ xs) x
first_in x xs = (0, omega arith, refl)

pub later_in : {X : Type 0} (first : X) (xs : List X) (x : X) → Contains xs x → Contains (first ∷ xs) x
later_in first xs x among = Contains-append_right (first ∷ []) xs x among

pub cons_cases : {X : Type 0} (first : X) (xs : List X) (x : X) → Contains (first ∷ xs) x → (first ≡ x) ⊎ Contains xs x
cons_cases first xs x among = ⊎_elim
    (λ here. ⊎_elim (λ none. absurd (none_in x none)) (λ same. inl same) (Contains-push_cases [] first x here))
    (λ later. inr later)
    (Contains-append_cases (first ∷ []) xs x among)

-- ---- one element is replaced

pub set_has : {X : Type 0} (xs : List X) (i : ℕ) (v : X) → i < length xs → Contains (set xs i v) v
set_has xs i v held = (i, simp length-set held, get_or-set_same xs i v v held)

pub set_origin : {X : Type 0} (xs : List X) (i : ℕ) (v x : X) → Contains (set xs i v) x → Contains xs x ⊎ (v ≡ x)
set_origin xs i v x among =
    let held : among.0 < length xs = simp length-set at among.1 in
    ⊎_elim
    (λ (same : among.0 ≡ i).
    let within : i < length xs = omega (arith, same, held) in
    inr (sym (get_or-set_same xs i v x within) ∙ subst (λ (k : ℕ). get_or (set xs i v) k x ≡ x) same among.2))
    (λ differ. inl (among.0, held, sym (get_or-set_other xs i among.0 v x differ) ∙ among.2))
    (cases_eq among.0 i)

pub set_keeps : {X : Type 0} (xs : List X) (i : ℕ) (v old x : X) → get_or xs i old ≡ old → i < length xs → Contains xs x → Contains (set xs i v) x ⊎ (old ≡ x)
set_keeps xs i v old x is within among = ⊎_elim
    (λ (same : among.0 ≡ i).
    inr (sym is ∙ get_or_default xs i old x within ∙ subst (λ (k : ℕ). get_or xs k x ≡ x) same among.2))
    (λ differ. inl (among.0, simp length-set among.1, get_or-set_other xs i among.0 v x differ ∙ among.2))
    (cases_eq among.0 i)

-- ---- one element is put among the others

pub insert_has : {X : Type 0} (xs : List X) (i : ℕ) (v : X) → Contains (insert xs i v) v
insert_has xs i v = Contains-append_right (take i xs) (v ∷ drop i xs) v (first_in v (drop i xs))

pub insert_origin : {X : Type 0} (xs : List X) (i : ℕ) (v x : X) → Contains (insert xs i v) x → Contains xs x ⊎ (v ≡ x)
insert_origin xs i v x among =
    let back = subst (λ ys. Contains ys x) (take-append-drop i xs) in
    ⊎_elim
    (λ front. inl (back (Contains-append_left (take i xs) (drop i xs) x front)))
    (λ rest. ⊎_elim
    (λ same. inr same)
    (λ later. inl (back (Contains-append_right (take i xs) (drop i xs) x later)))
    (cons_cases v (drop i xs) x rest))
    (Contains-append_cases (take i xs) (v ∷ drop i xs) x among)

pub insert_keeps : {X : Type 0} (xs : List X) (i : ℕ) (v x : X) → Contains xs x → Contains (insert xs i v) x
insert_keeps xs i v x among = ⊎_elim
    (λ front. Contains-append_left (take i xs) (v ∷ drop i xs) x front)
    (λ back. Contains-append_right (take i xs) (v ∷ drop i xs) x (later_in v (drop i xs) x back))
    (Contains-append_cases (take i xs) (drop i xs) x (subst (λ ys. Contains ys x) (sym (take-append-drop i xs)) among))

-- ---- images

pub record Origin {X Y : Type 0} (f : X → Y) (xs : List X) (y : Y) : Type 0 where
  pub from : X
  pub among : Contains xs from
  pub same : f from ≡ y

pub origin : {X Y : Type 0} (f : X → Y) (xs : List X) (y : Y) → Contains (map f xs) y → Origin f xs y
origin f [] y among = absurd (none_in y among)
origin f (first ∷ xs) y among = ⊎_elim
    (λ same. record { from = first; among = first_in first xs; same = same })
    (λ later. let o = origin f xs y later in record { from = o.from; among = later_in first xs o.from o.among; same = o.same })
    (cons_cases (f first) (map f xs) y among)

pub in_images : {X Y : Type 0} (f : X → Y) (xs : List X) (x : X) → Contains xs x → Contains (map f xs) (f x)
in_images f [] x among = absurd (none_in x among)
in_images f (first ∷ xs) x among = ⊎_elim
    (λ same. subst (λ z. Contains (map f (first ∷ xs)) (f z)) same (first_in (f first) (map f xs)))
    (λ later. later_in (f first) (map f xs) (f x) (in_images f xs x later))
    (cons_cases first xs x among)

-- ---- numbers that rise

pub rising_more : (xs : List ℕ) (n : ℕ) → IsStrictlyIncreasing xs → ((k : ℕ) → k < length xs → get_or xs k 0 < n) → IsStrictlyIncreasing (xs ++ n ∷ [])
rising_more xs n rising below k within =
    let long : length (xs ++ n ∷ []) ≡ length xs + 1 = length-append xs (n ∷ []) in
    ⊎_elim
    (λ (early : k + 1 < length xs).
    let at : k < length xs = omega arith in
    rw (get_or_append_left xs (n ∷ []) 0 k at, get_or_append_left xs (n ∷ []) 0 (k + 1) early) (rising k early))
    (λ (late : length xs ≤ k + 1).
    let end : k + 1 ≡ length xs = omega (arith, long, within) in
    let at : k < length xs = omega arith in
    rw (get_or_append_left xs (n ∷ []) 0 k at, get_or_push xs n 0 (k + 1) (sym end)) (below k at))
    (cases_lt (k + 1) (length xs))

pub take_one_more : {X : Type 0} (xs : List X) (i : ℕ) (x : X) → i < length xs → x ≡ get_or xs i x → take (i + 1) xs ≡ take i xs ++ x ∷ []
take_one_more xs i x held is = take_more xs i x held ∙ ap (λ y. take i xs ++ y ∷ []) (sym is)
