-- The first of some elements in the order of reading, and those behind it.
use Rattle.std.proofs.Common.{◌≡◌, ℕ, suc, ◌+◌, ◌-◌, ◌<◌, ◌≤◌, Bool, true, false, cond, List, [], ◌∷◌, ◌++◌, length, take, drop, reverse, filter, get_or, Option, Some, None, Result, Ok, Err, IfOk, refl, sym, ap, ◌∙◌, arith, append_assoc, append-nil, length-drop}
use Rattle.std.specs.Prelude.{slice_get}
use Rattle.std.specs.List.{cons_option}
use Rattle.std.proofs.lemmas.List.{drop_more, take_more, get_or-drop, reverse-append, length-take, length-reverse}
use Rattle.std.proofs.lemmas.Option.{get_or_from_slice_get, slice_get_within}
use Rattle.lt_rec.specs.Record.{Record}
use Rattle.lt_rec.specs.Records.{joined}
use Rattle.lt_cursor.specs.Order.{in_order}
use Rattle.lt_cursor.specs.Places.{first_place, behind_first, between}
use Rattle.lt_cursor.specs.declared.places.Places.{Places}

module _ {X : Type 0} (xs : List X) (m n : ℕ) where
  pub first_up : (x : X) → m < n → slice_get xs m ≡ Some x → take (n - m) (drop m xs) ≡ x ∷ take (n - (m + 1)) (drop (m + 1) xs)
  first_up x h e =
      let held = slice_get_within xs m x e in
      let k : n - m ≡ suc (n - (m + 1)) = omega arith in
      (λ i. take (k i) (drop_more xs m x held i)) ∙ ap (λ (y : X). y ∷ take (n - (m + 1)) (drop (m + 1) xs)) (get_or_from_slice_get xs m x x e)

  pub last_down : (x : X) → m < n → slice_get xs (n - 1) ≡ Some x → take (n - m) (drop m xs) ≡ take ((n - 1) - m) (drop m xs) ++ x ∷ []
  last_down x h e =
      let held = slice_get_within xs (n - 1) x e in
      let rest = length-drop m xs in
      let k : n - m ≡ ((n - 1) - m) + 1 = omega arith in
      let j : m + ((n - 1) - m) ≡ n - 1 = omega arith in
      ap (λ i. take i (drop m xs)) k
      ∙ take_more (drop m xs) ((n - 1) - m) x (omega arith)
      ∙ ap (λ (y : X). take ((n - 1) - m) (drop m xs) ++ y ∷ []) (get_or-drop m xs ((n - 1) - m) x ∙ ap (λ i. get_or xs i x) j ∙ get_or_from_slice_get xs (n - 1) x x e)

-- of a list's elements at some places
pub first_of : {X : Type 0} (p : Places) (xs : List X) (x : X) → p.from < p.to → slice_get xs (first_place p) ≡ Some x → in_order p.down (between p xs) ≡ x ∷ in_order (behind_first p).down (between (behind_first p) xs)
first_of p xs x h e = by p.down refl
  where
    by : (down : Bool) → p.down ≡ down → in_order p.down (between p xs) ≡ x ∷ in_order (behind_first p).down (between (behind_first p) xs)
    by true d =
        let at : slice_get xs (p.to - 1) ≡ Some x = ap (λ b. slice_get xs (cond b (p.to - 1) p.from)) (sym d) ∙ e in
        rw d (ap reverse (last_down xs p.from p.to x h at) ∙ reverse-append (take ((p.to - 1) - p.from) (drop p.from xs)) (x ∷ []))
    by false d =
        let at : slice_get xs p.from ≡ Some x = ap (λ b. slice_get xs (cond b (p.to - 1) p.from)) (sym d) ∙ e in
        rw d (first_up xs p.from p.to x h at)

pub joined-append : (ps qs : List (List Record)) → joined (ps ++ qs) ≡ joined ps ++ joined qs
joined-append [] qs = refl
joined-append (p ∷ ps) qs = ap (λ xs. p ++ xs) (joined-append ps qs) ∙ sym (append_assoc p (joined ps) (joined qs))

-- of the records of some blocks
pub block_of : (p : Places) (blocks : List (List Record)) (recs : List Record) → p.from < p.to → slice_get blocks (first_place p) ≡ Some recs → in_order p.down (joined (between p blocks)) ≡ in_order p.down recs ++ in_order (behind_first p).down (joined (between (behind_first p) blocks))
block_of p blocks recs h e = by p.down refl
  where
    by : (down : Bool) → p.down ≡ down → in_order p.down (joined (between p blocks)) ≡ in_order p.down recs ++ in_order (behind_first p).down (joined (between (behind_first p) blocks))
    by true d =
        let at : slice_get blocks (p.to - 1) ≡ Some recs = ap (λ b. slice_get blocks (cond b (p.to - 1) p.from)) (sym d) ∙ e in
        let front = take ((p.to - 1) - p.from) (drop p.from blocks) in
        rw d
        (ap (λ (ps : List (List Record)). reverse (joined ps)) (last_down blocks p.from p.to recs h at)
        ∙ ap reverse (joined-append front (recs ∷ []) ∙ ap (λ xs. joined front ++ xs) (append-nil recs))
        ∙ reverse-append (joined front) recs)
    by false d =
        let at : slice_get blocks p.from ≡ Some recs = ap (λ b. slice_get blocks (cond b (p.to - 1) p.from)) (sym d) ∙ e in
        rw d (ap joined (first_up blocks p.from p.to recs h at))

pub kept_down : (p : Places) → (behind_first p).down ≡ p.down
kept_down p = by p.down
  where
    by : (b : Bool) → (cond b (record p { to = p.to - 1 }) (record p { from = p.from + 1 })).down ≡ p.down
    by true = refl
    by false = refl

pub some_places : {X : Type 0} (p : Places) (xs ys : List X) → in_order p.down (between p xs) ≡ ys → 0 < length ys → p.from < p.to
some_places p xs ys e some = by p.down refl
  where
    size : length (between p xs) ≤ p.to - p.from
    size = let n = length-take (p.to - p.from) (drop p.from xs) in omega arith

    by : (down : Bool) → p.down ≡ down → p.from < p.to
    by true d = let l : length ys ≡ length (between p xs) = ap length (sym e ∙ ap (λ b. in_order b (between p xs)) d) ∙ length-reverse (between p xs) in omega (arith, l, size, some)
    by false d = let l : length ys ≡ length (between p xs) = ap length (sym e ∙ ap (λ b. in_order b (between p xs)) d) in omega (arith, l, size, some)

pub first_within : (p : Places) → p.from < p.to → first_place p < p.to
first_within p some = by p.down
  where
    by : (down : Bool) → cond down (p.to - 1) p.from < p.to
    by true = omega (arith, some)
    by false = some

-- what a filter keeps of the first one, given where it passes
pub kept_first : {X : Type 0} (p : X → Bool) (x : X) (xs ys : List X) (given : Option X) → xs ≡ x ∷ ys → given ≡ cond (p x) (Some x) None → filter p xs ≡ cons_option given (filter p ys)
kept_first p x xs ys given e g = ap (filter p) e ∙ by (p x) refl ∙ ap (λ o. cons_option o (filter p ys)) (sym g)
  where
    by : (b : Bool) → p x ≡ b → filter p (x ∷ ys) ≡ cons_option (cond (p x) (Some x) None) (filter p ys)
    by true h = rw h refl
    by false h = rw h refl

-- what follows from an answer other than a refusal
pub if_ok : {T E : Type 0} (P Q : T → Type 0) (r : Result T E) → ((x : T) → P x → Q x) → IfOk r P → IfOk r Q
if_ok P Q (Ok x) f h = f x h
if_ok P Q (Err e) f h = tt

-- the blocks up to a place, and one more
pub joined_more : (blocks : List (List Record)) (i : ℕ) (recs : List Record) → slice_get blocks i ≡ Some recs → joined (take (i + 1) blocks) ≡ joined (take i blocks) ++ recs
joined_more blocks i recs e =
    ap joined (take_more blocks i recs (slice_get_within blocks i recs e)) ∙ joined-append (take i blocks) (get_or blocks i recs ∷ [])
    ∙ ap (λ xs. joined (take i blocks) ++ xs) (append-nil (get_or blocks i recs) ∙ get_or_from_slice_get blocks i recs recs e)

pub no_first : (xs : List Record) → slice_get xs 0 ≡ None → xs ≡ []
no_first [] e = refl
no_first (x ∷ xs) e = absurd cc
