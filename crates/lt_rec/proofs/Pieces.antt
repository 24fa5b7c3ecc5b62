-- Fronts, ends and cuts of a piece of a list, read in either direction.
use Rattle.std.proofs.Common.{◌≡◌, ℕ, ◌+◌, ◌-◌, ◌<◌, ◌≤◌, Bool, true, false, List, ◌++◌, length, take, drop, reverse, sym, ap, ◌∙◌, arith}
use Rattle.std.proofs.lemmas.List.{reverse-append, take-append-drop, length-reverse, length-drop, length-take-le, drop-drop, drop-take, take-take}
use Rattle.std.proofs.Math.Seq.{drop-append_seam, take-append_seam}
use Rattle.lt_rec.specs.Record.{Record}
use Rattle.lt_rec.specs.Records.{piece}

module _ {X : Type 0} where
  turned : (k : ℕ) (ys : List X) → reverse ys ≡ reverse (drop k ys) ++ reverse (take k ys)
  turned k ys = ap reverse (sym (take-append-drop k ys)) ∙ reverse-append (take k ys) (drop k ys)

  length_of_end : (k : ℕ) (ys : List X) → k ≤ length ys → length (reverse (drop (length ys - k) ys)) ≡ k
  length_of_end k ys h =
      let rest = length-drop (length ys - k) ys in
      let same = length-reverse (drop (length ys - k) ys) in
      omega arith

  drop-reverse : (a : ℕ) (ys : List X) → a ≤ length ys → drop a (reverse ys) ≡ reverse (take (length ys - a) ys)
  drop-reverse a ys h =
      let A = reverse (drop (length ys - a) ys) in
      let B = reverse (take (length ys - a) ys) in
      (λ i. drop (sym (length_of_end a ys h) i) (turned (length ys - a) ys i)) ∙ drop-append_seam A B

  take-reverse : (b : ℕ) (ys : List X) → b ≤ length ys → take b (reverse ys) ≡ reverse (drop (length ys - b) ys)
  take-reverse b ys h =
      let A = reverse (drop (length ys - b) ys) in
      let B = reverse (take (length ys - b) ys) in
      (λ i. take (sym (length_of_end b ys h) i) (turned (length ys - b) ys i)) ∙ take-append_seam A B

  take_same : (ys : List X) (j k : ℕ) → j ≡ k → take j ys ≡ take k ys
  take_same ys j k e = ap (λ l. take l ys) e

  -- a list of k elements, without its first a
  drop-take_as : (ys : List X) (a k l : ℕ) → k ≡ a + l → drop a (take k ys) ≡ take l (drop a ys)
  drop-take_as ys a k l e = ap (λ j. drop a (take j ys)) e ∙ drop-take a l ys

  -- the last a of k elements left out, and then turned; and the first b of that
  drop-turned : (ys : List X) (k a l : ℕ) → k ≤ length ys → k ≡ a + l → drop a (reverse (take k ys)) ≡ reverse (take l ys)
  drop-turned ys k a l h e =
      let long = length-take-le k ys h in
      drop-reverse a (take k ys) (omega arith)
      ∙ ap reverse (take_same (take k ys) (length (take k ys) - a) l (omega arith) ∙ take-take l k ys (omega arith))

  take-turned : (ys : List X) (k b l : ℕ) → k ≤ length ys → k ≡ l + b → take b (reverse (take k ys)) ≡ reverse (take b (drop l ys))
  take-turned ys k b l h e =
      let long = length-take-le k ys h in
      let rest : length (take k ys) - b ≡ l = omega arith in
      take-reverse b (take k ys) (omega arith)
      ∙ ap reverse (ap (λ j. drop j (take k ys)) rest ∙ drop-take_as ys l k b e)

  -- the end of what lies between m and n
  end_between : (xs : List X) (m n a j : ℕ) → j ≡ m + a → take (n - j) (drop a (drop m xs)) ≡ take (n - j) (drop j xs)
  end_between xs m n a j e = ap (λ ys. take (n - j) ys) (drop-drop a m xs ∙ ap (λ i. drop i xs) (sym e))

pub skip_first_up : (xs : List Record) (m n : ℕ) (down : Bool) → down ≡ false → m < n → n ≤ length xs → drop 1 (piece xs m n down) ≡ piece xs (m + 1) n down
skip_first_up xs m n down d h k = rw d (drop-take_as (drop m xs) 1 (n - m) (n - (m + 1)) (omega arith) ∙ end_between xs m n 1 (m + 1) (omega arith))

pub skip_first_down : (xs : List Record) (m n : ℕ) (down : Bool) → down ≡ true → m < n → n ≤ length xs → drop 1 (piece xs m n down) ≡ piece xs m (n - 1) down
skip_first_down xs m n down d h k =
    let rest = length-drop m xs in
    rw d (drop-turned (drop m xs) (n - m) 1 ((n - 1) - m) (omega arith) (omega arith))

pub skip_last_down : (xs : List Record) (m n : ℕ) (down : Bool) → down ≡ true → m < n → n ≤ length xs → take (length (piece xs m n down) - 1) (piece xs m n down) ≡ piece xs (m + 1) n down
skip_last_down xs m n down d h k =
    let rest = length-drop m xs in
    let long = length-take-le (n - m) (drop m xs) (omega arith) in
    let turned_long = length-reverse (take (n - m) (drop m xs)) in
    rw d (take_same (reverse (take (n - m) (drop m xs))) (length (reverse (take (n - m) (drop m xs))) - 1) (n - (m + 1)) (omega arith)
    ∙ take-turned (drop m xs) (n - m) (n - (m + 1)) 1 (omega arith) (omega arith)
    ∙ ap reverse (end_between xs m n 1 (m + 1) (omega arith)))

pub cut_up : (xs : List Record) (m n a b i j : ℕ) (down : Bool) → down ≡ false → m ≤ n → n ≤ length xs → a ≤ b → b ≤ n - m → i ≡ m + a → j ≡ m + b → take (b - a) (drop a (piece xs m n down)) ≡ piece xs i j down
cut_up xs m n a b i j down d o k h g e f =
    rw d (ap (λ ys. take (b - a) ys) (drop-take_as (drop m xs) a (n - m) (n - i) (omega arith) ∙ end_between xs m n a i e)
    ∙ take-take (b - a) (n - i) (drop i xs) (omega arith) ∙ take_same (drop i xs) (b - a) (j - i) (omega arith))

pub cut_down : (xs : List Record) (m n a b i j : ℕ) (down : Bool) → down ≡ true → m ≤ n → n ≤ length xs → a ≤ b → b ≤ n - m → i ≡ n - b → j ≡ n - a → take (b - a) (drop a (piece xs m n down)) ≡ piece xs i j down
cut_down xs m n a b i j down d o k h g e f =
    let rest = length-drop m xs in
    rw d (ap (λ ys. take (b - a) ys) (drop-turned (drop m xs) (n - m) a (j - m) (omega arith) (omega arith))
    ∙ take-turned (drop m xs) (j - m) (b - a) (i - m) (omega arith) (omega arith)
    ∙ ap reverse (take_same (drop (i - m) (drop m xs)) (b - a) (j - i) (omega arith) ∙ end_between xs m j (i - m) i (omega arith)))

pub length_piece : (xs : List Record) (m n : ℕ) (down : Bool) → m ≤ n → n ≤ length xs → length (piece xs m n down) ≡ n - m
length_piece xs m n true o k = let rest = length-drop m xs in length-reverse (take (n - m) (drop m xs)) ∙ length-take-le (n - m) (drop m xs) (omega arith)
length_piece xs m n false o k = let rest = length-drop m xs in length-take-le (n - m) (drop m xs) (omega arith)
