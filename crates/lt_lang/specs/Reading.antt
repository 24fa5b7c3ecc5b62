-- Reading numbers from left to right: what is found at the front, and what is left.
use Rattle.std.specs.Prelude.{◌≡◌, ℕ, zero, suc, ◌+◌, ◌-◌, ◌*◌, ◌^◌, ℤ, pos, neg_ℤ, ◌==◌, nat_le, nat_lt, List, [], ◌∷◌, Option, Some, None, if◌then◌else◌}
use Rattle.lt_lang.specs.Numbers.{is_digit}

infixl 10 ◌>>=◌
abbrev pub ◌>>=◌ : {A B : Type 0} → Option A → (A → Option B) → Option B
None >>= f = None
(Some x) >>= f = f x

-- what a reader found, seen by view, is what reading finds
abbrev pub Finds : {X Y : Type 0} → (X → Y) → Option X → Option Y → Type 0
Finds view None read = read ≡ None
Finds view (Some x) read = read ≡ Some (view x)

-- what is left after these bytes
unfoldable pub after : List ℕ → List ℕ → Option (List ℕ)
after [] bytes = Some bytes
after (c ∷ cs) [] = None
after (c ∷ cs) (b ∷ bs) = if b == c then after cs bs else None

-- the digit at the front
abbrev pub digit_at : List ℕ → Option (ℕ × List ℕ)
digit_at [] = None
digit_at (b ∷ bs) = if is_digit b then Some (b - 48, bs) else None

-- the number of at most so many digits more behind others that spell n
abbrev pub digits_at : ℕ → ℕ → List ℕ → ℕ × List ℕ
digits_at zero n bytes = (n, bytes)
digits_at (suc limit) n [] = (n, [])
digits_at (suc limit) n (b ∷ bs) = if is_digit b then digits_at limit (10 * n + (b - 48)) bs else (n, b ∷ bs)

unfoldable pub count_at : List ℕ → Option (ℕ × List ℕ)
count_at bytes = do
  digit ← digit_at bytes
  Some (digits_at 19 0 bytes)

unfoldable pub moment_at : List ℕ → Option (ℕ × List ℕ)
moment_at bytes = do
  n ← count_at bytes
  if nat_lt n.0 (2 ^ 62) then Some n else None

unfoldable pub negated_at : List ℕ → Option (ℤ × List ℕ)
negated_at bytes = do
  n ← count_at bytes
  if nat_le n.0 (2 ^ 63) then Some (neg_ℤ (pos n.0), n.1) else None

unfoldable pub unsigned_at : List ℕ → Option (ℤ × List ℕ)
unsigned_at bytes = do
  n ← count_at bytes
  if nat_lt n.0 (2 ^ 63) then Some (pos n.0, n.1) else None

unfoldable pub integer_at : List ℕ → Option (ℤ × List ℕ)
integer_at [] = unsigned_at []
integer_at (b ∷ bs) = if b == 45 then negated_at bs else unsigned_at (b ∷ bs)
