-- Numbers compare as their bytes do, the highest byte first.
use Rattle.std.proofs.Common.{◌≡◌, ℕ, zero, suc, ◌+◌, ◌*◌, ◌/◌, ◌%◌, ◌^◌, ◌<◌, ◌≤◌, List, ◌∷◌, ◌++◌, refl, sym, ap, ◌∙◌, arith, Ordering, Less, Equal, Greater}
use Rattle.std.specs.Int.{w64, byte_at, bytes_high_first, to_be_bytes}
use Rattle.std.specs.Ordering.{nat_cmp, ordering_then, MatchOrdering}
use Rattle.std.specs.Cmp.{ranks}
use Rattle.std.proofs.Math.Nat.{pow-suc, mul_comm}
use Rattle.std.proofs.Math.Arith.{mod-mul}
use Rattle.std.proofs.lemmas.Nat.{mul-le}
use Rattle.std.proofs.lemmas.Bool.Decides.{nat_tests}

-- a comparison of two lists that goes byte by byte
abbrev pub IsByBytes : (List ℕ → List ℕ → Ordering) → Type 0
IsByBytes compare = (a b : ℕ) (r s : List ℕ) → compare (a ∷ r) (b ∷ s) ≡ ordering_then (nat_cmp a b) (compare r s)

pub then_assoc : (o p q : Ordering) → ordering_then (ordering_then o p) q ≡ ordering_then o (ordering_then p q)
then_assoc Less p q = refl
then_assoc Equal p q = refl
then_assoc Greater p q = refl

pub less_is : (a b : ℕ) → a < b → nat_cmp a b ≡ Less
less_is a b lt = grind (arith, nat_tests)

pub equal_is : (a b : ℕ) → a ≡ b → nat_cmp a b ≡ Equal
equal_is a b same = grind (arith, nat_tests)

pub more_is : (a b : ℕ) → b < a → nat_cmp a b ≡ Greater
more_is a b gt = grind (arith, nat_tests)

shifted_by : (c r s : ℕ) (o : Ordering) → MatchOrdering o (r < s) (r ≡ s) (s < r) → nat_cmp (c + r) (c + s) ≡ o
shifted_by c r s Less h = less_is (c + r) (c + s) (omega arith)
shifted_by c r s Equal h = equal_is (c + r) (c + s) (omega arith)
shifted_by c r s Greater h = more_is (c + r) (c + s) (omega arith)

joined_by : (a b r s p : ℕ) (o : Ordering) → MatchOrdering o (a < b) (a ≡ b) (b < a) → r < p → s < p → nat_cmp (a * p + r) (b * p + s) ≡ ordering_then o (nat_cmp r s)
joined_by a b r s p Less h rp sp =
    let more : (a + 1) * p ≤ b * p = mul-le (a + 1) p b p (omega arith) (omega arith) in
    less_is (a * p + r) (b * p + s) (omega arith)
joined_by a b r s p Equal h rp sp = ap (λ (x : ℕ). nat_cmp (x * p + r) (b * p + s)) h ∙ shifted_by (b * p) r s (nat_cmp r s) (ranks r s)
joined_by a b r s p Greater h rp sp =
    let more : (b + 1) * p ≤ a * p = mul-le (b + 1) p a p (omega arith) (omega arith) in
    more_is (a * p + r) (b * p + s) (omega arith)

positive : (k : ℕ) → 0 < 256 ^ k
positive zero = omega arith
positive (suc k) = rw (pow-suc 256 k) (omega (arith, positive k))

byte_is : (k n : ℕ) → byte_at k n ≡ n / 256 ^ k % 256
byte_is zero n = let whole : n ≡ n / 1 = omega arith in ap (λ (x : ℕ). x % 256) whole
byte_is (suc k) n = refl

rest_is : (k n : ℕ) → n % 256 ^ suc k ≡ (n / 256 ^ k % 256) * 256 ^ k + n % 256 ^ k
rest_is k n = ap (λ (x : ℕ). n % x) (pow-suc 256 k ∙ mul_comm (256 ^ k) 256) ∙ mod-mul n (omega arith) (positive k)

first_byte : (k m n : ℕ) → ordering_then (nat_cmp (byte_at k m) (byte_at k n)) (nat_cmp (m % 256 ^ k) (n % 256 ^ k)) ≡ nat_cmp (m % 256 ^ suc k) (n % 256 ^ suc k)
first_byte k m n =
    let p : 0 < 256 ^ k = positive k in
    let a = m / 256 ^ k % 256 in
    let b = n / 256 ^ k % 256 in
    rw (byte_is k m, byte_is k n, rest_is k m, rest_is k n) (sym (joined_by a b (m % 256 ^ k) (n % 256 ^ k) (256 ^ k) (nat_cmp a b) (ranks a b) (omega arith) (omega arith)))

numbers_by : (compare : List ℕ → List ℕ → Ordering) → IsByBytes compare → (k m n : ℕ) (r s : List ℕ)
    → compare (bytes_high_first k m ++ r) (bytes_high_first k n ++ s) ≡ ordering_then (nat_cmp (m % 256 ^ k) (n % 256 ^ k)) (compare r s)
numbers_by compare by zero m n r s =
    let none : nat_cmp (m % 1) (n % 1) ≡ Equal = equal_is (m % 1) (n % 1) (omega arith) in
    ap (λ (o : Ordering). ordering_then o (compare r s)) (sym none)
numbers_by compare by (suc k) m n r s =
    by (byte_at k m) (byte_at k n) (bytes_high_first k m ++ r) (bytes_high_first k n ++ s)
    ∙ ap (λ (o : Ordering). ordering_then (nat_cmp (byte_at k m) (byte_at k n)) o) (numbers_by compare by k m n r s)
    ∙ sym (then_assoc (nat_cmp (byte_at k m) (byte_at k n)) (nat_cmp (m % 256 ^ k) (n % 256 ^ k)) (compare r s))
    ∙ ap (λ (o : Ordering). ordering_then o (compare r s)) (first_byte k m n)

-- numbers of 64 bits, and what stands behind them
pub numbers : (compare : List ℕ → List ℕ → Ordering) → IsByBytes compare → (m n : ℕ) (r s : List ℕ) → m < 2 ^ 64 → n < 2 ^ 64
    → compare (to_be_bytes w64 m ++ r) (to_be_bytes w64 n ++ s) ≡ ordering_then (nat_cmp m n) (compare r s)
numbers compare by m n r s m_fits n_fits =
    let left : m % 18446744073709551616 ≡ m = omega arith in
    let right : n % 18446744073709551616 ≡ n = omega arith in
    numbers_by compare by 8 m n r s ∙ ap (λ (x : ℕ). ordering_then (nat_cmp x (n % 18446744073709551616)) (compare r s)) left ∙ ap (λ (x : ℕ). ordering_then (nat_cmp m x) (compare r s)) right
