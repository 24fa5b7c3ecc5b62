-- Keys of one stem rise with their timestamps, whose bytes stand in them with the highest first.
use Rattle.std.proofs.Common.{◌≡◌, ℕ, zero, suc, ◌+◌, ◌-◌, ◌*◌, ◌/◌, ◌%◌, ◌^◌, ◌<◌, ◌≤◌, true, List, [], ◌∷◌, ◌++◌, length, refl, sym, ap, ◌∙◌, arith, Ordering, Less, Equal, Greater}
use Rattle.std.specs.Int.{w64, byte_at, bytes_high_first, to_be_bytes}
use Rattle.std.specs.Ordering.{is_lt, nat_cmp, ordering_then, MatchOrdering}
use Rattle.std.specs.Cmp.{ranks, nat_cmp_is}
use Rattle.std.specs.Cmp.Lexicographic.{slice_cmp}
use Rattle.std.proofs.Math.Nat.{pow-suc, mul_comm}
use Rattle.std.proofs.Math.Arith.{mod-mul}
use Rattle.std.proofs.lemmas.Nat.{mul-le}
use Rattle.std.proofs.lemmas.List.{take-append-drop}
use Rattle.lt_rec.specs.Bytes.{is_less}
use Rattle.lt_rec.specs.Record.{Record, IsRecord, stem_of}

-- ---- numbers, byte by byte

shifted_by : (c r s : ℕ) (o : Ordering) → MatchOrdering o (r < s) (r ≡ s) (s < r) → nat_cmp (c + r) (c + s) ≡ o
shifted_by c r s Less h = sym (nat_cmp_is (c + r) (c + s) Less (omega arith))
shifted_by c r s Equal h = sym (nat_cmp_is (c + r) (c + s) Equal (omega arith))
shifted_by c r s Greater h = sym (nat_cmp_is (c + r) (c + s) Greater (omega arith))

joined_by : (a b r s p : ℕ) (o : Ordering) → MatchOrdering o (a < b) (a ≡ b) (b < a) → r < p → s < p → nat_cmp (a * p + r) (b * p + s) ≡ ordering_then o (nat_cmp r s)
joined_by a b r s p Less h rp sp =
    let more : (a + 1) * p ≤ b * p = mul-le (a + 1) p b p (omega arith) (omega arith) in
    sym (nat_cmp_is (a * p + r) (b * p + s) Less (omega arith))
joined_by a b r s p Equal h rp sp = ap (λ (x : ℕ). nat_cmp (x * p + r) (b * p + s)) h ∙ shifted_by (b * p) r s (nat_cmp r s) (ranks r s)
joined_by a b r s p Greater h rp sp =
    let more : (b + 1) * p ≤ a * p = mul-le (b + 1) p a p (omega arith) (omega arith) in
    sym (nat_cmp_is (a * p + r) (b * p + s) Greater (omega arith))

positive : (k : ℕ) → 0 < 256 ^ k
positive zero = omega arith
positive (suc k) = rw (pow-suc 256 k) (omega (arith, positive k))

byte_is : (k n : ℕ) → byte_at k n ≡ n / 256 ^ k % 256
byte_is zero n = let whole : n ≡ n / 1 = omega arith in ap (λ (x : ℕ). x % 256) whole
byte_is (suc k) n = refl

rest_is : (k n : ℕ) → n % 256 ^ suc k ≡ (n / 256 ^ k % 256) * 256 ^ k + n % 256 ^ k
rest_is k n = ap (λ (x : ℕ). n % x) (pow-suc 256 k ∙ mul_comm (256 ^ k) 256) ∙ mod-mul n (omega arith) (positive k)

first_byte : (k m n : ℕ) → ordering_then (nat_cmp (byte_at k m) (byte_at k n)) (nat_cmp (m % 256 ^ k) (n % 256 ^ k)) ≡ nat_cmp (m % 256 ^ suc k) (n % 256 ^ suc k)
first_byte k m n =
    let p : 0 < 256 ^ k = positive k in
    let a = m / 256 ^ k % 256 in
    let b = n / 256 ^ k % 256 in
    rw (byte_is k m, byte_is k n, rest_is k m, rest_is k n) (sym (joined_by a b (m % 256 ^ k) (n % 256 ^ k) (256 ^ k) (nat_cmp a b) (ranks a b) (omega arith) (omega arith)))

numbers_by : (k m n : ℕ) → slice_cmp nat_cmp (bytes_high_first k m) (bytes_high_first k n) ≡ nat_cmp (m % 256 ^ k) (n % 256 ^ k)
numbers_by zero m n = nat_cmp_is (m % 1) (n % 1) Equal (omega arith)
numbers_by (suc k) m n =
    ap (λ (o : Ordering). ordering_then (nat_cmp (byte_at k m) (byte_at k n)) o) (numbers_by k m n) ∙ first_byte k m n

numbers : (m n : ℕ) → m < 2 ^ 64 → n < 2 ^ 64 → slice_cmp nat_cmp (to_be_bytes w64 m) (to_be_bytes w64 n) ≡ nat_cmp m n
numbers m n m_fits n_fits =
    let left : m % 18446744073709551616 ≡ m = omega arith in
    let right : n % 18446744073709551616 ≡ n = omega arith in
    numbers_by 8 m n ∙ ap (λ (x : ℕ). nat_cmp x (n % 18446744073709551616)) left ∙ ap (λ (x : ℕ). nat_cmp m x) right

-- ---- keys of one stem

behind_stem : (stem a b : List ℕ) → slice_cmp nat_cmp (stem ++ a) (stem ++ b) ≡ slice_cmp nat_cmp a b
behind_stem [] a b = refl
behind_stem (x ∷ stem) a b =
    ap (λ (o : Ordering). ordering_then o (slice_cmp nat_cmp (stem ++ a) (stem ++ b))) (sym (nat_cmp_is x x Equal refl)) ∙ behind_stem stem a b

less_by : (m n : ℕ) (o : Ordering) → MatchOrdering o (m < n) (m ≡ n) (n < m) → is_lt o ≡ true → m < n
less_by m n Less h less = h
less_by m n Equal h less = absurd cc
less_by m n Greater h less = absurd cc

key_is : (r : Record) → IsRecord r → r.key ≡ stem_of r.key ++ to_be_bytes w64 r.ts
key_is r law = sym (take-append-drop (length r.key - 8) r.key) ∙ ap (λ (time : List ℕ). stem_of r.key ++ time) law.timed

pub later_in_stem : (a b : Record) (stem : List ℕ) → IsRecord a → IsRecord b → stem_of a.key ≡ stem → stem_of b.key ≡ stem → is_less a.key b.key ≡ true → a.ts < b.ts
later_in_stem a b stem a_law b_law a_stem b_stem less =
    let a_key : a.key ≡ stem ++ to_be_bytes w64 a.ts = key_is a a_law ∙ ap (λ (s : List ℕ). s ++ to_be_bytes w64 a.ts) a_stem in
    let b_key : b.key ≡ stem ++ to_be_bytes w64 b.ts = key_is b b_law ∙ ap (λ (s : List ℕ). s ++ to_be_bytes w64 b.ts) b_stem in
    let by_times : slice_cmp nat_cmp a.key b.key ≡ nat_cmp a.ts b.ts =
    ap (λ (k : List ℕ). slice_cmp nat_cmp k b.key) a_key ∙ ap (slice_cmp nat_cmp (stem ++ to_be_bytes w64 a.ts)) b_key
    ∙ behind_stem stem (to_be_bytes w64 a.ts) (to_be_bytes w64 b.ts) ∙ numbers a.ts b.ts a_law.moment b_law.moment in
    less_by a.ts b.ts (nat_cmp a.ts b.ts) (ranks a.ts b.ts) (ap is_lt (sym by_times) ∙ less)
