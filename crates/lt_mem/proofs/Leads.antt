-- Leads are in the order of their keys.
use Rattle.std.proofs.Common.{◌≡◌, ℕ, zero, suc, ◌+◌, ◌-◌, ◌*◌, ◌^◌, ◌<◌, ◌≤◌, true, List, [], ◌∷◌, length, get_or, insert, refl, sym, ap, subst, ◌∙◌, arith, Ordering, Less, Equal, Greater}
use Rattle.std.specs.Int.{w128, sum_through, byte_worth, from_be_bytes}
use Rattle.std.specs.List.{All}
use Rattle.std.specs.Ordering.{is_lt, nat_cmp, ordering_then, MatchOrdering}
use Rattle.std.specs.Cmp.{ranks}
use Rattle.std.specs.Cmp.Lexicographic.{slice_cmp}
use Rattle.std.proofs.Math.Nat.{pow-suc}
use Rattle.std.proofs.lemmas.Nat.{mul-le}
use Rattle.std.proofs.lemmas.List.Elements.{All-head, All-tail}
use Rattle.std.proofs.lemmas.List.{get_or_default}
use Rattle.lt_rec.specs.Bytes.{is_less}
use Rattle.lt_rec.specs.Record.{Record}
use Rattle.lt_mem.specs.Lead.{lead_of, IsLead}
use Rattle.lt_mem.specs.Pieces.{first_key}

abbrev pub AreBytes : List ℕ → Type 0
AreBytes key = All (λ b. b < 256) key

positive : (n : ℕ) → 0 < 256 ^ n
positive zero = omega arith
positive (suc n) = rw (pow-suc 256 n) (omega (arith, positive n))

-- a digit and those behind it
digits_bound : (b p r : ℕ) → b < 256 → r < p → b * p + r < p * 256
digits_bound b p r small rest =
    let more : (b + 1) * p ≤ 256 * p = mul-le (b + 1) p 256 p (omega arith) (omega arith) in
    omega arith

pub lead_bound : (n : ℕ) (key : List ℕ) → AreBytes key → lead_of n key < 256 ^ n
unfolding lead_of
lead_bound zero key bytes = omega arith
lead_bound (suc n) [] bytes = positive (suc n)
lead_bound (suc n) (b ∷ bs) bytes =
    rw (pow-suc 256 n) (digits_bound b (256 ^ n) (lead_of n bs) (All-head (λ x. x < 256) b bs bytes) (lead_bound n bs (All-tail (λ x. x < 256) b bs bytes)))

-- one digit more at the end
digit_more : (b q r d : ℕ) → b * (q * 256) + (r * 256 + d) ≡ (b * q + r) * 256 + d
digit_more b q r d = grind arith

pub lead_more : (n : ℕ) (key : List ℕ) → lead_of (suc n) key ≡ lead_of n key * 256 + get_or key n 0
unfolding lead_of
lead_more zero [] = refl
lead_more zero (b ∷ bs) = omega arith
lead_more (suc n) [] = refl
lead_more (suc n) (b ∷ bs) =
    rw (pow-suc 256 n, lead_more n bs) (digit_more b (256 ^ n) (lead_of n bs) (get_or bs n 0))

digit_less : (x y p r s : ℕ) (o rest : Ordering) → MatchOrdering o (x < y) (x ≡ y) (y < x) → s < p → x * p + r < y * p + s → (r < s → is_lt rest ≡ true) → is_lt (ordering_then o rest) ≡ true
digit_less x y p r s Less rest m low lt more = refl
digit_less x y p r s Equal rest m low lt more =
    let same : x * p ≡ y * p = ap (λ k. k * p) m in
    more (omega arith)
digit_less x y p r s Greater rest m low lt more =
    let above : (y + 1) * p ≤ x * p = mul-le (y + 1) p x p (omega arith) (omega arith) in
    absurd (omega arith)

-- the key of the smaller lead is the smaller key
pub lead_less : (n : ℕ) (a b : List ℕ) → AreBytes b → lead_of n a < lead_of n b → is_less a b ≡ true
unfolding lead_of
lead_less zero a b bytes lt = absurd (omega arith)
lead_less (suc n) a [] bytes lt = absurd (omega arith)
lead_less (suc n) [] (y ∷ ys) bytes lt = refl
lead_less (suc n) (x ∷ xs) (y ∷ ys) bytes lt =
    let tail = All-tail (λ k. k < 256) y ys bytes in
    digit_less x y (256 ^ n) (lead_of n xs) (lead_of n ys) (nat_cmp x y) (slice_cmp nat_cmp xs ys) (ranks x y) (lead_bound n ys tail) lt (lead_less n xs ys tail)

pub are_bytes : (key : List ℕ) → ((i : ℕ) → get_or key i 0 < 256) → AreBytes key
are_bytes key fits k d w = let h = fits k in subst (λ b. b < 256) (get_or_default key k 0 d w) h

-- the lead of the first key, once a record is put at this place
pub lead_put : (xs : List Record) (place : ℕ) (r : Record) (lead new : ℕ) → place ≤ length xs → IsLead (first_key xs) lead → (place ≡ 0 → IsLead r.key new) → (0 < place → new ≡ lead) → IsLead (first_key (insert xs place r)) new
lead_put xs zero r lead new within was first later = first refl
lead_put [] (suc k) r lead new within was first later = absurd (omega arith)
lead_put (x ∷ xs) (suc k) r lead new within was first later = subst (IsLead x.key) (sym (later (omega arith))) was

worth : (i b : ℕ) → byte_worth i b ≡ b * 256 ^ i
worth zero b = omega arith
worth (suc i) b = refl

lead_zero : (key : List ℕ) → lead_of 0 key ≡ 0
unfolding lead_of
lead_zero key = refl

digit_down : (l d p : ℕ) → l * (p * 256) + d * p ≡ (l * 256 + d) * p
digit_down l d p = grind arith

-- the digits of a number of sixteen bytes, added up from the highest on
digits_sum : (bs key : List ℕ) → ((i : ℕ) → i < 16 → get_or bs i 0 ≡ get_or key i 0) → (n : ℕ) → n < 16 → sum_through (λ i. byte_worth (15 - i) (get_or bs i 0)) n ≡ lead_of (suc n) key * 256 ^ (15 - n)
digits_sum bs key same zero few =
    let first : lead_of 1 key ≡ get_or key 0 0 = lead_more 0 key ∙ ap (λ l. l * 256 + get_or key 0 0) (lead_zero key) ∙ omega arith in
    worth 15 (get_or bs 0 0) ∙ ap (λ b. b * 256 ^ 15) (same 0 (omega arith) ∙ sym first)
digits_sum bs key same (suc n) few =
    let d = get_or key (suc n) 0 in
    let l = lead_of (suc n) key in
    let p = 256 ^ (15 - suc n) in
    let up : 15 - n ≡ suc (15 - suc n) = omega arith in
    let power : 256 ^ (15 - n) ≡ p * 256 = ap (λ k. 256 ^ k) up ∙ pow-suc 256 (15 - suc n) in
    let here : byte_worth (15 - suc n) (get_or bs (suc n) 0) ≡ d * p = worth (15 - suc n) (get_or bs (suc n) 0) ∙ ap (λ b. b * p) (same (suc n) few) in
    let before : sum_through (λ i. byte_worth (15 - i) (get_or bs i 0)) n ≡ l * (p * 256) = digits_sum bs key same n (omega arith) ∙ ap (λ q. l * q) power in
    (λ i. before i + here i) ∙ digit_down l d p ∙ ap (λ m. m * p) (sym (lead_more (suc n) key))

-- sixteen bytes read as a number are a lead, where the key has the same bytes or has ended and they are 0
pub lead_read : (bs key : List ℕ) (n : ℕ) → ((i : ℕ) → i < 16 → get_or bs i 0 ≡ get_or key i 0) → n ≡ from_be_bytes w128 bs → ((i : ℕ) → get_or key i 0 < 256) → IsLead key n
lead_read bs key n same read fits = record {
  value = read ∙ digits_sum bs key same 15 (omega arith) ∙ omega arith;
  bytes = are_bytes key fits;
}
