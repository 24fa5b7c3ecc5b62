-- A quotient by 2^64 - 1 divided by the divisor: it is right, or one too small.
use Rattle.std.proofs.Common.{◌≡◌, ℕ, ◌+◌, ◌-◌, ◌*◌, ◌/◌, ◌%◌, ◌^◌, ◌<◌, ◌≤◌, sym, ap, ◌∙◌, arith}
use Rattle.std.proofs.Math.Nat.{div-mul-le_self, lt-div-mul-add, mul-le-mul_left, mul-le-mul_right, mul-lt-mul_of_pos_right, le_of_mul-le-mul_right, lt_of_mul-lt-mul_right}
use Rattle.std.proofs.lemmas.Nat.{pow_pos, mod-mul-add}

pub not_above : (x v n : ℕ) → v ≡ (2 ^ 64 - 1) / n → x * v / 2 ^ 64 * n ≤ x
not_above x v n is =
    let q : ℕ = x * v / 2 ^ 64 in
    let some : q * 2 ^ 64 * n ≤ x * v * n = mul-le-mul_right n (div-mul-le_self (x * v) (2 ^ 64)) in
    let whole : v * n ≤ 2 ^ 64 = omega (arith, div-mul-le_self (2 ^ 64 - 1) n, ap (λ (w : ℕ). w * n) is) in
    le_of_mul-le-mul_right {m = q * n} {n = x} {k = 2 ^ 64} (grind (arith, some, mul-le-mul_left x whole)) (pow_pos 64)

pub near : (x v n : ℕ) → x < 2 ^ 64 → 0 < n → v ≡ (2 ^ 64 - 1) / n → x < x * v / 2 ^ 64 * n + n + n
near x v n below some is =
    let q : ℕ = x * v / 2 ^ 64 in
    let whole : 2 ^ 64 ≤ v * n + n = omega (arith, lt-div-mul-add {a = 2 ^ 64 - 1} {b = n} some, ap (λ (w : ℕ). w * n) is) in
    let above : x * v + x < q * 2 ^ 64 + 2 ^ 64 + x = omega (arith, lt-div-mul-add {a = x * v} {b = 2 ^ 64} (pow_pos 64)) in
    let scaled : (x * v + x) * n < (q * 2 ^ 64 + 2 ^ 64 + 2 ^ 64) * n = mul-lt-mul_of_pos_right {m = x * v + x} {n = q * 2 ^ 64 + 2 ^ 64 + 2 ^ 64} {k = n} (omega (arith, above, below)) some in
    lt_of_mul-lt-mul_right (2 ^ 64) {m = x} {n = q * n + n + n} (grind (arith, scaled, mul-le-mul_left x whole))

pub leaves : (x q r n : ℕ) → r < n → x ≡ q * n + r → r ≡ x % n
leaves x q r n below is = sym (ap (λ (y : ℕ). y % n) is ∙ mod-mul-add q n r below)
