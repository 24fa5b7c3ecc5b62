use Rattle.std.proofs.Common.{◌≡◌, ◌<◌, ◌%◌, ℕ, ◌+◌, ◌-◌, ◌*◌, ◌≤◌, ◌/◌, ◌^◌, arith, ap, ◌∙◌}
use Rattle.std.proofs.lemmas.Bool.Decides.{nat_tests}
use Rattle.lt_bloom.proofs.Division.{not_above, near, leaves}
use Rattle.lt_bloom.proofs.divisor.Divisor.left_of.Goals as goal

pub overflow_sub-left : goal.overflow_sub-left
overflow_sub-left c = omega (arith, not_above c.from.result c.from-2.result c.self.inside.number (c.from-2.ensures ∙ c.self.invariant.rounded), c.from.ensures)

pub returns-then-left-self-clause-exact : goal.returns-then-left-self-clause-exact
returns-then-left-self-clause-exact c =
    let x = c.args.number in
    let n = c.self.inside.number in
    let q : ℕ = c.from.result * c.from-2.result / 2 ^ 64 in
    let fits : q * n ≤ c.from.result = not_above c.from.result c.from-2.result n (c.from-2.ensures ∙ c.self.invariant.rounded) in
    let below : x - q * n < n = grind (arith, nat_tests, c.if-left-self.true) in
    leaves x q (x - q * n) n below (omega (arith, fits, c.from.ensures)) ∙ ap (λ (m : ℕ). x % m) c.self.view_is

pub returns-else-left-self-clause-exact : goal.returns-else-left-self-clause-exact
returns-else-left-self-clause-exact c =
    let x = c.args.number in
    let n = c.self.inside.number in
    let q : ℕ = c.from.result * c.from-2.result / 2 ^ 64 in
    let rounded : c.from-2.result ≡ (2 ^ 64 - 1) / n = c.from-2.ensures ∙ c.self.invariant.rounded in
    let fits : q * n ≤ c.from.result = not_above c.from.result c.from-2.result n rounded in
    let over : n ≤ x - q * n = grind (arith, nat_tests, c.if-left-self.false) in
    let high : c.from.result < q * n + n + n = near c.from.result c.from-2.result n (omega (arith, c.from.ensures, c.ranges.number.fits)) c.self.invariant.some rounded in
    leaves x (q + 1) (x - q * n - n) n (omega (arith, fits, over, high, c.from.ensures)) (omega (arith, fits, over, c.from.ensures)) ∙ ap (λ (m : ℕ). x % m) c.self.view_is

pub returns-else-left-self-clause-within : goal.returns-else-left-self-clause-within
returns-else-left-self-clause-within c =
    let n = c.self.inside.number in
    let q : ℕ = c.from.result * c.from-2.result / 2 ^ 64 in
    let high : c.from.result < q * n + n + n = near c.from.result c.from-2.result n (omega (arith, c.from.ensures, c.ranges.number.fits)) c.self.invariant.some (c.from-2.ensures ∙ c.self.invariant.rounded) in
    omega (arith, high, c.from.ensures, c.self.invariant.some, c.self.view_is)
