use Rattle.std.proofs.Common.{◌≡◌, ◌+◌, ◌-◌, suc, sym, ◌∙◌, ap, arith}
use Rattle.lt_lang.specs.Reading.{digits_at}
use Rattle.lt_lang.proofs.Digits.{digits_at-some, digits_at-none, digit_below, below_more, below_all}
use Rattle.lt_lang.proofs.integers.first_digits_at.Goals as goal
use Rattle.lt_lang.proofs.integers.first_digits_at.Goals.{else-loop-test, then-loop-test+in_default}

pub overflow_mul-number : goal.overflow_mul-number
overflow_mul-number c =
    let below = below_all c.loop.counter c.loop.number c.loop.invariant.below (omega arith) in omega arith

pub overflow_add-number : goal.overflow_add-number
overflow_add-number c =
    let below = below_all c.loop.counter c.loop.number c.loop.invariant.below (omega arith) in
    let small = digit_below c.in-Some.digit c.loop.rest.now c.in-Some.after.now c.in-Some.ensures in omega arith

pub loop-preserved : goal.loop-preserved
loop-preserved c =
    let read = c.in-Some.ensures in
    let left : 19 - c.loop.counter ≡ suc (19 - (c.loop.counter + 1)) = omega arith in record {
      same = sym (digits_at-some (19 - (c.loop.counter + 1)) c.loop.number c.in-Some.digit c.loop.rest.now c.in-Some.after.now read)
          ∙ ap (λ k. digits_at k c.loop.number c.loop.rest.now) (sym left) ∙ c.loop.invariant.same;
      below = below_more c.loop.counter c.loop.number c.in-Some.digit c.loop.invariant.below (digit_below c.in-Some.digit c.loop.rest.now c.in-Some.after.now read);
    }

pub returns : goal.returns
returns c = elim c.loop-test.branch [
  | else-loop-test w ↦ let done : 19 - c.loop.counter ≡ 0 = omega arith in ap (λ k. digits_at k c.loop.number c.loop.rest.now) (sym done) ∙ c.loop.invariant.same
  | then-loop-test+in_default w ↦ sym (digits_at-none (19 - c.loop.counter) c.loop.number c.loop.rest.now w.in_default.ensures) ∙ c.loop.invariant.same
]
