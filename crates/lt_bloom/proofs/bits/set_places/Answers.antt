use Rattle.std.proofs.Common.{◌≡◌, arith, sym, ap, ◌∙◌, eqb, ◌||◌, ℕ}
use Rattle.std.proofs.Math.Bool.{or-false}
use Rattle.lt_bloom.specs.Filter.{is_set, is_among, is_place}
use Rattle.lt_bloom.proofs.Places.{goes_on}
use Rattle.lt_bloom.proofs.bits.set_places.Goals as goal

pub loop-i-init : goal.loop-i-init
loop-i-init c = λ p. sym (or-false (is_set c.args.bytes.now p))

pub loop-i-preserved : goal.loop-i-preserved
loop-i-preserved c = λ p.
    let l = c.loop-i in
    goes_on l.i c.args.bits.now c.args.hash p (is_set c.args.bytes.now p) (is_set l.bytes p) (is_set c.set_bit.new.bytes p) (l.invariant p)
    (c.set_bit.ensures.set p ∙ ap (λ (at : ℕ). is_set l.bytes p || eqb at p) c.place_of.ensures.exact)

pub returns-clause-set : goal.returns-clause-set
unfolding is_place
returns-clause-set c = λ p.
    let e : c.loop-i.i ≡ 7 = omega arith in
    c.loop-i.invariant p ∙ ap (λ (k : ℕ). is_set c.args.bytes.now p || is_among k c.args.bits.now c.args.hash p) e
