use Rattle.std.proofs.Common.{◌≡◌, Bool, true, false, [], refl, IsTrue, rules}
use Rattle.lt_serve.proofs.Looked.{LookedThrough-begin, LookedThrough-more, HasOtherLine-found, IsBuilt-ended}
use Rattle.lt_serve.proofs.looking.look_through.Goals as goal

not_both : (b : Bool) → IsTrue b → b ≡ false → ⊥
not_both true is other = cc
not_both false is other = cc

pub loop-bytes-init : goal.loop-bytes-init
loop-bytes-init c = LookedThrough-begin c.args.input.now

pub returns-then-not-may_answer : goal.returns-then-not-may_answer
returns-then-not-may_answer c =
    let wrong : c.may_answer.result ≡ false = search rules in
    HasOtherLine-found c.args.input.now c.loop-bytes.rest.now c.in-Some.after.now c.loop-bytes.client _ c.loop-bytes.number c.in-Some.bytes.now c.in_ok-line.line c.loop-bytes.invariant c.in-Some.ensures.cut c.in_ok-line.ensures.exact
    c.may_answer.ensures.client (λ may. not_both c.may_answer.result (c.may_answer.ensures.may.1 may) wrong)

pub loop-bytes-preserved : goal.loop-bytes-preserved
loop-bytes-preserved c =
    let right : IsTrue c.may_answer.result = search rules in
    LookedThrough-more c.args.input.now c.loop-bytes.rest.now c.in-Some.after.now c.loop-bytes.client _ c.loop-bytes.number c.in-Some.bytes.now c.in_ok-line.line c.loop-bytes.invariant
    c.in-Some.ensures.cut c.in-Some.ensures.shorter c.in_ok-line.ensures.exact c.may_answer.ensures.client (c.may_answer.ensures.may.0 right)

pub returns : goal.returns
returns c =
    let ended : c.loop-bytes.rest.now ≡ [] = c.in_default.ensures.none.0 refl in
    IsBuilt-ended c.args.input.now c.loop-bytes.rest.now c.loop-bytes.client c.loop-bytes.number c.loop-bytes.invariant ended
