use Rattle.std.proofs.Common.{sym, subst, ap, ◌∙◌, ◌+◌, ◌≡◌, length, ℕ, arith}
use Rattle.std.specs.Prelude.{nat_eq}
use Rattle.lt_rec.specs.Reading.{Reads, holds}
use Rattle.lt_layout.specs.Reading.{same_at}
use Rattle.lt_layout.proofs.Expected.{same_end}
use Rattle.lt_layout.proofs.footer.check_same.Goals as goal

pub returns : goal.returns
returns c =
    let all : c.loop-i.i ≡ c.min-common.result = omega (arith, c.loop-i-test.false, c.loop-i.auto.i-end) in
    let end : same_at c.args.at c.args.bytes.now c.args.wanted.now ≡ holds (nat_eq (length c.args.bytes.now) (length c.args.wanted.now)) (c.args.at + c.min-common.result) =
    sym c.loop-i.invariant
    ∙ (same_end c.args.bytes.now c.args.wanted.now c.args.at c.loop-i.i (omega (arith, all, c.min-common.ensures))
    ∙ ap (λ (n : ℕ). holds (nat_eq (length c.args.bytes.now) (length c.args.wanted.now)) (c.args.at + n)) all) in
    record { exact = subst (Reads {X = Unit {0}} {Y = Unit {0}} (λ x. x) c.test_at-2.result) (sym end) c.test_at-2.ensures.exact }
