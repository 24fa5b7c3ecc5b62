use Rattle.std.proofs.Common.{◌-◌, ℕ, List, length, drop, ap, sym, ◌∙◌, arith}
use Rattle.lt_layout.proofs.Words.{ends_behind}
use Rattle.lt_layout.proofs.alike.+are_same_before.Goals as goal

abbrev last_eight : List ℕ → List ℕ
last_eight bytes = drop (length bytes - 8) bytes

pub are_same_before-requires : goal.are_same_before-requires
are_same_before-requires t c =
    let one = c.in-Some-Some.ensures.cases in
    let other = c.in-Some-Some.ensures'.cases in (
      omega (arith, one.2),
      (omega (arith, one.2, other.2, c.requires.len), ap last_eight one.1 ∙ (ends_behind c.args.one.now c.args.other.now c.requires.len (omega (arith, c.if-one-le8.false)) c.requires.ends ∙ sym (ap last_eight other.1))),
    )
