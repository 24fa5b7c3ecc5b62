use Rattle.std.proofs.Common.{ℕ, nat_eq, ap, ◌∙◌}
use Rattle.std.specs.Int.{w64, from_be_bytes}
use Rattle.lt_layout.proofs.Words.{word_same}
use Rattle.lt_layout.proofs.alike.is_same_word.Goals as goal

pub returns : goal.returns
returns c =
    ap (λ (m : ℕ). nat_eq m c.from_be_bytes-2.result) c.from_be_bytes.ensures
    ∙ (ap (nat_eq (from_be_bytes w64 c.args.one.now)) c.from_be_bytes-2.ensures
    ∙ word_same c.args.one.now c.args.other.now c.fits-one c.fits-other c.told-one c.told-other)
