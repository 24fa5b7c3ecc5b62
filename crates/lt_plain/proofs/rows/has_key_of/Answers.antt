use Rattle.std.proofs.Common.{sym, ◌∙◌}
use Rattle.lt_plain.proofs.SameKey.{values_decide}
use Rattle.lt_plain.proofs.rows.has_key_of.Goals as goal

pub returns : goal.returns
returns c =
    let decide = values_decide c.key.result.now c.key-2.result.now in (
      λ equal. sym c.key.ensures ∙ decide.0 (sym c.eq.ensures ∙ equal) ∙ c.key-2.ensures,
      λ same. c.eq.ensures ∙ decide.1 (c.key.ensures ∙ same ∙ sym c.key-2.ensures),
    )
