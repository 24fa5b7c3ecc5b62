use Rattle.std.proofs.Common.{ap, ◌∙◌}
use Rattle.lt_desc.specs.Reading.{stone_at}
use Rattle.lt_desc.proofs.Whole.{stone_again}
use Rattle.lt_desc.proofs.encoding.encode.Goals as goal

pub returns-clause-read_back : goal.returns-clause-read_back
returns-clause-read_back c =
    ap stone_at (c.from_vec.ensures ∙ c.in_ok-bytes.ensures.spelled)
    ∙ stone_again c.args.stone.now c.spelled.ensures.lawful (record { columns = c.in_ok-bytes.ensures.columns; changes = c.in_ok-bytes.ensures.changes; tablets = c.in_ok-bytes.ensures.tablets })
