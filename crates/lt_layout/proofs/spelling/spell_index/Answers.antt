use Rattle.std.proofs.Common.{[]}
use Rattle.lt_layout.specs.Spelling.{entry_spelled}
use Rattle.lt_layout.proofs.Spelled.{spelled_step}
use Rattle.lt_layout.proofs.spelling.spell_index.Goals as goal

pub loop-entry-preserved : goal.loop-entry-preserved
loop-entry-preserved c = spelled_step entry_spelled c.args.index.now c.loop-entry.entry-index c.entry-item.result [] c.loop-entry.out.items c.put_entry.new.out.items c.loop-entry-test.true c.entry-item.is c.loop-entry.invariant c.in_ok-put_entry.ensures
