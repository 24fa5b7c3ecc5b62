use Rattle.std.proofs.Common.{◌≡◌, take}
use Rattle.std.specs.List.{flat_map}
use Rattle.lt_layout.specs.Spelling.{entry_spelled}
use Rattle.lt_layout.proofs.spelling.spell_index.Given as goal

abbrev pub invariant-loop-entry : goal.invariant-loop-entry
invariant-loop-entry l = l.out.items ≡ flat_map entry_spelled (take l.entry-index l.index)
