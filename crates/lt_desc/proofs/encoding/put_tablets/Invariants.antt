use Rattle.std.proofs.Common.{◌≡◌, ◌++◌, drop}
use Rattle.std.specs.List.{flat_map, list_all}
use Rattle.lt_desc.specs.Lawful.{fits_tablet}
use Rattle.lt_desc.specs.Spelling.{tablet_spelled}
use Rattle.lt_desc.proofs.encoding.put_tablets.Given as goal

abbrev pub invariant-loop-tablet : goal.invariant-loop-tablet
invariant-loop-tablet l = record {
  put : l.out.items ++ flat_map tablet_spelled (drop l.tablet-index l.tablets) ≡ l.initial.out.items ++ flat_map tablet_spelled l.tablets;
  fits : list_all fits_tablet (drop l.tablet-index l.tablets) ≡ list_all fits_tablet l.tablets;
}
