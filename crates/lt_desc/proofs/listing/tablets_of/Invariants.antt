use Rattle.std.proofs.Common.{◌≡◌, ◌-◌, []}
use Rattle.lt_desc.specs.Reading.{repeated, next_tablet}
use Rattle.lt_desc.proofs.listing.tablets_of.Given as goal

-- the tablets so far, and the rest behind them
abbrev pub invariant-loop : goal.invariant-loop
invariant-loop l = repeated (next_tablet l.kept l.next_file l.total) (l.count - l.counter) l.tablets l.rest ≡ repeated (next_tablet l.kept l.next_file l.total) l.count [] l.bytes
