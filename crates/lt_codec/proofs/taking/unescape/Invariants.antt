use Rattle.std.proofs.Common.{◌≡◌, ◌++◌, drop, false}
use Rattle.std.specs.Prelude.{option_map}
use Rattle.lt_codec.specs.Reading.{unescaped}
use Rattle.lt_codec.proofs.taking.unescape.Given as goal

-- the bytes so far are read, and the rest is read behind them
abbrev pub invariant-loop-at : goal.invariant-loop-at
invariant-loop-at l = option_map (λ x. (l.bytes.items ++ x.0, x.1)) (unescaped l.zero (drop l.at l.left)) ≡ unescaped false l.left
