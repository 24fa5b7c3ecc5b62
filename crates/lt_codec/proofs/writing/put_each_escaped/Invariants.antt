use Rattle.std.proofs.Common.{◌≡◌, ◌++◌, drop}
use Rattle.lt_codec.specs.Spelling.{escaped}
use Rattle.lt_codec.proofs.writing.put_each_escaped.Given as goal

-- the bytes so far are put, and the rest is put behind them
abbrev pub invariant-loop-byte : goal.invariant-loop-byte
invariant-loop-byte l = l.out.items ++ escaped (drop l.byte-index l.bytes) ≡ l.initial.out.items ++ escaped l.bytes
