use Rattle.std.proofs.Common.{◌≡◌, ◌++◌, take}
use Rattle.std.specs.List.{flat_map}
use Rattle.lt_reply.specs.Texts.{quoted_byte}
use Rattle.lt_reply.proofs.values.put_each.Given as goal

-- so far the texts of the first ones stand at the end
abbrev pub invariant-loop-byte : goal.invariant-loop-byte
invariant-loop-byte l = l.out.items ≡ l.fn.out.items ++ flat_map quoted_byte (take l.byte-index l.text)
