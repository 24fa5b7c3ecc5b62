use Rattle.std.proofs.Common.{◌≡◌, take}
use Rattle.std.specs.Prelude.{sum_by}
use Rattle.lt_schema.specs.Values.{key_len_of}
use Rattle.lt_schema.specs.Check.{counted}
use Rattle.lt_schema.proofs.checking.key_len_in_bytes.Given as goal

abbrev pub invariant-loop-value : goal.invariant-loop-value
invariant-loop-value l = l.len ≡ counted (sum_by key_len_of (take l.value-index l.key))
