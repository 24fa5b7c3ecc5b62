use Rattle.std.proofs.Common.{◌≢◌, ℕ, ◌<◌, get_or}
use Rattle.lt_schema.specs.Check.{key_of}
use Rattle.lt_model.specs.History.{Numbered}
use Rattle.lt_plain.proofs.list_table.number_of.Given as goal

-- no row so far has the key
abbrev pub invariant-loop-numbered : goal.invariant-loop-numbered
invariant-loop-numbered l = (k : ℕ) (d : Numbered) → k < l.numbered-index → key_of l.schema (get_or l.rows k d).row ≢ key_of l.schema l.row
