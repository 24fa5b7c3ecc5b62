-- How many blocks a look-up may read.
use Rattle.std.specs.Prelude.{ℕ, Bool, false, not, ◌&&◌, Option, Some, None, count_by, min, nat_lt, if◌then◌else◌}
use Rattle.lt_rec.specs.Record.{Record}
use Rattle.lt_tablet.specs.Loaded.{Loaded, times_meet, may_have}
use Rattle.lt_probe.specs.Asked.{Question, admits_question, prefix_box}

-- all records of the tablet are earlier than the best one so far
abbrev pub is_behind : Loaded → Option Record → Bool
is_behind t None = false
is_behind t (Some best) = nat_lt t.listed.high best.ts

-- those whose first and last keys leave room for the prefix, where some timestamp may be late enough
abbrev pub blocks_with_room : Question → Loaded → ℕ
blocks_with_room q t = count_by (λ e. times_meet (prefix_box q.prefix q.since) t.listed && may_have (prefix_box q.prefix q.since) e) t.index

-- None of a tablet whose records are all earlier than the best one so far, or whose filter is asked and denies the prefix.
-- Of another one those that leave room for the prefix, and where that is a whole stem one of them.
abbrev pub blocks_asked : Question → Option Record → Loaded → ℕ
blocks_asked q best t = if not (is_behind t best) && admits_question q t.filter then (if q.whole then min 1 (blocks_with_room q t) else blocks_with_room q t) else 0
