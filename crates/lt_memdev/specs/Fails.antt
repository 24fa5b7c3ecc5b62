-- Which calls of a device in memory fail.
use Rattle.std.specs.Prelude.{◌≡◌, ℕ, Bool, List, Option, is_some, nat_eq, ◌&&◌, if◌then◌else◌, slice_index, slice_set}
use Rattle.std.specs.List.{find}
use Rattle.std.specs.Option.{option_map}
use Rattle.lt_io.specs.Memory.{next_count}
use Rattle.lt_memdev.specs.declared.fails.Op.{Op}
use Rattle.lt_memdev.specs.declared.fails.Op.TheVariants.{Create, Append, Seal, Enter, Point, Settle, Remove, Descriptor, Fetch, List as Listing, ReadAt}
use Rattle.lt_memdev.specs.declared.fails.Fail.{Fail}

-- the calls that fail, how many calls there were of each kind, and how many of them failed
pub record Planned : Type 0 where
  pub fails : List Fail
  pub calls : List ℕ
  pub faults : ℕ

-- the place of a kind among the counts
abbrev pub place : Op → ℕ
place Create = 0
place Append = 1
place Seal = 2
place Enter = 3
place Point = 4
place Settle = 5
place Remove = 6
place Descriptor = 7
place Fetch = 8
place Listing = 9
place ReadAt = 10

-- the number of the next call of that kind, counted from 1; it stands still at the type's end
abbrev pub next_call : Planned → Op → ℕ
next_call plan op = next_count (slice_index plan.calls (place op))

-- None where the call of that kind with that number works, and else whether its change takes place
abbrev pub fail_at : List Fail → Op → ℕ → Option Bool
fail_at fails op nth = option_map (λ fail. fail.done) (find (λ fail. nat_eq (place fail.op) (place op) && nat_eq fail.nth nth) fails)

-- so for the next call of that kind
abbrev pub next_fail : Planned → Op → Option Bool
next_fail plan op = fail_at plan.fails op (next_call plan op)

-- a call of that kind was counted, and its fault where it was to fail
pub record Counted (old new : Planned) (op : Op) : Type 0 where
  pub calls : new.calls ≡ slice_set old.calls (place op) (next_call old op)
  pub faults : new.faults ≡ (if is_some (next_fail old op) then next_count old.faults else old.faults)
  pub fails : new.fails ≡ old.fails
