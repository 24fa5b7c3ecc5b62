-- File numbers that are lent one after another, and the ticket that they go out with.
use Rattle.std.specs.Prelude.{ℕ, zero, suc, ◌+◌, ◌≡◌, Bool, true, List, Contains}
use Rattle.std.specs.List.{range_with_len}
use Rattle.lt_io.specs.Directory.{lent}
use Rattle.lt_commit.specs.Anchored.{Anchored, IsAnchored}
use Rattle.lt_trace.specs.Elements.{Story, is_noted, notes_of}
use Rattle.lt_state.specs.State.{Core, Ticket}
use Rattle.lt_events.specs.Cores.{with_ticket}

-- one number was lent
pub record LendsOne (told : Bool) (file : ℕ) (before after : Anchored) : Type 0 where
  pub was : IsAnchored told before
  pub directory : told ≡ true → after.directory ≡ lent before.directory file
  pub ceiling : after.directory.now.ceiling ≡ file + 1
  pub lends : after.directory.lends ≡ before.directory.lends + 1
  pub may : after.may ≡ before.may

-- so many numbers were lent, from the first on
abbrev pub LendsEach : Bool → ℕ → ℕ → Anchored → Anchored → Type 0
LendsEach told first zero before after = after ≡ before
LendsEach told first (suc more) before after = (between : Anchored) × LendsEach told first more before between × LendsOne told (first + more) between after

-- so many of the next file numbers were lent
abbrev pub with_numbers : Core → ℕ → Anchored → Core
with_numbers c count after = record c { next_file = c.next_file + count; anchor = after }

-- the ticket that goes out with these numbers, and with these listed files
abbrev pub next_ticket_of : Core → ℕ → List ℕ → Ticket
next_ticket_of c count handed = record { number = c.next_ticket; lent = range_with_len c.next_file count; handed = handed }

abbrev pub with_given : Core → ℕ → List ℕ → Anchored → Core
with_given c count handed after = with_ticket (with_numbers c count after) (next_ticket_of c count handed)

-- each of these files came into the list of tablets
abbrev pub AreNoted : Story → List ℕ → Type 0
AreNoted s files = (file : ℕ) → Contains files file → is_noted (notes_of s) file ≡ true
