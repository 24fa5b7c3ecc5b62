-- Records and tablets by key and by place.
use Rattle.std.proofs.Common.{◌≡◌, ℕ, ◌<◌, ◌≤◌, Bool, true, false, List, length, get_or, cond, Option, Some, None, Contains, refl, sym, subst, arith}
use Rattle.std.specs.Prelude.{nat_lt, Any}
use Rattle.std.specs.List.{position, position_or_len}
use Rattle.lt_rec.specs.Record.{Record}
use Rattle.lt_mem.specs.declared.add_error.AddError.{AddError}
use Rattle.lt_mem.specs.declared.add_error.AddError.TheVariants.{Present, NoMemory}
use Rattle.lt_state.specs.State.{Filled, InMemory}
use Rattle.lt_memory.specs.Tablets.{IsKeyHeld, IsTaken, SaysOfRecords, SaysOfKey}
use Rattle.lt_memory.specs.Inserting.{IsPlaced}

-- the tablet at the place has the record
pub in_memory_at : (tablets : List Filled) (place : ℕ) (tablet : Filled) (rec : Record) → place < length tablets → get_or tablets place tablet ≡ tablet → Contains tablet.recs rec → InMemory tablets tablet.number rec
in_memory_at tablets place tablet rec held is among = record { tablet = tablet; held = (place, held, is); number_is = refl; among = among }

-- what the tablet at the place says of a refusal, all of them do
pub says_of_key : (tablets : List Filled) (place : ℕ) (tablet : Filled) (key : List ℕ) → place < length tablets → get_or tablets place tablet ≡ tablet → (refused : AddError) → SaysOfRecords tablet.recs key refused → SaysOfKey tablets key refused
says_of_key tablets place tablet key held is (Present seq) has_it = record {
  rec = has_it.1;
  held = record { number = tablet.number; held = in_memory_at tablets place tablet has_it.1 held is (has_it.0, has_it.2, has_it.3); key_is = has_it.4.1 };
  seq_is = has_it.4.0;
}
says_of_key tablets place tablet key held is NoMemory has_it = tt
