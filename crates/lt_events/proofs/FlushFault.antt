-- Publishing a flush failed.
use Rattle.std.proofs.Common.{◌≡◌, ℕ, Bool, true, false, List, ◌++◌, Contains, sym, ◌∙◌, arith}
use Rattle.std.specs.Prelude.{nat_eq, not, ◌||◌}
use Rattle.lt_rec.specs.Record.{Record}
use Rattle.lt_desc.specs.Lawful.{IsStone, lists_file}
use Rattle.lt_model.specs.History.{History}
use Rattle.lt_trace.specs.Elements.{Noted, Began, Element, history_of, notes_of, is_noted}
use Rattle.lt_trace.proofs.Lists.{kept_was}
use Rattle.lt_state.specs.State.{Core, Ticket, listing}
use Rattle.lt_state.specs.Stands.{Stands}
use Rattle.lt_state.proofs.Outlives.{facts_by_same_records}
use Rattle.lt_events.specs.Cores.{without, with_released}
use Rattle.lt_events.specs.Flushing.{flushed_stone, Flush, IsFlush, FlushFaultStands}
use Rattle.lt_events.proofs.Notes.{recs_with, is_noted-append}
use Rattle.lt_events.proofs.Failing.{IsBackedStone, stands_failed}
use Rattle.lt_events.proofs.Tickets.{release_stands}
use Rattle.lt_events.proofs.Listing.{same_old, listed_noted, same_possible, whole_new, holds_new, names_noted, noted_below, not_of_ticket}

module _ (told : Bool) (c : Core) (h : History) (notes : List Noted) (began : Began) (since : List Element) (flush : Flush)
    (stands : Stands told c h notes began since) (is : IsFlush told c h flush) (lawful : IsStone (flushed_stone c flush.number flush.listed)) where
  abbrev recs : ℕ → List Record
  recs = recs_with flush.news stands.safe.recs

  apart : (ticket : Ticket) (file : ℕ) → Contains (without flush.ticket.number c.tickets) ticket → Contains ticket.lent file → lists_file (flushed_stone c flush.number flush.listed).tablets file ≡ true → ⊥
  apart ticket file out covers listed =
      let was = stands.tickets.lent ticket file (kept_was (λ (t : Ticket). not (nat_eq t.number flush.ticket.number)) c.tickets ticket out) covers in
      let unnoted : is_noted (notes ++ flush.news) file ≡ false = is_noted-append notes flush.news file ∙ (λ i. was.unnoted i || not_of_ticket told c h notes began since flush stands is ticket file out covers i) in
      let clash : true ≡ false = sym (names_noted told c h notes began since flush stands is file listed) ∙ unnoted in
      cc

  pub backed : IsBackedStone told (with_released c flush.ticket.number) h notes (flushed_stone c flush.number flush.listed)
  backed = record {
    recs = recs;
    noted = λ tells file noted. same_old told c h notes began since flush stands is file noted ∙ stands.safe.noted tells file noted;
    tablets = λ tells t among. stands.safe.tablets tells t among ∙ sym (same_old told c h notes began since flush stands is t.listed.file (stands.listed t among));
    facts = facts_by_same_records told stands.safe.recs recs h c.anchor (listing c) c.memory stands.safe.facts
        (same_possible told c h notes began since flush stands is)
        (λ listed among. same_old told c h notes began since flush stands is listed.file (listed_noted told c h notes began since flush stands is listed among));
    whole = λ read tells. whole_new told c h notes began since flush stands is lawful read tells;
    holds = holds_new told c h notes began since flush stands is;
    settled = record { no_lower = is.takes.no_lower; given = is.takes.given };
    low = omega (arith, stands.reads.low_is);
    no_lower = omega (arith, stands.reads.kept_is, is.takes.no_lower);
    below = λ file listed. noted_below told c h notes began since flush stands is file (names_noted told c h notes began since flush stands is file listed);
    apart = apart;
  }

pub flush_fault_stands : FlushFaultStands
flush_fault_stands told c s flush after stands is lawful room anchored then may steps either ceiling lends =
    stands_failed told (with_released c flush.ticket.number) (history_of s) (notes_of s) s.began s.since (flushed_stone c flush.number flush.listed) after
    (release_stands told c s flush.ticket.number stands) (backed told c (history_of s) (notes_of s) s.began s.since flush stands is lawful)
    room anchored then may steps either ceiling lends
