-- A flush is published.
use Rattle.std.proofs.Common.{◌≡◌, ◌⊎◌, ℕ, ◌+◌, ◌^◌, ◌≤◌, ◌<◌, Bool, true, false, List, [], ◌∷◌, ◌++◌, map, max, Option, Some, None, Ok, Contains, refl, sym, ◌∙◌, ap, subst, ⊎_elim, arith, length-append}
use Rattle.std.specs.Prelude.{nat_eq, not, ◌||◌}
use Rattle.std.proofs.lemmas.List.{append-nil}
use Rattle.std.proofs.lemmas.List.Kept.{IsStrictlyIncreasing-filter}
use Rattle.std.specs.List.Sorted.{IsStrictlyIncreasing}
use Rattle.lt_io.specs.Directory.{Contents}
use Rattle.lt_io.specs.Steps.{Steps}
use Rattle.lt_rec.specs.Record.{Record}
use Rattle.lt_rec.specs.declared.listed.Listed.{Listed}
use Rattle.lt_desc.specs.Shape.{StoneShape}
use Rattle.lt_desc.specs.Lawful.{IsStone, lists_file}
use Rattle.lt_desc.specs.Reading.{stone_at}
use Rattle.lt_desc.specs.Spelling.{spelling}
use Rattle.lt_commit.specs.Anchored.{Anchored, IsAnchored, IsNamed}
use Rattle.lt_commit.specs.Moments.{Replaces}
use Rattle.lt_commit.proofs.Orders.{replacing, only_one}
use Rattle.lt_model.specs.History.{Entry, kept_entry, History, extended}
use Rattle.lt_model.specs.Readings.{kept, notes_in, next_tablet_in}
use Rattle.lt_model.specs.Legal.{IsLegal}
use Rattle.lt_model.proofs.Lawful.{EachFollows-more, IsLegal-lawful}
use Rattle.lt_model.proofs.Fronts.{notes_in-append, next-extended, next-extended_by_none, low-extended, kept-extended, schemas-extended_by_none}
use Rattle.lt_trace.specs.Elements.{Noted, Began, Element, entry, history_of, notes_of, grown, is_noted}
use Rattle.lt_trace.specs.Opens.{IsWhole, HoldsRows}
use Rattle.lt_trace.specs.Past.{PastOpens}
use Rattle.lt_trace.specs.Laws.{StoodBefore}
use Rattle.lt_trace.proofs.Past.{past_outlives}
use Rattle.lt_state.specs.State.{Core, Ticket, listing}
use Rattle.lt_state.specs.Facts.{IsSettled, SixFacts, IsSafe}
use Rattle.lt_state.specs.Flushes.{IsFlushed}
use Rattle.lt_state.specs.Stands.{IsLent, AreTickets, Stands, files_used, frees_in, RiseTo, lent_out}
use Rattle.lt_state.proofs.Growing.{grown_history, grown_notes, files_used-append, frees_in-append}
use Rattle.lt_state.proofs.Flush.{flush_splits_none}
use Rattle.lt_state.proofs.Jobs.{flush_leaves_memory}
use Rattle.lt_state.proofs.Committed.{flush_keeps_facts, stone_is}
use Rattle.lt_state.proofs.Past.{publish_keeps_past}
use Rattle.lt_events.specs.Cores.{without}
use Rattle.lt_events.specs.Flushing.{flushed_stone, Flush, with_flush, flush_elements, IsFlush, FlushStands}
use Rattle.lt_events.proofs.Notes.{recs_with, is_noted-append, once_joined, entries_in-held, noted_in-held, files_used-held, frees_in-held}
use Rattle.lt_events.proofs.Failing.{steps_end}
use Rattle.lt_events.proofs.Tickets.{numbers_without, released_lent}
use Rattle.lt_events.proofs.Listing.{fresh_file, same_old, new_recs, all_noted, noted_below, names_noted, recs_noted, each_new, old_stays, gone_is_on, alone_new, own_schemas, whole_own, whole_new, holds_new, facts_true, were_out, not_of_ticket, some_stone, true_or, length_elements}

module _ (told : Bool) (c : Core) (h : History) (notes : List Noted) (began : Began) (since : List Element) (flush : Flush) (after : Anchored)
    (stands : Stands told c h notes began since) (is : IsFlush told c h flush) (lawful : IsStone (flushed_stone c flush.number flush.listed)) (room : c.next_file < 2 ^ 62)
    (anchored : IsAnchored told c.anchor) (then : IsAnchored told after) (may : after.may ≡ Some (flushed_stone c flush.number flush.listed) ∷ [])
    (steps : told ≡ true → Steps (Replaces c.next_file (spelling (flushed_stone c flush.number flush.listed))) c.anchor.directory after.directory)
    (ceiling : after.directory.now.ceiling ≡ c.next_file + 1) (lends : after.directory.lends ≡ c.anchor.directory.lends + 1) where
  abbrev new : StoneShape
  new = flushed_stone c flush.number flush.listed

  abbrev own : StoneShape
  own = stands.own.0

  abbrev old_recs : ℕ → List Record
  old_recs = stands.safe.recs

  abbrev recs : ℕ → List Record
  recs = recs_with flush.news old_recs

  abbrev files : Contents
  files = c.anchor.directory.now.files

  abbrev more : List Entry
  more = kept_entry flush.number ∷ []

  abbrev flushed : Core
  flushed = with_flush c flush after

  -- ---- the stone

  possible : Contains after.may (Some new)
  possible = subst (λ (m : List (Option StoneShape)). Contains m (Some new)) (sym may) (0, omega arith, refl)

  read : stone_at (spelling new) ≡ Ok new
  read = then.readable new possible

  legal_new : told ≡ true → IsLegal (extended h more)
  legal_new tells = IsLegal-lawful h (kept_entry flush.number) (stands.safe.legal tells) (is.takes.no_lower, is.takes.given) tt

  files_stay : told ≡ true → after.directory.now.files ≡ files
  files_stay tells = (steps_end (Replaces c.next_file (spelling new)) (replacing c.next_file (spelling new)) c.anchor.directory after.directory (steps tells)).files

  abbrev FactsWith : Contents → Type 0
  FactsWith fs = IsWhole old_recs fs own
      × ((listed : Listed) → Contains new.tablets listed → StoodBefore old_recs recs (listing c) listed ⊎ IsFlushed c.memory flush.parts fs recs listed)
      × ((one other : Listed) → Contains new.tablets one → Contains new.tablets other → (a : IsFlushed c.memory flush.parts fs recs one) (b : IsFlushed c.memory flush.parts fs recs other) → a.tablet.number ≡ b.tablet.number → one.file ≡ other.file)

  facts_new : told ≡ true → SixFacts true recs (extended h more) (record { directory = after.directory; may = Some new ∷ [] }) new.tablets flush.left
  facts_new tells =
      let there : FactsWith after.directory.now.files = subst FactsWith (sym (files_stay tells)) ((whole_own told c h notes began since flush stands is) tells, (each_new told c h notes began since flush stands is) tells, (alone_new told c h notes began since flush stands is) tells) in
      flush_keeps_facts h old_recs recs c.anchor (listing c) c.memory flush.left flush.parts after.directory own new (stands.safe.legal tells) (legal_new tells) stands.opened stands.memory ((facts_true told c h notes began since flush stands is) tells)
      stands.own.1 (stands.own.2.kept ∙ stands.reads.kept_is) (stands.own.2.low ∙ stands.reads.low_is) (own_schemas told c h notes began since flush stands is) stands.own.2.tablets lawful read stands.reads.low_is stands.reads.schemas_are is.takes
      there.0 there.1 there.2 (old_stays told c h notes began since flush stands is) ((gone_is_on told c h notes began since flush stands is) tells) is.leaves

  settled : kept (extended h more) ≡ max (kept h) flush.number
  settled = kept-extended h more

  new_is : (other : StoneShape) → Contains after.may (Some other) → new ≡ other
  new_is other among = stone_is new other (subst (λ (m : List (Option StoneShape)). Contains m (Some other)) may among)

  facts_flushed : SixFacts told recs (extended h more) after new.tablets flush.left
  facts_flushed = record {
    entered = λ tells other among. subst (IsWhole recs after.directory.now.files) (new_is other among) ((facts_new tells).entered refl new (0, omega arith, refl));
    rows = λ tells other among. subst (HoldsRows recs (extended h more)) (new_is other among) ((facts_new tells).rows refl new (0, omega arith, refl));
    settled = λ other among. subst (IsSettled (extended h more)) (new_is other among) (let here : IsSettled (extended h more) new = record { no_lower = omega (arith, settled, is.takes.no_lower); given = omega (arith, is.takes.given, next-extended h more) } in here);
    lows = λ other among. omega (arith, low-extended h more, stands.reads.low_is, ap (λ (s : StoneShape). s.low) (new_is other among));
    unsettled = flush_splits_none h flush.parts flush.number stands.follows stands.safe.facts.unsettled is.takes;
    keys = λ tells. (facts_new tells).keys refl;
  }

  past_flushed : told ≡ true → PastOpens (extended h more) began.moment after.directory
  past_flushed tells = past_outlives h more began.moment after.directory (legal_new tells)
      (publish_keeps_past h old_recs recs c.anchor (listing c) c.memory c.next_file began.moment new after.directory (stands.safe.legal tells) (subst (λ (b : Bool). IsAnchored b c.anchor) tells anchored) ((facts_true told c h notes began since flush stands is) tells) stands.some
      (stands.safe.past tells) (stands.safe.begun tells) ((whole_new told c h notes began since flush stands is) lawful read tells) ((holds_new told c h notes began since flush stands is) tells) is.takes.given own stands.own.1 (omega (arith, stands.own.2.kept, stands.reads.kept_is, is.takes.no_lower)) (steps tells))

  safe_flushed : IsSafe told flushed (extended h more) (notes ++ flush.news) began
  safe_flushed = record {
    recs = recs;
    noted = (recs_noted told c h notes began since flush stands is);
    tablets = λ tells t among. ⊎_elim
        (λ was. stands.safe.tablets tells t was ∙ sym ((same_old told c h notes began since flush stands is) t.listed.file (stands.listed t was)))
        (λ n. sym ((new_recs told c h notes began since flush stands is) t n))
        (is.each t among);
    facts = facts_flushed;
    legal = legal_new;
    begun = λ tells. omega (arith, stands.safe.begun tells, (steps tells).later);
    past = past_flushed;
  }

  named_noted : (file : ℕ) → IsNamed after.may file → is_noted (notes ++ flush.news) file ≡ true
  named_noted file named =
      let one : new ≡ named.stone = some_stone new named.stone (only_one (Some new) (Some named.stone) (subst (λ (m : List (Option StoneShape)). Contains m (Some named.stone)) may named.possible)) in
      (names_noted told c h notes began since flush stands is) file (ap (λ (s : StoneShape). lists_file s.tablets file) one ∙ named.listed)

  -- ---- tickets and numbers

  abbrev left_out : List Ticket
  left_out = without flush.ticket.number c.tickets

  lent_flushed : (t : Ticket) (file : ℕ) → Contains left_out t → Contains t.lent file → IsLent flushed (notes ++ flush.news) file
  lent_flushed t file among covers =
      let was : IsLent c notes file = stands.tickets.lent t file ((were_out told c h notes began since flush stands is) t among) covers in
      let unnoted : is_noted (notes ++ flush.news) file ≡ false = is_noted-append notes flush.news file ∙ (λ i. was.unnoted i || (not_of_ticket told c h notes began since flush stands is) t file among covers i) in
      record {
        below = omega (arith, was.below, ceiling, stands.files.ceiling);
        unnoted = unnoted;
        unnamed = λ named. let clash : true ≡ false = sym (named_noted file named) ∙ unnoted in cc;
      }

  tickets_flushed : AreTickets flushed (notes ++ flush.news)
  tickets_flushed = record {
    rising = subst IsStrictlyIncreasing (sym (numbers_without flush.ticket.number c.tickets)) (IsStrictlyIncreasing-filter (λ n. not (nat_eq n flush.ticket.number)) (map (λ (t : Ticket). t.number) c.tickets) stands.tickets.rising);
    below = λ t among. stands.tickets.below t ((were_out told c h notes began since flush stands is) t among);
    once = λ t among. stands.tickets.once t ((were_out told c h notes began since flush stands is) t among);
    lent = lent_flushed;
    apart = λ a b file in_a in_b of_a of_b. stands.tickets.apart a b file ((were_out told c h notes began since flush stands is) a in_a) ((were_out told c h notes began since flush stands is) b in_b) of_a of_b;
    handed = λ t file among covers. is_noted-append notes flush.news file ∙ true_or (is_noted notes file) (is_noted flush.news file) (stands.tickets.handed t file ((were_out told c h notes began since flush stands is) t among) covers);
  }

  used_flushed : files_used (since ++ flush_elements flush) + lent_out left_out ≤ stands.lent.more + 1
  used_flushed =
      let used = files_used-append since (flush_elements flush) in
      let these = files_used-held flush.news flush.number in
      let fewer = released_lent flush.ticket c.tickets is.out in
      omega (arith, stands.lent.used, used, these, fewer, is.enough)

  abbrev same_notes : notes_in (h.entries ++ more) ≡ notes_in h.entries
  same_notes = notes_in-append h.entries more ∙ append-nil (notes_in h.entries)

  pub stands_flushed : Stands told flushed (extended h more) (notes ++ flush.news) began (since ++ flush_elements flush)
  stands_flushed = record {
    reads = record {
      next_is = stands.reads.next_is ∙ sym (next-extended_by_none h more refl);
      low_is = stands.reads.low_is ∙ sym (low-extended h more);
      ttl_is = stands.reads.ttl_is;
      schemas_are = stands.reads.schemas_are ∙ sym (schemas-extended_by_none h more refl);
      kept_is = omega (arith, settled, is.takes.no_lower);
      next_tablet_is = stands.reads.next_tablet_is ∙ ap (next_tablet_in 0) (sym same_notes);
    };
    opened = stands.opened;
    follows = EachFollows-more h.opening [] h.entries (kept_entry flush.number) stands.follows (is.takes.no_lower, is.takes.given);
    memory = flush_leaves_memory h c.memory flush.left flush.parts flush.number stands.memory is.takes is.leaves;
    tablets = is.tablets;
    dependencies = is.dependencies;
    own = (new, possible, record { kept = refl; low = refl; ttl = refl; schemas = refl; tablets = refl });
    some = λ among. let e : Some new ≡ None = only_one (Some new) None (subst (λ (m : List (Option StoneShape)). Contains m None) may among) in cc;
    listed = (all_noted told c h notes began since flush stands is);
    once = once_joined notes flush.news stands.once is.once (λ note among. ((fresh_file told c h notes began since flush stands is) note among).unnoted);
    lent = record {
      more = stands.lent.more + 1;
      lends = omega (arith, lends, stands.lent.lends);
      next_file = omega (arith, stands.lent.next_file);
      none = λ tells none. absurd (omega (arith, none));
      some = λ tells some. ceiling;
      used = used_flushed;
    };
    files = record {
      ceiling = omega (arith, ceiling);
      noted = λ file e. omega (arith, (noted_below told c h notes began since flush stands is) file e);
      named = λ file named. omega (arith, (noted_below told c h notes began since flush stands is) file (named_noted file named));
      frees = subst (λ (ns : List ℕ). RiseTo 0 ns c.freed) (sym (frees_in-append since (flush_elements flush) ∙ ap (λ (ns : List ℕ). frees_in since ++ ns) (frees_in-held flush.news (kept_entry flush.number)) ∙ append-nil (frees_in since))) stands.files.frees;
      freed = omega (arith, stands.files.freed);
      most = omega (arith, room);
    };
    tickets = tickets_flushed;
    count_is = omega (arith, stands.count_is, length-append since (flush_elements flush), length_elements flush.news flush.number);
    safe = safe_flushed;
  }

pub flush_stands : FlushStands
flush_stands told c s flush after stands is lawful room anchored then may steps ceiling lends =
    let more = flush_elements flush in
    let c' = with_flush c flush after in
    let all = stands_flushed told c (history_of s) (notes_of s) s.began s.since flush after stands is lawful room anchored then may steps ceiling lends in
    let same_history : history_of (grown s more) ≡ extended (history_of s) (kept_entry flush.number ∷ []) = grown_history s more ∙ ap (extended (history_of s)) (entries_in-held flush.news (entry (kept_entry flush.number) ∷ [])) in
    let same_notes : notes_of (grown s more) ≡ notes_of s ++ flush.news = grown_notes s more ∙ ap (λ (ns : List Noted). notes_of s ++ ns) (noted_in-held flush.news (kept_entry flush.number)) in
    subst (λ (h : History). Stands told c' h (notes_of (grown s more)) s.began (grown s more).since) (sym same_history)
    (subst (λ (ns : List Noted). Stands told c' (extended (history_of s) (kept_entry flush.number ∷ [])) ns s.began (grown s more).since) (sym same_notes) all)
