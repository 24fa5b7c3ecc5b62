-- The next file number is lent.
use Rattle.std.proofs.Common.{◌≡◌, ℕ, ◌+◌, ◌^◌, ◌<◌, Bool, true, false, List, Option, Some, None, Contains, refl, sym, ap, subst, arith}
use Rattle.lt_io.specs.Directory.{lent, moment}
use Rattle.lt_io.specs.Steps.{Steps}
use Rattle.lt_io.proofs.Chains.{Steps-lent}
use Rattle.lt_desc.specs.Shape.{StoneShape}
use Rattle.lt_commit.specs.Anchored.{Anchored, IsAnchored, IsNamed}
use Rattle.lt_model.specs.History.{History}
use Rattle.lt_trace.specs.Elements.{Noted, Began, Element, history_of, notes_of, is_noted}
use Rattle.lt_trace.specs.Past.{PastOpens}
use Rattle.lt_state.specs.State.{Core, listing}
use Rattle.lt_state.specs.Facts.{SixFacts, IsSafe}
use Rattle.lt_state.specs.Stands.{Reads, LentSince, AreBelow, IsLent, AreTickets}
use Rattle.lt_state.specs.Laws.{Spares}
use Rattle.lt_state.proofs.Sparing.{sparing}
use Rattle.lt_events.specs.Cores.{with_lent, IsFree}
use Rattle.lt_events.specs.Laws.{RoomBegins, LendStands}

-- ---- what is below the next file number

pub reads_lent : (c : Core) (h : History) (after : Anchored) → Reads c h → Reads (with_lent c after) h
reads_lent c h after reads = record {
  next_is = reads.next_is;
  low_is = reads.low_is;
  ttl_is = reads.ttl_is;
  schemas_are = reads.schemas_are;
  kept_is = reads.kept_is;
  next_tablet_is = reads.next_tablet_is;
}

pub lent_one : (told : Bool) (c : Core) (began : Began) (since : List Element) (after : Anchored) → after.directory.now.ceiling ≡ c.next_file + 1 → after.directory.lends ≡ c.anchor.directory.lends + 1
    → LentSince told c began since → LentSince told (with_lent c after) began since
lent_one told c began since after ceiling lends so_far = record {
  more = so_far.more + 1;
  lends = omega (arith, lends, so_far.lends);
  next_file = omega (arith, so_far.next_file);
  none = λ tells none. absurd (omega (arith, none));
  some = λ tells some. ceiling;
  used = omega (arith, so_far.used);
}

named_was : (after : Anchored) (may : List (Option StoneShape)) (file : ℕ) → after.may ≡ may → IsNamed after.may file → IsNamed may file
named_was after may file same named = subst (λ (m : List (Option StoneShape)). IsNamed m file) same named

below_lent : (c : Core) (notes : List Noted) (since : List Element) (after : Anchored) → c.next_file < 2 ^ 62 → after.directory.now.ceiling ≡ c.next_file + 1 → after.may ≡ c.anchor.may
    → AreBelow c notes since → AreBelow (with_lent c after) notes since
below_lent c notes since after room ceiling may files = record {
  ceiling = omega (arith, ceiling);
  noted = λ file is. omega (arith, files.noted file is);
  named = λ file is. omega (arith, files.named file (named_was after c.anchor.may file may is));
  frees = files.frees;
  freed = omega (arith, files.freed);
  most = omega (arith, room);
}

lent_stays : (c : Core) (notes : List Noted) (since : List Element) (after : Anchored) (file : ℕ) → after.directory.now.ceiling ≡ c.next_file + 1 → after.may ≡ c.anchor.may → AreBelow c notes since
    → IsLent c notes file → IsLent (with_lent c after) notes file
lent_stays c notes since after file ceiling may files is = record {
  below = omega (arith, is.below, ceiling, files.ceiling);
  unnoted = is.unnoted;
  unnamed = λ named. is.unnamed (named_was after c.anchor.may file may named);
}

tickets_lent : (c : Core) (notes : List Noted) (since : List Element) (after : Anchored) → after.directory.now.ceiling ≡ c.next_file + 1 → after.may ≡ c.anchor.may → AreBelow c notes since
    → AreTickets c notes → AreTickets (with_lent c after) notes
tickets_lent c notes since after ceiling may files tickets = record {
  rising = tickets.rising;
  below = tickets.below;
  once = tickets.once;
  lent = λ ticket file out covers. lent_stays c notes since after file ceiling may files (tickets.lent ticket file out covers);
  apart = tickets.apart;
  handed = tickets.handed;
}

-- ---- the facts

module _ (told : Bool) (c : Core) (h : History) (notes : List Noted) (began : Began) (after : Anchored) (anchored : IsAnchored told c.anchor) (some : Contains c.anchor.may None → ⊥)
    (same : told ≡ true → after.directory ≡ lent c.anchor.directory c.next_file) (may : after.may ≡ c.anchor.may) (safe : IsSafe told c h notes began) where
  pub told_parts : told ≡ true → PastOpens h began.moment after.directory × SixFacts true safe.recs h after (listing c) c.memory
  told_parts tells =
      let facts : SixFacts true safe.recs h c.anchor (listing c) c.memory = subst (λ (b : Bool). SixFacts b safe.recs h c.anchor (listing c) c.memory) tells safe.facts in
      let was : IsAnchored true c.anchor = subst (λ (b : Bool). IsAnchored b c.anchor) tells anchored in
      let steps : Steps (Spares (λ n. ⊥)) c.anchor.directory after.directory =
      subst (Steps (Spares (λ n. ⊥)) c.anchor.directory) (sym (same tells)) (Steps-lent (Spares (λ n. ⊥)) c.anchor.directory c.next_file (record { stands = λ number bytes stays e. e; may = refl })) in
      let both = sparing h safe.recs c.anchor (listing c) c.memory (λ n. ⊥) began.moment after.directory (safe.legal tells) was facts some (safe.past tells) (safe.begun tells) (λ stone listed possible among no. no) steps in
      let back : record { directory = after.directory; may = c.anchor.may } ≡ after = λ i. record { directory = after.directory; may = sym may i } in
      (both.0, subst (λ (a : Anchored). SixFacts true safe.recs h a (listing c) c.memory) back both.1)

  pub safe_lent : IsSafe told (with_lent c after) h notes began
  safe_lent = record {
    recs = safe.recs;
    noted = safe.noted;
    tablets = safe.tablets;
    facts = record {
      entered = λ tells. (told_parts tells).1.entered refl;
      rows = λ tells. (told_parts tells).1.rows refl;
      settled = λ stone possible. safe.facts.settled stone (subst (λ (m : List (Option StoneShape)). Contains m (Some stone)) may possible);
      lows = λ stone possible. safe.facts.lows stone (subst (λ (m : List (Option StoneShape)). Contains m (Some stone)) may possible);
      unsettled = safe.facts.unsettled;
      keys = safe.facts.keys;
    };
    legal = safe.legal;
    begun = λ tells. omega (arith, safe.begun tells, ap moment (same tells));
    past = λ tells. (told_parts tells).0;
  }

-- ---- all of it

fresh_number : (c : Core) (notes : List Noted) (since : List Element) (after : Anchored) → after.directory.now.ceiling ≡ c.next_file + 1 → after.may ≡ c.anchor.may → AreBelow c notes since → AreTickets c notes
    → IsFree (with_lent c after) notes c.next_file
fresh_number c notes since after ceiling may files tickets = record {
  lent = record {
    below = omega (arith, ceiling);
    unnoted = unnoted (is_noted notes c.next_file) refl;
    unnamed = λ named. omega (arith, files.named c.next_file (named_was after c.anchor.may c.next_file may named));
  };
  apart = λ ticket out covers. omega (arith, (tickets.lent ticket c.next_file out covers).below, files.ceiling);
}
  where
    unnoted : (b : Bool) → is_noted notes c.next_file ≡ b → b ≡ false
    unnoted true e = absurd (omega (arith, files.noted c.next_file e))
    unnoted false e = refl

pub room_begins : RoomBegins
room_begins told c s stands = omega (arith, stands.lent.used, stands.lent.next_file)

pub lend_stands : LendStands
lend_stands told c s after stands anchored room same ceiling lends may =
    let own = stands.own.2 in (
      record {
        reads = reads_lent c (history_of s) after stands.reads;
        opened = stands.opened;
        follows = stands.follows;
        memory = stands.memory;
        tablets = stands.tablets;
        dependencies = stands.dependencies;
        own = (stands.own.0, subst (λ (m : List (Option StoneShape)). Contains m (Some stands.own.0)) (sym may) stands.own.1, record { kept = own.kept; low = own.low; ttl = own.ttl; schemas = own.schemas; tablets = own.tablets });
        some = λ none. stands.some (subst (λ (m : List (Option StoneShape)). Contains m None) may none);
        listed = stands.listed;
        once = stands.once;
        lent = lent_one told c s.began s.since after ceiling lends stands.lent;
        files = below_lent c (notes_of s) s.since after room ceiling may stands.files;
        tickets = tickets_lent c (notes_of s) s.since after ceiling may stands.files stands.tickets;
        count_is = stands.count_is;
        safe = safe_lent told c (history_of s) (notes_of s) s.began after anchored stands.some same may stands.safe;
      },
      fresh_number c (notes_of s) s.since after ceiling may stands.files stands.tickets,
      λ file free. record { lent = lent_stays c (notes_of s) s.since after file ceiling may stands.files free.lent; apart = free.apart },
      λ count room. omega (arith, room),
    )
