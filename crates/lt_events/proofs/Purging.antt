-- A purge is published, or its publishing fails.
use Rattle.std.proofs.Common.{◌≡◌, ℕ, ◌+◌, ◌^◌, ◌≤◌, ◌<◌, Bool, true, List, [], ◌∷◌, ◌++◌, map, max, Option, Some, None, Ok, Contains, refl, sym, ◌∙◌, ap, subst, ⊎_elim, arith, length-append}
use Rattle.std.specs.Prelude.{filter, nat_le}
use Rattle.std.proofs.lemmas.List.{append-nil}
use Rattle.lt_io.specs.Directory.{Contents}
use Rattle.lt_io.specs.Steps.{Steps}
use Rattle.lt_rec.specs.Record.{Record}
use Rattle.lt_rec.specs.declared.listed.Listed.{Listed}
use Rattle.lt_deps.specs.Kept.{StandsFor as DependenciesStandFor}
use Rattle.lt_schema.specs.Versions.{SchemaVersions}
use Rattle.lt_desc.specs.Shape.{StoneShape}
use Rattle.lt_desc.specs.Lawful.{IsStone, lists_file}
use Rattle.lt_desc.specs.Reading.{stone_at}
use Rattle.lt_desc.specs.Spelling.{spelling}
use Rattle.lt_commit.specs.Anchored.{Anchored, IsAnchored, IsNamed}
use Rattle.lt_commit.specs.Moments.{Replaces}
use Rattle.lt_commit.proofs.Orders.{replacing, only_one}
use Rattle.lt_model.specs.History.{Entry, bound_entry, History, extended}
use Rattle.lt_model.specs.Readings.{Note, next, low, kept, notes_in, next_tablet_in}
use Rattle.lt_model.specs.Legal.{IsLegal, MayFollow}
use Rattle.lt_model.specs.Disk.{tablets_of_rows}
use Rattle.lt_model.proofs.Lawful.{EachFollows-more, IsLegal-lawful}
use Rattle.lt_model.proofs.Fronts.{notes_in-append, next-extended_by_none, low-extended, kept-extended, schemas-extended_by_none}
use Rattle.lt_trace.specs.Elements.{Noted, Began, Element, entry, history_of, notes_of, grown}
use Rattle.lt_trace.specs.Records.{IsOn, KeysApart, Extends}
use Rattle.lt_trace.specs.Opens.{IsWhole, HoldsRows}
use Rattle.lt_trace.specs.Past.{PastOpens}
use Rattle.lt_trace.proofs.Lists.{origin, in_images}
use Rattle.lt_trace.proofs.Merged.{fewer_is_whole}
use Rattle.lt_trace.proofs.Same.{same_records_hold}
use Rattle.lt_trace.proofs.Past.{rows_outlive, past_outlives}
use Rattle.lt_state.specs.State.{Core, Filled, Sealed, listing}
use Rattle.lt_state.specs.Facts.{Source, in_file, in_tablet, Holds, SixFacts, IsSafe}
use Rattle.lt_state.specs.Stands.{IsLent, Stands, frees_in, RiseTo}
use Rattle.lt_state.proofs.Growing.{grown_history, grown_notes, files_used-append, frees_in-append, kept_within}
use Rattle.lt_state.proofs.Others.{published_facts, others_leave_memory, others_split_none}
use Rattle.lt_state.proofs.Past.{publish_keeps_past}
use Rattle.lt_events.specs.Purging.{Purge, purged_stone, with_purge, IsPurge, PurgeStands, PurgeFaultStands}
use Rattle.lt_events.proofs.Failing.{steps_end, some_is, stands_failed}
use Rattle.lt_events.proofs.Lending.{lent_one}
use Rattle.lt_events.proofs.Listing.{ListedOf, listed_of, lists_it}

tablets_stay : (h : History) (bound : ℕ) → tablets_of_rows (extended h (bound_entry bound ∷ [])) ≡ tablets_of_rows h
tablets_stay h bound =
    let more : List Entry = bound_entry bound ∷ [] in
    let same : kept (extended h more) ≡ kept h = kept-extended h more in
    let notes : notes_in (h.entries ++ more) ≡ notes_in h.entries = notes_in-append h.entries more ∙ append-nil (notes_in h.entries) in
    ap (λ (k : ℕ). map (λ (n : Note). n.tablet) (filter (λ (n : Note). nat_le k n.seq) (notes_in (h.entries ++ more)))) same
    ∙ ap (λ (ns : List Note). map (λ (n : Note). n.tablet) (filter (λ (n : Note). nat_le (kept h) n.seq) ns)) notes

-- what fewer tablets hold was held
fewer_hold : (recs : ℕ → List Record) (olds news : List Listed) (memory : List Filled) → ((listed : Listed) → Contains news listed → Contains olds listed) → (source : Source) (rec : Record) → Holds recs news memory source rec → Holds recs olds memory source rec
fewer_hold recs olds news memory was (in_file file) rec held = record { tablet = held.tablet; listed = was held.tablet held.listed; file_is = held.file_is; among = held.among }
fewer_hold recs olds news memory was (in_tablet number) rec held = held

-- ---- the stone

module _ (told : Bool) (c : Core) (h : History) (notes : List Noted) (began : Began) (since : List Element) (purge : Purge)
    (stands : Stands told c h notes began since) (is : IsPurge told c purge) (lawful : IsStone (purged_stone c purge)) where
  abbrev pub stone : StoneShape
  stone = purged_stone c purge

  abbrev own : StoneShape
  own = stands.own.0

  abbrev recs : ℕ → List Record
  recs = stands.safe.recs

  pub was_listed : (listed : Listed) → Contains stone.tablets listed → Contains (listing c) listed
  was_listed listed among =
      let o = origin (λ (t : Sealed). t.listed) purge.left listed among in
      subst (Contains (listing c)) o.same (in_images (λ (t : Sealed). t.listed) c.listed o.from (is.was o.from o.among))

  was_own : (listed : Listed) → Contains stone.tablets listed → Contains own.tablets listed
  was_own listed among = subst (λ (ts : List Listed). Contains ts listed) (sym stands.own.2.tablets) (was_listed listed among)

  extends : Extends own.schemas stone.schemas
  extends = record { first = ap (λ (v : SchemaVersions). v.first) (sym stands.own.2.schemas); since = []; changes = ap (λ (v : SchemaVersions). v.changes) (sym stands.own.2.schemas) ∙ sym (append-nil own.schemas.changes) }

  pub whole : stone_at (spelling stone) ≡ Ok stone → told ≡ true → IsWhole recs c.anchor.directory.now.files stone
  whole read tells = fewer_is_whole recs c.anchor.directory.now.files own stone (stands.safe.facts.entered tells own stands.own.1) lawful read extends was_own

  -- a record from the bound on is in a tablet that stays
  stays_on : told ≡ true → (rec : Record) → purge.bound ≤ rec.ts → IsOn recs own.tablets rec → IsOn recs stone.tablets rec
  stays_on tells rec late on =
      let o = origin (λ (t : Sealed). t.listed) c.listed on.tablet (subst (λ (ts : List Listed). Contains ts on.tablet) stands.own.2.tablets on.listed) in
      ⊎_elim
      (λ left. record { tablet = on.tablet; listed = subst (Contains stone.tablets) o.same (in_images (λ (t : Sealed). t.listed) purge.left o.from left); among = on.among })
      (λ gone.
      let there : Contains o.from.recs rec = subst (λ (rs : List Record). Contains rs rec) (ap (λ (l : Listed). recs l.file) (sym o.same) ∙ sym (stands.safe.tablets tells o.from o.among)) on.among in
      let early = gone tells rec there in
      absurd (omega (arith, early, late)))
      (is.stays o.from o.among)

  pub holds : told ≡ true → HoldsRows recs h stone
  holds tells = same_records_hold h recs recs own stone (stands.safe.facts.rows tells own stands.own.1) (stands.safe.facts.entered tells own stands.own.1).rows_are (sym stands.own.2.kept) (omega (arith, stands.own.2.low, is.no_lower)) extends
      (λ rec late. (
        (λ on. stays_on tells rec late on),
        (λ on. record { tablet = on.tablet; listed = was_own on.tablet on.listed; among = on.among }),
      ))

  pub given : stone.kept ≤ next h
  given = let within = kept_within h stands.opened stands.follows in omega (arith, within, stands.reads.kept_is)

  -- a file that the stone lists is one that the core's own lists
  pub own_names : (file : ℕ) → lists_file stone.tablets file ≡ true → IsNamed c.anchor.may file
  own_names file listed =
      let l : ListedOf stone.tablets file = listed_of stone.tablets file listed in
      record { stone = own; possible = stands.own.1; listed = ap (lists_file own.tablets) (sym l.file_is) ∙ lists_it own.tablets l.listed (was_own l.listed l.among) }

-- ---- it was published

module _ (told : Bool) (c : Core) (h : History) (notes : List Noted) (began : Began) (since : List Element) (purge : Purge) (after : Anchored)
    (stands : Stands told c h notes began since) (is : IsPurge told c purge) (lawful : IsStone (purged_stone c purge)) (room : c.next_file < 2 ^ 62)
    (anchored : IsAnchored told c.anchor) (then : IsAnchored told after) (may : after.may ≡ Some (purged_stone c purge) ∷ [])
    (steps : told ≡ true → Steps (Replaces c.next_file (spelling (purged_stone c purge))) c.anchor.directory after.directory)
    (ceiling : after.directory.now.ceiling ≡ c.next_file + 1) (lends : after.directory.lends ≡ c.anchor.directory.lends + 1) where
  abbrev more : List Entry
  more = bound_entry purge.bound ∷ []

  abbrev new : StoneShape
  new = purged_stone c purge

  abbrev purged : Core
  purged = with_purge c purge after

  possible : Contains after.may (Some new)
  possible = subst (λ (m : List (Option StoneShape)). Contains m (Some new)) (sym may) (0, omega arith, refl)

  read : stone_at (spelling new) ≡ Ok new
  read = then.readable new possible

  settled : kept (extended h more) ≡ kept h
  settled = kept-extended h more

  raised : low (extended h more) ≡ max (low h) purge.bound
  raised = low-extended h more

  may_follow : MayFollow h (bound_entry purge.bound)
  may_follow = (omega (arith, stands.reads.low_is, is.no_lower), is.moment)

  legal : told ≡ true → IsLegal (extended h more)
  legal tells = IsLegal-lawful h (bound_entry purge.bound) (stands.safe.legal tells) may_follow tt

  named_was : (file : ℕ) → IsNamed after.may file → IsNamed c.anchor.may file
  named_was file named =
      let one : new ≡ named.stone = some_is new named.stone (only_one (Some new) (Some named.stone) (subst (λ (m : List (Option StoneShape)). Contains m (Some named.stone)) may named.possible)) in
      own_names told c h notes began since purge stands is lawful file (ap (λ (s : StoneShape). lists_file s.tablets file) one ∙ named.listed)

  files_stay : told ≡ true → after.directory.now.files ≡ c.anchor.directory.now.files
  files_stay tells = (steps_end (Replaces c.next_file (spelling new)) (replacing c.next_file (spelling new)) c.anchor.directory after.directory (steps tells)).files

  apart : told ≡ true → KeysApart (Holds stands.safe.recs new.tablets c.memory)
  apart tells one other rec same held also key =
      let were = fewer_hold stands.safe.recs (listing c) new.tablets c.memory (was_listed told c h notes began since purge stands is lawful) in
      stands.safe.facts.keys tells one other rec same (were one rec held) (were other same also) key

  facts : SixFacts told stands.safe.recs (extended h more) after new.tablets c.memory
  facts = subst (λ (a : Anchored). SixFacts told stands.safe.recs (extended h more) a new.tablets c.memory) (let back : record { directory = after.directory; may = Some new ∷ [] } ≡ after = λ i. record { directory = after.directory; may = sym may i } in back)
      (published_facts told (extended h more) stands.safe.recs after.directory new c.memory
      (λ tells. subst (λ (f : Contents). IsWhole stands.safe.recs f new) (sym (files_stay tells)) (whole told c h notes began since purge stands is lawful read tells))
      (λ tells. rows_outlive stands.safe.recs h more new (legal tells) (given told c h notes began since purge stands is lawful) (holds told c h notes began since purge stands is lawful tells))
      (record { no_lower = omega (arith, settled, stands.reads.kept_is); given = let g = given told c h notes began since purge stands is lawful in omega (arith, g, next-extended_by_none h more refl) })
      (omega (arith, raised, stands.reads.low_is, is.no_lower))
      (others_split_none h more refl settled stands.safe.facts.unsettled)
      apart)

  past : told ≡ true → PastOpens (extended h more) began.moment after.directory
  past tells = past_outlives h more began.moment after.directory (legal tells)
      (publish_keeps_past h stands.safe.recs stands.safe.recs c.anchor (listing c) c.memory c.next_file began.moment new after.directory (stands.safe.legal tells) (subst (λ (b : Bool). IsAnchored b c.anchor) tells anchored)
      (subst (λ (b : Bool). SixFacts b stands.safe.recs h c.anchor (listing c) c.memory) tells stands.safe.facts) stands.some
      (stands.safe.past tells) (stands.safe.begun tells) (whole told c h notes began since purge stands is lawful read tells) (holds told c h notes began since purge stands is lawful tells)
      (given told c h notes began since purge stands is lawful) stands.own.0 stands.own.1 (omega (arith, stands.own.2.kept)) (steps tells))

  safe_purged : IsSafe told purged (extended h more) notes began
  safe_purged = record {
    recs = stands.safe.recs;
    noted = stands.safe.noted;
    tablets = λ tells t among. stands.safe.tablets tells t (is.was t among);
    facts = facts;
    legal = legal;
    begun = λ tells. omega (arith, stands.safe.begun tells, (steps tells).later);
    past = past;
  }

  lent_still : (file : ℕ) → IsLent c notes file → IsLent purged notes file
  lent_still file l = record { below = omega (arith, l.below, ceiling, stands.files.ceiling); unnoted = l.unnoted; unnamed = λ named. l.unnamed (named_was file named) }

  pub stands_purged : Stands told purged (extended h more) notes began (since ++ entry (bound_entry purge.bound) ∷ [])
  stands_purged = record {
    reads = record {
      next_is = stands.reads.next_is ∙ sym (next-extended_by_none h more refl);
      low_is = omega (arith, raised, stands.reads.low_is, is.no_lower);
      ttl_is = stands.reads.ttl_is;
      schemas_are = stands.reads.schemas_are ∙ sym (schemas-extended_by_none h more refl);
      kept_is = stands.reads.kept_is ∙ sym settled;
      next_tablet_is = stands.reads.next_tablet_is ∙ ap (next_tablet_in 0) (sym (notes_in-append h.entries more ∙ append-nil (notes_in h.entries)));
    };
    opened = stands.opened;
    follows = EachFollows-more h.opening [] h.entries (bound_entry purge.bound) stands.follows may_follow;
    memory = others_leave_memory h c.memory more refl settled stands.memory;
    tablets = stands.tablets;
    dependencies = subst (λ (ts : List ℕ). DependenciesStandFor c.dependencies ts) (sym (tablets_stay h purge.bound)) stands.dependencies;
    own = (new, possible, record { kept = refl; low = refl; ttl = refl; schemas = refl; tablets = refl });
    some = λ among. let e : Some new ≡ None = only_one (Some new) None (subst (λ (m : List (Option StoneShape)). Contains m None) may among) in cc;
    listed = λ t among. stands.listed t (is.was t among);
    once = stands.once;
    lent = let one = lent_one told c began since after ceiling lends stands.lent in
        record { more = one.more; lends = one.lends; next_file = one.next_file; none = one.none; some = one.some; used = omega (arith, stands.lent.used, files_used-append since (entry (bound_entry purge.bound) ∷ [])) };
    files = record {
      ceiling = omega (arith, ceiling);
      noted = λ file n. omega (arith, stands.files.noted file n);
      named = λ file named. omega (arith, stands.files.named file (named_was file named));
      frees = subst (λ (ns : List ℕ). RiseTo 0 ns c.freed) (sym (frees_in-append since (entry (bound_entry purge.bound) ∷ []) ∙ append-nil (frees_in since))) stands.files.frees;
      freed = omega (arith, stands.files.freed);
      most = omega (arith, room);
    };
    tickets = record {
      rising = stands.tickets.rising;
      below = stands.tickets.below;
      once = stands.tickets.once;
      lent = λ ticket file out covers. lent_still file (stands.tickets.lent ticket file out covers);
      apart = stands.tickets.apart;
      handed = stands.tickets.handed;
    };
    count_is = omega (arith, stands.count_is, length-append since (entry (bound_entry purge.bound) ∷ []));
    safe = safe_purged;
  }

pub purge_stands : PurgeStands
purge_stands told c s purge after stands is lawful room anchored then may steps ceiling lends =
    let more = entry (bound_entry purge.bound) ∷ [] in
    let c' = with_purge c purge after in
    let all = stands_purged told c (history_of s) (notes_of s) s.began s.since purge after stands is lawful room anchored then may steps ceiling lends in
    subst (λ (h : History). Stands told c' h (notes_of (grown s more)) s.began (grown s more).since) (sym (grown_history s more))
    (subst (λ (ns : List Noted). Stands told c' (extended (history_of s) (bound_entry purge.bound ∷ [])) ns s.began (grown s more).since) (sym (grown_notes s more ∙ append-nil (notes_of s))) all)

-- ---- its publishing failed

pub purge_fault_stands : PurgeFaultStands
purge_fault_stands told c s purge after stands is lawful room anchored then may steps either ceiling lends =
    let h = history_of s in
    let notes = notes_of s in
    let named : (file : ℕ) → lists_file (purged_stone c purge).tablets file ≡ true → IsNamed c.anchor.may file = own_names told c h notes s.began s.since purge stands is lawful in
    stands_failed told c h notes s.began s.since (purged_stone c purge) after stands (record {
      recs = stands.safe.recs;
      noted = stands.safe.noted;
      tablets = stands.safe.tablets;
      facts = stands.safe.facts;
      whole = whole told c h notes s.began s.since purge stands is lawful;
      holds = holds told c h notes s.began s.since purge stands is lawful;
      settled = record { no_lower = omega (arith, stands.reads.kept_is); given = given told c h notes s.began s.since purge stands is lawful };
      low = omega (arith, stands.reads.low_is, is.no_lower);
      no_lower = omega arith;
      below = λ file listed. stands.files.named file (named file listed);
      apart = λ ticket file out covers listed. (stands.tickets.lent ticket file out covers).unnamed (named file listed);
    }) room anchored then may steps either ceiling lends
