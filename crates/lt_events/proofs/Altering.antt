-- A change of the schema is published, or its publishing fails.
use Rattle.std.proofs.Common.{◌≡◌, ℕ, ◌+◌, ◌^◌, ◌≤◌, ◌<◌, Bool, true, List, [], ◌∷◌, ◌++◌, map, Option, Some, None, Ok, Contains, refl, sym, ◌∙◌, ap, subst, arith, length-append}
use Rattle.std.specs.Prelude.{filter, nat_le}
use Rattle.std.proofs.lemmas.List.{append-nil}
use Rattle.lt_io.specs.Directory.{Contents, moment}
use Rattle.lt_io.specs.Steps.{Steps}
use Rattle.lt_rec.specs.Record.{Record}
use Rattle.lt_rec.specs.declared.listed.Listed.{Listed}
use Rattle.lt_deps.specs.Kept.{StandsFor as DependenciesStandFor}
use Rattle.lt_schema.specs.declared.change.Change.{Change}
use Rattle.lt_schema.specs.Versions.{SchemaVersions, newest, alter_refusal}
use Rattle.lt_desc.specs.Shape.{StoneShape}
use Rattle.lt_desc.specs.Lawful.{IsStone, lists_file}
use Rattle.lt_desc.specs.Reading.{stone_at}
use Rattle.lt_desc.specs.Spelling.{spelling}
use Rattle.lt_commit.specs.Anchored.{Anchored, IsAnchored, IsNamed}
use Rattle.lt_commit.specs.Moments.{Replaces}
use Rattle.lt_commit.proofs.Orders.{replacing, only_one}
use Rattle.lt_model.specs.History.{Entry, schema_entry, History, extended}
use Rattle.lt_model.specs.Readings.{Note, next, kept, schemas, notes_in, next_tablet_in}
use Rattle.lt_model.specs.Legal.{IsLegal}
use Rattle.lt_model.specs.Disk.{tablets_of_rows}
use Rattle.lt_model.proofs.Lawful.{EachFollows-more, IsLegal-lawful}
use Rattle.lt_model.proofs.Fronts.{notes_in-append, next-extended_by_none, low-extended, kept-extended, schemas-extended}
use Rattle.lt_trace.specs.Elements.{Noted, Began, Element, entry, history_of, notes_of, grown}
use Rattle.lt_trace.specs.Records.{IsOn, Extends}
use Rattle.lt_trace.specs.Opens.{IsWhole, HoldsRows}
use Rattle.lt_trace.specs.Past.{PastOpens}
use Rattle.lt_trace.proofs.Merged.{fewer_is_whole}
use Rattle.lt_trace.proofs.Same.{same_records_hold}
use Rattle.lt_trace.proofs.Past.{rows_outlive, past_outlives}
use Rattle.lt_state.specs.State.{Core, listing}
use Rattle.lt_state.specs.Facts.{IsSettled, SixFacts, IsSafe}
use Rattle.lt_state.specs.Stands.{Reads, LentSince, AreBelow, IsLent, AreTickets, Stands, frees_in, RiseTo}
use Rattle.lt_state.proofs.Growing.{grown_history, grown_notes, files_used-append, frees_in-append, kept_within}
use Rattle.lt_state.proofs.Others.{published_facts, others_leave_memory, others_split_none}
use Rattle.lt_state.proofs.Past.{publish_keeps_past}
use Rattle.lt_events.specs.Cores.{with_change, changed_stone, with_schemas}
use Rattle.lt_events.specs.Laws.{AlterStands, AlterFaultStands}
use Rattle.lt_events.proofs.Failing.{steps_end, some_is, stands_failed}
use Rattle.lt_events.proofs.Lending.{lent_one}

tablets_stay : (h : History) (change : Change) → tablets_of_rows (extended h (schema_entry change ∷ [])) ≡ tablets_of_rows h
tablets_stay h change =
    let more : List Entry = schema_entry change ∷ [] in
    let same : kept (extended h more) ≡ kept h = kept-extended h more in
    let notes : notes_in (h.entries ++ more) ≡ notes_in h.entries = notes_in-append h.entries more ∙ append-nil (notes_in h.entries) in
    ap (λ (k : ℕ). map (λ (n : Note). n.tablet) (filter (λ (n : Note). nat_le k n.seq) (notes_in (h.entries ++ more)))) same
    ∙ ap (λ (ns : List Note). map (λ (n : Note). n.tablet) (filter (λ (n : Note). nat_le (kept h) n.seq) ns)) notes

-- ---- the stone of the change

module _ (told : Bool) (c : Core) (h : History) (notes : List Noted) (began : Began) (since : List Element) (change : Change) (after : Anchored)
    (stands : Stands told c h notes began since) (admitted : alter_refusal (newest c.schemas) change ≡ None) (lawful : IsStone (changed_stone c change))
    (anchored : IsAnchored told c.anchor) (steps : told ≡ true → Steps (Replaces c.next_file (spelling (changed_stone c change))) c.anchor.directory after.directory) where
  abbrev pub stone : StoneShape
  stone = changed_stone c change

  abbrev own : StoneShape
  own = stands.own.0

  abbrev recs : ℕ → List Record
  recs = stands.safe.recs

  extends : Extends own.schemas stone.schemas
  extends = record { first = ap (λ (v : SchemaVersions). v.first) (sym stands.own.2.schemas); since = change ∷ []; changes = ap (λ (v : SchemaVersions). v.changes ++ change ∷ []) (sym stands.own.2.schemas) }

  pub whole : stone_at (spelling stone) ≡ Ok stone → told ≡ true → IsWhole recs c.anchor.directory.now.files stone
  whole read tells = fewer_is_whole recs c.anchor.directory.now.files own stone (stands.safe.facts.entered tells own stands.own.1) lawful read extends
      (λ listed among. subst (λ (ts : List Listed). Contains ts listed) (sym stands.own.2.tablets) among)

  pub holds : told ≡ true → HoldsRows recs h stone
  holds tells = same_records_hold h recs recs own stone (stands.safe.facts.rows tells own stands.own.1) (stands.safe.facts.entered tells own stands.own.1).rows_are (sym stands.own.2.kept) (omega (arith, stands.own.2.low)) extends
      (λ rec late. (
        (λ on. subst (λ (ts : List Listed). IsOn recs ts rec) stands.own.2.tablets on),
        (λ on. subst (λ (ts : List Listed). IsOn recs ts rec) (sym stands.own.2.tablets) on),
      ))

  pub given : stone.kept ≤ next h
  given = let within = kept_within h stands.opened stands.follows in omega (arith, within, stands.reads.kept_is)

  pub settled_here : IsSettled h stone
  settled_here = record { no_lower = omega (arith, stands.reads.kept_is); given = given }

  pub files_stay : told ≡ true → after.directory.now.files ≡ c.anchor.directory.now.files
  files_stay tells = (steps_end (Replaces c.next_file (spelling stone)) (replacing c.next_file (spelling stone)) c.anchor.directory after.directory (steps tells)).files

  facts_true : told ≡ true → SixFacts true recs h c.anchor (listing c) c.memory
  facts_true tells = subst (λ (b : Bool). SixFacts b recs h c.anchor (listing c) c.memory) tells stands.safe.facts

  anchored_true : told ≡ true → IsAnchored true c.anchor
  anchored_true tells = subst (λ (b : Bool). IsAnchored b c.anchor) tells anchored

  pub past_here : stone_at (spelling stone) ≡ Ok stone → told ≡ true → PastOpens h began.moment after.directory
  past_here read tells = publish_keeps_past h recs recs c.anchor (listing c) c.memory c.next_file began.moment stone after.directory (stands.safe.legal tells) (anchored_true tells) (facts_true tells) stands.some
      (stands.safe.past tells) (stands.safe.begun tells) (whole read tells) (holds tells) given own stands.own.1 (omega (arith, stands.own.2.kept)) (steps tells)

  pub begun_here : told ≡ true → began.moment ≤ moment after.directory
  begun_here tells = omega (arith, stands.safe.begun tells, (steps tells).later)

  -- a file that the stone lists is one that the core's own lists
  pub own_names : (file : ℕ) → lists_file stone.tablets file ≡ true → IsNamed c.anchor.may file
  own_names file listed = record { stone = own; possible = stands.own.1; listed = ap (λ (ts : List Listed). lists_file ts file) stands.own.2.tablets ∙ listed }

-- ---- it was published

module _ (told : Bool) (c : Core) (h : History) (notes : List Noted) (began : Began) (since : List Element) (change : Change) (after : Anchored)
    (stands : Stands told c h notes began since) (admitted : alter_refusal (newest c.schemas) change ≡ None) (lawful : IsStone (changed_stone c change)) (room : c.next_file < 2 ^ 62)
    (anchored : IsAnchored told c.anchor) (then : IsAnchored told after) (may : after.may ≡ Some (changed_stone c change) ∷ [])
    (steps : told ≡ true → Steps (Replaces c.next_file (spelling (changed_stone c change))) c.anchor.directory after.directory)
    (ceiling : after.directory.now.ceiling ≡ c.next_file + 1) (lends : after.directory.lends ≡ c.anchor.directory.lends + 1) where
  abbrev more : List Entry
  more = schema_entry change ∷ []

  abbrev new : StoneShape
  new = changed_stone c change

  abbrev altered : Core
  altered = with_schemas c (with_change c.schemas change) after

  possible : Contains after.may (Some new)
  possible = subst (λ (m : List (Option StoneShape)). Contains m (Some new)) (sym may) (0, omega arith, refl)

  read : stone_at (spelling new) ≡ Ok new
  read = then.readable new possible

  settled : kept (extended h more) ≡ kept h
  settled = kept-extended h more

  admitted_here : alter_refusal (newest (schemas h)) change ≡ None
  admitted_here = subst (λ (v : SchemaVersions). alter_refusal (newest v) change ≡ None) stands.reads.schemas_are admitted

  legal : told ≡ true → IsLegal (extended h more)
  legal tells = IsLegal-lawful h (schema_entry change) (stands.safe.legal tells) admitted_here tt

  named_was : (file : ℕ) → IsNamed after.may file → IsNamed c.anchor.may file
  named_was file named =
      let one : new ≡ named.stone = some_is new named.stone (only_one (Some new) (Some named.stone) (subst (λ (m : List (Option StoneShape)). Contains m (Some named.stone)) may named.possible)) in
      own_names told c h notes began since change after stands admitted lawful anchored steps file (ap (λ (s : StoneShape). lists_file s.tablets file) one ∙ named.listed)

  facts : SixFacts told stands.safe.recs (extended h more) after (listing c) c.memory
  facts = subst (λ (a : Anchored). SixFacts told stands.safe.recs (extended h more) a (listing c) c.memory) (let back : record { directory = after.directory; may = Some new ∷ [] } ≡ after = λ i. record { directory = after.directory; may = sym may i } in back)
      (published_facts told (extended h more) stands.safe.recs after.directory new c.memory
      (λ tells. subst (λ (f : Contents). IsWhole stands.safe.recs f new) (sym (files_stay told c h notes began since change after stands admitted lawful anchored steps tells)) (whole told c h notes began since change after stands admitted lawful anchored steps read tells))
      (λ tells. rows_outlive stands.safe.recs h more new (legal tells) (given told c h notes began since change after stands admitted lawful anchored steps) (holds told c h notes began since change after stands admitted lawful anchored steps tells))
      (record { no_lower = omega (arith, settled, stands.reads.kept_is); given = let g = given told c h notes began since change after stands admitted lawful anchored steps in omega (arith, g, next-extended_by_none h more refl) })
      (omega (arith, low-extended h more, stands.reads.low_is))
      (others_split_none h more refl settled stands.safe.facts.unsettled)
      stands.safe.facts.keys)

  safe_altered : IsSafe told altered (extended h more) notes began
  safe_altered = record {
    recs = stands.safe.recs;
    noted = stands.safe.noted;
    tablets = stands.safe.tablets;
    facts = facts;
    legal = legal;
    begun = begun_here told c h notes began since change after stands admitted lawful anchored steps;
    past = λ tells. past_outlives h more began.moment after.directory (legal tells) (past_here told c h notes began since change after stands admitted lawful anchored steps read tells);
  }

  lent_still : (file : ℕ) → IsLent c notes file → IsLent altered notes file
  lent_still file is = record { below = omega (arith, is.below, ceiling, stands.files.ceiling); unnoted = is.unnoted; unnamed = λ named. is.unnamed (named_was file named) }

  tickets_altered : AreTickets altered notes
  tickets_altered = record {
    rising = stands.tickets.rising;
    below = stands.tickets.below;
    once = stands.tickets.once;
    lent = λ ticket file out covers. lent_still file (stands.tickets.lent ticket file out covers);
    apart = stands.tickets.apart;
    handed = stands.tickets.handed;
  }

  lent_altered : LentSince told altered began (since ++ entry (schema_entry change) ∷ [])
  lent_altered =
      let one = lent_one told c began since after ceiling lends stands.lent in
      record { more = one.more; lends = one.lends; next_file = one.next_file; none = one.none; some = one.some; used = omega (arith, stands.lent.used, files_used-append since (entry (schema_entry change) ∷ [])) }

  files_altered : AreBelow altered notes (since ++ entry (schema_entry change) ∷ [])
  files_altered =
      let same : frees_in (since ++ entry (schema_entry change) ∷ []) ≡ frees_in since = frees_in-append since (entry (schema_entry change) ∷ []) ∙ append-nil (frees_in since) in
      record {
        ceiling = omega (arith, ceiling);
        noted = λ file is. omega (arith, stands.files.noted file is);
        named = λ file named. omega (arith, stands.files.named file (named_was file named));
        frees = subst (λ (ns : List ℕ). RiseTo 0 ns c.freed) (sym same) stands.files.frees;
        freed = omega (arith, stands.files.freed);
        most = omega (arith, room);
      }

  reads_altered : Reads altered (extended h more)
  reads_altered = record {
    next_is = stands.reads.next_is ∙ sym (next-extended_by_none h more refl);
    low_is = stands.reads.low_is ∙ sym (low-extended h more);
    ttl_is = stands.reads.ttl_is;
    schemas_are = ap (λ (v : SchemaVersions). with_change v change) stands.reads.schemas_are ∙ sym (schemas-extended h more);
    kept_is = stands.reads.kept_is ∙ sym settled;
    next_tablet_is = stands.reads.next_tablet_is ∙ ap (next_tablet_in 0) (sym (notes_in-append h.entries more ∙ append-nil (notes_in h.entries)));
  }

  pub stands_altered : Stands told altered (extended h more) notes began (since ++ entry (schema_entry change) ∷ [])
  stands_altered = record {
    reads = reads_altered;
    opened = stands.opened;
    follows = EachFollows-more h.opening [] h.entries (schema_entry change) stands.follows admitted_here;
    memory = others_leave_memory h c.memory more refl settled stands.memory;
    tablets = stands.tablets;
    dependencies = subst (λ (ts : List ℕ). DependenciesStandFor c.dependencies ts) (sym (tablets_stay h change)) stands.dependencies;
    own = (new, possible, record { kept = refl; low = refl; ttl = refl; schemas = refl; tablets = refl });
    some = λ among. let e : Some new ≡ None = only_one (Some new) None (subst (λ (m : List (Option StoneShape)). Contains m None) may among) in cc;
    listed = stands.listed;
    once = stands.once;
    lent = lent_altered;
    files = files_altered;
    tickets = tickets_altered;
    count_is = omega (arith, stands.count_is, length-append since (entry (schema_entry change) ∷ []));
    safe = safe_altered;
  }

pub alter_stands : AlterStands
alter_stands told c s change after stands admitted lawful room anchored then may steps ceiling lends =
    let more = entry (schema_entry change) ∷ [] in
    let c' = with_schemas c (with_change c.schemas change) after in
    let all = stands_altered told c (history_of s) (notes_of s) s.began s.since change after stands admitted lawful room anchored then may steps ceiling lends in
    subst (λ (h : History). Stands told c' h (notes_of (grown s more)) s.began (grown s more).since) (sym (grown_history s more))
    (subst (λ (ns : List Noted). Stands told c' (extended (history_of s) (schema_entry change ∷ [])) ns s.began (grown s more).since) (sym (grown_notes s more ∙ append-nil (notes_of s))) all)

-- ---- its publishing failed

pub alter_fault_stands : AlterFaultStands
alter_fault_stands told c s change after stands admitted lawful room anchored then may steps either ceiling lends =
    let h = history_of s in
    let notes = notes_of s in
    let named : (file : ℕ) → lists_file (changed_stone c change).tablets file ≡ true → IsNamed c.anchor.may file = own_names told c h notes s.began s.since change after stands admitted lawful anchored steps in
    stands_failed told c h notes s.began s.since (changed_stone c change) after stands (record {
      recs = stands.safe.recs;
      noted = stands.safe.noted;
      tablets = stands.safe.tablets;
      facts = stands.safe.facts;
      whole = whole told c h notes s.began s.since change after stands admitted lawful anchored steps;
      holds = holds told c h notes s.began s.since change after stands admitted lawful anchored steps;
      settled = settled_here told c h notes s.began s.since change after stands admitted lawful anchored steps;
      low = omega (arith, stands.reads.low_is);
      no_lower = omega arith;
      below = λ file listed. stands.files.named file (named file listed);
      apart = λ ticket file out covers listed. (stands.tickets.lent ticket file out covers).unnamed (named file listed);
    }) room anchored then may steps either ceiling lends
