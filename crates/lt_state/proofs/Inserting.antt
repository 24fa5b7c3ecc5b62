-- A core stands for its story with one row more.
use Rattle.std.proofs.Common.{◌≡◌, ◌≢◌, ℕ, ◌+◌, ◌≤◌, Bool, true, List, [], ◌∷◌, ◌++◌, max, Contains, sym, ◌∙◌, ap, subst, arith, length-append}
use Rattle.std.proofs.lemmas.List.{append-nil}
use Rattle.lt_rec.specs.Record.{Record}
use Rattle.lt_rec.specs.declared.listed.Listed.{Listed}
use Rattle.lt_deps.specs.Kept.{Kept, StandsFor as DependenciesStandFor}
use Rattle.lt_model.specs.History.{Numbered, row_entry, History, extended}
use Rattle.lt_model.specs.Readings.{next, kept, schemas}
use Rattle.lt_model.specs.Legal.{IsLegal, RowMayFollow}
use Rattle.lt_model.specs.Verdict.{HasNewKey}
use Rattle.lt_model.specs.Disk.{tablets_of_rows}
use Rattle.lt_model.proofs.Fronts.{next-extended_by_row, low-extended_by_row, kept-extended_by_row, schemas-extended_by_row}
use Rattle.lt_model.proofs.Lawful.{EachFollows-more, IsLegal-lawful}
use Rattle.lt_trace.specs.Elements.{Noted, Began, Element, entry, history_of, notes_of, grown}
use Rattle.lt_trace.specs.Records.{IsRecordOf}
use Rattle.lt_trace.proofs.Lists.{origin}
use Rattle.lt_trace.proofs.Past.{past_outlives}
use Rattle.lt_state.specs.State.{Core, Sealed, Filled, listing, IsOwn}
use Rattle.lt_state.specs.Memory.{AreTablets}
use Rattle.lt_state.specs.Facts.{Source, in_file, in_tablet, Holds, IsSafe}
use Rattle.lt_state.specs.Flushes.{AddsRecord}
use Rattle.lt_state.specs.Stands.{Reads, LentSince, AreBelow, AreTickets, RiseTo, Stands, frees_in}
use Rattle.lt_state.specs.Laws.{HasNoKey, with_record, InsertStands}
use Rattle.lt_state.proofs.Growing.{grown_history, grown_notes, files_used-append, frees_in-append, next_tablet_row, kept_within, tablets_of_rows-row}
use Rattle.lt_state.proofs.Outlives.{facts_outlive}
use Rattle.lt_state.proofs.Joining.{row_joins_memory, row_splits_none, new_key_stays_apart}

-- a listed tablet, and the record is one of its own
new_in : (c : Core) (recs : ℕ → List Record) (rec : Record) → ((t : Sealed) → Contains c.listed t → t.recs ≡ recs t.listed.file) → HasNoKey c rec → (source : Source) (other : Record) → Holds recs (listing c) c.memory source other → other.key ≢ rec.key
new_in c recs rec own fresh (in_file file) other has_it =
    let o = origin (λ (t : Sealed). t.listed) c.listed has_it.tablet has_it.listed in
    let same : file ≡ o.from.listed.file = sym has_it.file_is ∙ ap (λ (l : Listed). l.file) (sym o.same) in
    fresh.listed o.from other o.among (subst (λ (rs : List Record). Contains rs other) (ap recs same ∙ sym (own o.from o.among)) has_it.among)
new_in c recs rec own fresh (in_tablet number) other has_it = fresh.memory number other has_it

safe_more : (told : Bool) (c : Core) (h : History) (notes : List Noted) (began : Began) (numbered : Numbered) (tablet : ℕ) (rec : Record) (left : List Filled) (dependencies : Kept)
    → kept h ≤ next h → RowMayFollow h numbered tablet → AddsRecord c.memory left tablet rec → (told ≡ true → HasNewKey h numbered.row) → (told ≡ true → HasNoKey c rec)
    → IsSafe told c h notes began → IsSafe told (with_record c left dependencies tablet) (extended h (row_entry numbered tablet ∷ [])) notes began
safe_more told c h notes began numbered tablet rec left dependencies within may adds new_key fresh safe =
    let e = row_entry numbered tablet in
    let legal : told ≡ true → IsLegal (extended h (e ∷ [])) = λ yes. IsLegal-lawful h e (safe.legal yes) may (new_key yes) in
    record {
      recs = safe.recs;
      noted = safe.noted;
      tablets = safe.tablets;
      facts = facts_outlive told safe.recs h (e ∷ []) c.anchor (listing c) c.memory left legal safe.facts
          (λ stone possible. (omega (arith, (safe.facts.settled stone possible).no_lower, kept-extended_by_row h numbered tablet), omega (arith, safe.facts.lows stone possible, low-extended_by_row h numbered tablet)))
          (row_splits_none h numbered tablet within safe.facts.unsettled may)
          (λ yes. new_key_stays_apart safe.recs (listing c) c.memory left tablet rec (safe.facts.keys yes) (new_in c safe.recs rec (safe.tablets yes) (fresh yes)) adds);
      legal = legal;
      begun = safe.begun;
      past = λ yes. past_outlives h (e ∷ []) began.moment c.anchor.directory (legal yes) (safe.past yes);
    }

reads_more : (c : Core) (h : History) (numbered : Numbered) (tablet : ℕ) (left : List Filled) (dependencies : Kept) → Reads c h → Reads (with_record c left dependencies tablet) (extended h (row_entry numbered tablet ∷ []))
reads_more c h numbered tablet left dependencies reads = record {
  next_is = omega (arith, reads.next_is, next-extended_by_row h numbered tablet);
  low_is = reads.low_is ∙ sym (low-extended_by_row h numbered tablet);
  ttl_is = reads.ttl_is;
  schemas_are = reads.schemas_are ∙ sym (schemas-extended_by_row h numbered tablet);
  kept_is = reads.kept_is ∙ sym (kept-extended_by_row h numbered tablet);
  next_tablet_is = ap (λ (n : ℕ). max n (tablet + 1)) reads.next_tablet_is ∙ sym (next_tablet_row h numbered tablet);
}

lent_more : (told : Bool) (c : Core) (began : Began) (since : List Element) (numbered : Numbered) (tablet : ℕ) (left : List Filled) (dependencies : Kept) → LentSince told c began since
    → LentSince told (with_record c left dependencies tablet) began (since ++ entry (row_entry numbered tablet) ∷ [])
lent_more told c began since numbered tablet left dependencies lent = record {
  more = lent.more;
  lends = lent.lends;
  next_file = lent.next_file;
  none = lent.none;
  some = lent.some;
  used = omega (arith, lent.used, files_used-append since (entry (row_entry numbered tablet) ∷ []));
}

below_more : (c : Core) (notes : List Noted) (since : List Element) (numbered : Numbered) (tablet : ℕ) (left : List Filled) (dependencies : Kept) → AreBelow c notes since
    → AreBelow (with_record c left dependencies tablet) notes (since ++ entry (row_entry numbered tablet) ∷ [])
below_more c notes since numbered tablet left dependencies files =
    let same : frees_in (since ++ entry (row_entry numbered tablet) ∷ []) ≡ frees_in since = frees_in-append since (entry (row_entry numbered tablet) ∷ []) ∙ append-nil (frees_in since) in
    record {
      ceiling = files.ceiling;
      noted = files.noted;
      named = files.named;
      frees = subst (λ (ns : List ℕ). RiseTo 0 ns c.freed) (sym same) files.frees;
      freed = files.freed;
      most = files.most;
    }

tickets_more : (c : Core) (notes : List Noted) (tablet : ℕ) (left : List Filled) (dependencies : Kept) → AreTickets c notes → AreTickets (with_record c left dependencies tablet) notes
tickets_more c notes tablet left dependencies tickets = record {
  rising = tickets.rising;
  below = tickets.below;
  once = tickets.once;
  lent = λ ticket file out covers. let t = tickets.lent ticket file out covers in record { below = t.below; unnoted = t.unnoted; unnamed = t.unnamed };
  apart = tickets.apart;
  handed = tickets.handed;
}

pub stands_more : (told : Bool) (c : Core) (h : History) (notes : List Noted) (began : Began) (since : List Element) (numbered : Numbered) (tablet : ℕ) (rec : Record) (left : List Filled) (dependencies : Kept)
    → Stands told c h notes began since → RowMayFollow h numbered tablet → IsRecordOf (schemas h) rec numbered → AddsRecord c.memory left tablet rec
    → AreTablets left → DependenciesStandFor dependencies (tablets_of_rows h ++ tablet ∷ [])
    → (told ≡ true → HasNewKey h numbered.row) → (told ≡ true → HasNoKey c rec)
    → Stands told (with_record c left dependencies tablet) (extended h (row_entry numbered tablet ∷ [])) notes began (since ++ entry (row_entry numbered tablet) ∷ [])
stands_more told c h notes began since numbered tablet rec left dependencies stands may is adds are depend new_key fresh =
    let e = row_entry numbered tablet in
    let within : kept h ≤ next h = kept_within h stands.opened stands.follows in
    let own : IsOwn c stands.own.0 = stands.own.2 in
    record {
      reads = reads_more c h numbered tablet left dependencies stands.reads;
      opened = stands.opened;
      follows = EachFollows-more h.opening [] h.entries e stands.follows may;
      memory = row_joins_memory h c.memory left numbered tablet rec within stands.memory may is adds;
      tablets = are;
      dependencies = subst (DependenciesStandFor dependencies) (sym (tablets_of_rows-row h numbered tablet (omega (arith, within, may.number)))) depend;
      own = (stands.own.0, stands.own.1, record { kept = own.kept; low = own.low; ttl = own.ttl; schemas = own.schemas; tablets = own.tablets });
      some = stands.some;
      listed = stands.listed;
      once = stands.once;
      lent = lent_more told c began since numbered tablet left dependencies stands.lent;
      files = below_more c notes since numbered tablet left dependencies stands.files;
      tickets = tickets_more c notes tablet left dependencies stands.tickets;
      count_is = omega (arith, stands.count_is, length-append since (entry e ∷ []));
      safe = safe_more told c h notes began numbered tablet rec left dependencies within may adds new_key fresh stands.safe;
    }

pub insert_stands : InsertStands
insert_stands told c s numbered tablet rec left dependencies stands may is adds are depend new_key fresh =
    let more = entry (row_entry numbered tablet) ∷ [] in
    let all = stands_more told c (history_of s) (notes_of s) s.began s.since numbered tablet rec left dependencies stands may is adds are depend new_key fresh in
    subst (λ (h : History). Stands told (with_record c left dependencies tablet) h (notes_of (grown s more)) s.began (grown s more).since) (sym (grown_history s more))
    (subst (λ (ns : List Noted). Stands told (with_record c left dependencies tablet) (extended (history_of s) (row_entry numbered tablet ∷ [])) ns s.began (grown s more).since) (sym (grown_notes s more ∙ append-nil (notes_of s))) all)
