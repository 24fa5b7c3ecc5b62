-- Jobs: their condition, the stone that they publish, and what is left in memory.
use Rattle.std.proofs.Common.{◌≡◌, ◌⊎◌, ℕ, ◌≤◌, ◌<◌, List, [], ◌∷◌, ◌++◌, max, length, take, drop, Ok, Contains, refl, sym, ◌∙◌, ap, subst, inl, inr, ⊎_elim, arith, append_assoc, length-append}
use Rattle.std.proofs.lemmas.Bool.{cases_lt}
use Rattle.std.proofs.lemmas.List.{append-nil, take-append-drop}
use Rattle.std.proofs.lemmas.List.Elements.{Contains-append_cases}
use Rattle.lt_io.specs.Directory.{Contents}
use Rattle.lt_rec.specs.Closure.{has}
use Rattle.lt_rec.specs.Record.{Record}
use Rattle.lt_rec.specs.declared.listed.Listed.{Listed}
use Rattle.lt_schema.specs.Versions.{SchemaVersions}
use Rattle.lt_desc.specs.Shape.{StoneShape}
use Rattle.lt_desc.specs.Lawful.{IsStone}
use Rattle.lt_desc.specs.Reading.{stone_at}
use Rattle.lt_desc.specs.Spelling.{spelling}
use Rattle.lt_model.specs.History.{Numbered, Opening, Entry, kept_entry, History, front, extended}
use Rattle.lt_model.specs.Readings.{rows_in, next, kept, kept_in, schemas}
use Rattle.lt_model.specs.Legal.{EachFollows}
use Rattle.lt_model.proofs.Fronts.{rows_in-append, kept-extended, kept_in-append, schemas-extended_by_none}
use Rattle.lt_model.proofs.Verdicts.{AllByRecursion-contains}
use Rattle.lt_trace.proofs.Rows.{numbered_from, kept_in_up, placed_row, placed_in-append}
use Rattle.lt_trace.specs.Elements.{Placed, placed_in}
use Rattle.lt_trace.specs.Laws.{StoodBefore}
use Rattle.lt_trace.specs.Opens.{IsWhole}
use Rattle.lt_trace.specs.Records.{IsRecordOf, HasFile, KeysApart, InFile}
use Rattle.lt_state.specs.Facts.{Source, in_file, in_tablet, Holds}
use Rattle.lt_state.specs.Flushes.{IsFlushed}
use Rattle.lt_state.specs.Laws.{JobTakesAlong, FlushIsWhole, FlushLeavesMemory}
use Rattle.lt_state.specs.Memory.{IsPlaced, IsHeld, IsMemory}
use Rattle.lt_state.specs.State.{Filled}

-- ---- the condition

-- what follows the first of the entries
follows_later : (o : Opening) (before first entries : List Entry) → EachFollows o before (first ++ entries) → EachFollows o (before ++ first) entries
follows_later o before [] entries follows = subst (λ (es : List Entry). EachFollows o es entries) (sym (append-nil before)) follows
follows_later o before (e ∷ first) entries follows = subst (λ (es : List Entry). EachFollows o es entries) (append_assoc before (e ∷ []) first) (follows_later o (before ++ e ∷ []) first entries follows.1)

-- a row below a front's next number was there
pub was_there : (h : History) (k : ℕ) (p : Placed) → EachFollows h.opening [] h.entries → p.numbered.seq < next (front k h) → Contains (placed_in h.entries) p → Contains (placed_in (front k h).entries) p
was_there h k p all_follow below among =
    let first = take k h.entries in
    let later = drop k h.entries in
    let cut : first ++ later ≡ h.entries = take-append-drop k h.entries in
    let follows : EachFollows h.opening first later = follows_later h.opening [] first later (subst (EachFollows h.opening []) (sym cut) all_follow) in
    let split : placed_in h.entries ≡ placed_in first ++ placed_in later = ap placed_in (sym cut) ∙ placed_in-append first later in
    ⊎_elim
    (λ early. early)
    (λ late. let above : next (front k h) ≤ p.numbered.seq = AllByRecursion-contains (λ (n : Numbered). next (front k h) ≤ n.seq) (rows_in later) p.numbered (numbered_from h.opening first later (next (front k h)) (omega arith) follows) (placed_row later p late) in
    absurd (omega (arith, above, below)))
    (Contains-append_cases (placed_in first) (placed_in later) p (subst (λ (ps : List Placed). Contains ps p) split among))

pub kept_front : (h : History) (k : ℕ) → kept (front k h) ≤ kept h
kept_front h k =
    let all : kept h ≡ kept_in (kept (front k h)) (drop k h.entries) = ap (kept_in h.opening.kept) (sym (take-append-drop k h.entries)) ∙ kept_in-append h.opening.kept (take k h.entries) (drop k h.entries) in
    omega (arith, all, kept_in_up (kept (front k h)) (drop k h.entries))

pub next_front : (h : History) (k : ℕ) → next (front k h) ≤ next h
next_front h k = omega (arith, ap (λ (es : List Entry). length (rows_in es)) (take-append-drop k h.entries), ap length (rows_in-append (take k h.entries) (drop k h.entries)), length-append (rows_in (take k h.entries)) (rows_in (drop k h.entries)))

pub job_takes_along : JobTakesAlong
job_takes_along h k parts upto follows within job below left left_in left_above left_part = record {
  no_lower = let under : left.numbered.seq < upto = below left left_in left_above left_part in omega (arith, under, left_above);
  given = omega (arith, job.given, next_front h k);
  covers = λ p among above under. job.covers p (was_there h k p follows (omega (arith, under, job.given)) among) (omega (arith, above, kept_front h k)) under;
  below = below;
}

-- ---- the stone is whole

module _ (h : History) (old_recs new_recs : ℕ → List Record) (tablets : List Listed) (memory : List Filled) (parts : List ℕ) (files : Contents) (own new : StoneShape)
    (in_memory : IsMemory h memory) (whole : IsWhole old_recs files own) (own_tablets : own.tablets ≡ tablets) (own_schemas : own.schemas ≡ schemas h) (keys : KeysApart (Holds old_recs tablets memory))
    (new_schemas : new.schemas ≡ schemas h)
    (each : (listed : Listed) → Contains new.tablets listed → StoodBefore old_recs new_recs own.tablets listed ⊎ IsFlushed memory parts files new_recs listed)
    (alone : (one other : Listed) → Contains new.tablets one → Contains new.tablets other → (a : IsFlushed memory parts files new_recs one) (b : IsFlushed memory parts files new_recs other) → a.tablet.number ≡ b.tablet.number → one.file ≡ other.file) where
  file_of_each : (listed : Listed) → StoodBefore old_recs new_recs own.tablets listed ⊎ IsFlushed memory parts files new_recs listed → HasFile files listed (new_recs listed.file)
  file_of_each listed (inl stood) = subst (HasFile files listed) (sym stood.same) (whole.files_are listed stood.listed_before)
  file_of_each listed (inr flushed) = flushed.file

  row_of_each : (listed : Listed) (rec : Record) → Contains (new_recs listed.file) rec → StoodBefore old_recs new_recs own.tablets listed ⊎ IsFlushed memory parts files new_recs listed → (numbered : Numbered) × IsRecordOf (schemas h) rec numbered
  row_of_each listed rec among (inl stood) =
      let row : (numbered : Numbered) × IsRecordOf own.schemas rec numbered = whole.rows_are rec (record { tablet = listed; listed = stood.listed_before; among = subst (λ (rs : List Record). Contains rs rec) stood.same among }) in
      (row.0, subst (λ (v : SchemaVersions). IsRecordOf v rec row.0) own_schemas row.1)
  row_of_each listed rec among (inr flushed) =
      let p : IsPlaced h flushed.tablet.number rec = in_memory.each flushed.tablet.number rec (record { tablet = flushed.tablet; held = flushed.held; number_is = refl; among = subst (λ (rs : List Record). Contains rs rec) flushed.records among }) in
      (p.placed.numbered, p.is)

  -- where each record of a new file was held
  abbrev pub from : (listed : Listed) → StoodBefore old_recs new_recs own.tablets listed ⊎ IsFlushed memory parts files new_recs listed → Source
  from listed (inl stood) = in_file listed.file
  from listed (inr flushed) = in_tablet flushed.tablet.number

  pub was_held : (listed : Listed) (rec : Record) (o : StoodBefore old_recs new_recs own.tablets listed ⊎ IsFlushed memory parts files new_recs listed) → Contains (new_recs listed.file) rec → Holds old_recs tablets memory (from listed o) rec
  was_held listed rec (inl stood) among = record {
    tablet = listed;
    listed = subst (λ (ls : List Listed). Contains ls listed) own_tablets stood.listed_before;
    file_is = refl;
    among = subst (λ (rs : List Record). Contains rs rec) stood.same among;
  }
  was_held listed rec (inr flushed) among = record { tablet = flushed.tablet; held = flushed.held; number_is = refl; among = subst (λ (rs : List Record). Contains rs rec) flushed.records among }

  same_file : (one other : Listed) → Contains new.tablets one → Contains new.tablets other → (a : StoodBefore old_recs new_recs own.tablets one ⊎ IsFlushed memory parts files new_recs one) (b : StoodBefore old_recs new_recs own.tablets other ⊎ IsFlushed memory parts files new_recs other) → from one a ≡ from other b → one.file ≡ other.file
  same_file one other in_one in_other (inl a) (inl b) same = let e : in_file one.file ≡ in_file other.file = same in cc
  same_file one other in_one in_other (inl a) (inr b) same = let e : in_file one.file ≡ in_tablet b.tablet.number = same in cc
  same_file one other in_one in_other (inr a) (inl b) same = let e : in_tablet a.tablet.number ≡ in_file other.file = same in cc
  same_file one other in_one in_other (inr a) (inr b) same = let e : in_tablet a.tablet.number ≡ in_tablet b.tablet.number = same in alone one other in_one in_other a b (let n : a.tablet.number ≡ b.tablet.number = cc in n)

  pub in_new : (file : ℕ) (rec : Record) (a : InFile new_recs new.tablets file rec) → Contains (new_recs a.tablet.file) rec
  in_new file rec a = subst (λ (n : ℕ). Contains (new_recs n) rec) (sym a.file_is) a.among

  pub whole_new : IsStone new → stone_at (spelling new) ≡ Ok new → IsWhole new_recs files new
  whole_new lawful read = record {
    lawful = lawful;
    read = read;
    files_are = λ listed among. file_of_each listed (each listed among);
    rows_are = λ rec on. let row : (numbered : Numbered) × IsRecordOf (schemas h) rec numbered = row_of_each on.tablet rec on.among (each on.tablet on.listed) in
        (row.0, subst (λ (v : SchemaVersions). IsRecordOf v rec row.0) (sym new_schemas) row.1);
    apart = λ one other rec same a b key.
        let from_a = each a.tablet a.listed in
        let from_b = each b.tablet b.listed in
        sym a.file_is ∙ same_file a.tablet b.tablet a.listed b.listed from_a from_b (keys (from a.tablet from_a) (from b.tablet from_b) rec same (was_held a.tablet rec from_a (in_new one rec a)) (was_held b.tablet same from_b (in_new other same b)) key) ∙ b.file_is;
  }

pub flush_is_whole : FlushIsWhole
flush_is_whole h old_recs new_recs tablets memory parts files own new in_memory whole own_tablets own_schemas keys lawful read new_schemas each alone =
    whole_new h old_recs new_recs tablets memory parts files own new in_memory whole own_tablets own_schemas keys new_schemas each alone lawful read

-- ---- what is left in memory

pub flush_leaves_memory : FlushLeavesMemory
flush_leaves_memory h memory left parts upto in_memory takes leaves =
    let more = kept_entry upto ∷ [] in
    let settled : kept (extended h more) ≡ max (kept h) upto = kept-extended h more in
    let placed : placed_in (h.entries ++ more) ≡ placed_in h.entries = placed_in-append h.entries more ∙ append-nil (placed_in h.entries) in
    let same : schemas (extended h more) ≡ schemas h = schemas-extended_by_none h more refl in
    record {
      each = λ number rec held.
          let p : IsPlaced h number rec = in_memory.each number rec (leaves.was number rec held) in
          record {
            placed = p.placed;
            among = subst (λ (ps : List Placed). Contains ps p.placed) (sym placed) p.among;
            unsettled = ⊎_elim
                (λ low. absurd (leaves.gone number rec held (ap (has parts) (sym p.tablet_is) ∙ takes.covers p.placed p.among p.unsettled low)))
                (λ high. omega (arith, high, settled, p.unsettled))
                (cases_lt p.placed.numbered.seq upto);
            tablet_is = p.tablet_is;
            is = subst (λ (v : SchemaVersions). IsRecordOf v rec p.placed.numbered) (sym same) p.is;
          };
      all = λ p among above.
          let among_old : Contains (placed_in h.entries) p = subst (λ (ps : List Placed). Contains ps p) placed among in
          let from_old : kept h ≤ p.numbered.seq = omega (arith, above, settled, takes.no_lower) in
          let held : IsHeld h memory p = in_memory.all p among_old from_old in
          record {
            rec = held.rec;
            held = ⊎_elim
                (λ part. let below : p.numbered.seq < upto = takes.below p among_old from_old part in absurd (omega (arith, below, above, settled)))
                (λ on. on)
                (leaves.stays p.tablet held.rec held.held);
            is = subst (λ (v : SchemaVersions). IsRecordOf v held.rec p.numbered) (sym same) held.is;
          };
    }
