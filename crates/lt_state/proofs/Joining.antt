-- A row joins a tablet in memory.
use Rattle.std.proofs.Common.{◌≡◌, ◌⊎◌, ℕ, ◌+◌, ◌≤◌, ◌<◌, Bool, true, false, List, [], ◌∷◌, ◌++◌, max, nat_eq, Contains, refl, sym, ◌∙◌, ap, subst, inl, inr, ⊎_elim, arith, eqb-true}
use Rattle.std.specs.Prelude.{nat_le, IsTrue, ◌||◌}
use Rattle.std.specs.List.{list_any}
use Rattle.std.proofs.lemmas.List.Elements.{Contains-append_left, Contains-push, Contains-push_cases}
use Rattle.lt_rec.specs.Record.{Record}
use Rattle.lt_rec.specs.declared.listed.Listed.{Listed}
use Rattle.lt_schema.specs.Versions.{SchemaVersions}
use Rattle.lt_model.specs.History.{Numbered, Entry, row_entry, bound_entry, schema_entry, kept_entry, History, extended}
use Rattle.lt_model.specs.Readings.{Note, kept, schemas, notes_in, next_tablet, next_tablet_in, in_memory, IsInMemory}
use Rattle.lt_model.proofs.Fronts.{kept-extended_by_row, schemas-extended_by_row}
use Rattle.lt_model.proofs.Verdicts.{Contains-cons_cases}
use Rattle.lt_trace.proofs.Lists.{first_in, later_in, kept_was, kept_passes}
use Rattle.lt_trace.proofs.Rows.{placed_in-append}
use Rattle.lt_trace.specs.Elements.{Placed, placed_in}
use Rattle.lt_trace.specs.Records.{IsRecordOf}
use Rattle.lt_state.specs.Facts.{Source, in_file, in_tablet, Holds}
use Rattle.lt_state.specs.Flushes.{AddsRecord}
use Rattle.lt_state.specs.Laws.{RowJoinsMemory, RowSplitsNone, NewKeyStaysApart}
use Rattle.lt_state.specs.Memory.{IsPlaced, IsHeld}
use Rattle.lt_state.specs.State.{Filled}

abbrev placed_one : Numbered → ℕ → Placed
placed_one numbered tablet = record { numbered = numbered; tablet = tablet }

abbrev with_row : History → Numbered → ℕ → History
with_row h numbered tablet = extended h (row_entry numbered tablet ∷ [])

placed_push : (h : History) (numbered : Numbered) (tablet : ℕ) → placed_in (with_row h numbered tablet).entries ≡ placed_in h.entries ++ placed_one numbered tablet ∷ []
placed_push h numbered tablet = placed_in-append h.entries (row_entry numbered tablet ∷ [])

placed_cases : (h : History) (numbered : Numbered) (tablet : ℕ) (p : Placed) → Contains (placed_in (with_row h numbered tablet).entries) p → Contains (placed_in h.entries) p ⊎ (placed_one numbered tablet ≡ p)
placed_cases h numbered tablet p among = Contains-push_cases (placed_in h.entries) (placed_one numbered tablet) p (subst (λ (ps : List Placed). Contains ps p) (placed_push h numbered tablet) among)

placed_was : (h : History) (numbered : Numbered) (tablet : ℕ) (p : Placed) → Contains (placed_in h.entries) p → Contains (placed_in (with_row h numbered tablet).entries) p
placed_was h numbered tablet p among = subst (λ (ps : List Placed). Contains ps p) (sym (placed_push h numbered tablet)) (Contains-append_left (placed_in h.entries) (placed_one numbered tablet ∷ []) p among)

placed_new : (h : History) (numbered : Numbered) (tablet : ℕ) → Contains (placed_in (with_row h numbered tablet).entries) (placed_one numbered tablet)
placed_new h numbered tablet = subst (λ (ps : List Placed). Contains ps (placed_one numbered tablet)) (sym (placed_push h numbered tablet)) (Contains-push (placed_in h.entries) (placed_one numbered tablet))

pub row_joins_memory : RowJoinsMemory
row_joins_memory h memory left numbered tablet rec within in_memory may is adds =
    let g = with_row h numbered tablet in
    let settled : kept g ≡ kept h = kept-extended_by_row h numbered tablet in
    let same : schemas g ≡ schemas h = schemas-extended_by_row h numbered tablet in
    let is_new : IsRecordOf (schemas g) rec numbered = subst (λ (v : SchemaVersions). IsRecordOf v rec numbered) (sym same) is in
    record {
      each = λ number other held. ⊎_elim
          (λ was. let p : IsPlaced h number other = in_memory.each number other was in
          record { placed = p.placed; among = placed_was h numbered tablet p.placed p.among; unsettled = omega (arith, settled, p.unsettled); tablet_is = p.tablet_is; is = subst (λ (v : SchemaVersions). IsRecordOf v other p.placed.numbered) (sym same) p.is })
          (λ new. record { placed = placed_one numbered tablet; among = placed_new h numbered tablet; unsettled = omega (arith, settled, within, may.number); tablet_is = sym new.0; is = subst (λ (r : Record). IsRecordOf (schemas g) r numbered) (sym new.1) is_new })
          (adds.was number other held);
      all = λ p among above. ⊎_elim
          (λ was. let held : IsHeld h memory p = in_memory.all p was (omega (arith, settled, above)) in
          record { rec = held.rec; held = adds.stays p.tablet held.rec held.held; is = subst (λ (v : SchemaVersions). IsRecordOf v held.rec p.numbered) (sym same) held.is })
          (λ new. subst (IsHeld g left) new (let here : IsHeld g left (placed_one numbered tablet) = record { rec = rec; held = adds.new; is = is_new } in here))
          (placed_cases h numbered tablet p among);
    }

-- ---- no tablet is split

-- a row of a tablet in memory
record InTablet (h : History) (tablet : ℕ) : Type 0 where
  placed : Placed
  among : Contains (placed_in h.entries) placed
  tablet_is : placed.tablet ≡ tablet
  unsettled : kept h ≤ placed.numbered.seq

record NotePlaced (entries : List Entry) (note : Note) : Type 0 where
  placed : Placed
  among : Contains (placed_in entries) placed
  tablet_is : placed.tablet ≡ note.tablet
  seq_is : placed.numbered.seq ≡ note.seq

note_placed : (entries : List Entry) (note : Note) → Contains (notes_in entries) note → NotePlaced entries note
note_placed [] note among = absurd (omega (arith, among.1))
note_placed (row_entry first tablet ∷ entries) note among = ⊎_elim
    (λ same. record { placed = placed_one first tablet; among = first_in (placed_one first tablet) (placed_in entries); tablet_is = ap (λ (n : Note). n.tablet) same; seq_is = ap (λ (n : Note). n.seq) same })
    (λ later. let p = note_placed entries note later in record { placed = p.placed; among = later_in (placed_one first tablet) (placed_in entries) p.placed p.among; tablet_is = p.tablet_is; seq_is = p.seq_is })
    (Contains-cons_cases (record { tablet = tablet; seq = first.seq }) (notes_in entries) note among)
note_placed (bound_entry bound ∷ entries) note among = let p = note_placed entries note among in record { placed = p.placed; among = p.among; tablet_is = p.tablet_is; seq_is = p.seq_is }
note_placed (schema_entry change ∷ entries) note among = let p = note_placed entries note among in record { placed = p.placed; among = p.among; tablet_is = p.tablet_is; seq_is = p.seq_is }
note_placed (kept_entry number ∷ entries) note among = let p = note_placed entries note among in record { placed = p.placed; among = p.among; tablet_is = p.tablet_is; seq_is = p.seq_is }

record AnyNote (notes : List Note) (tablet : ℕ) : Type 0 where
  note : Note
  among : Contains notes note
  is : note.tablet ≡ tablet

any_step : (b : Bool) (first : Note) (notes : List Note) (tablet : ℕ) → nat_eq first.tablet tablet ≡ b → (IsTrue (list_any (λ note. nat_eq note.tablet tablet) notes) → AnyNote notes tablet)
    → IsTrue (b || list_any (λ note. nat_eq note.tablet tablet) notes) → AnyNote (first ∷ notes) tablet
any_step true first notes tablet e rest any = record { note = first; among = first_in first notes; is = eqb-true first.tablet tablet e }
any_step false first notes tablet e rest any = let a = rest any in record { note = a.note; among = later_in first notes a.note a.among; is = a.is }

any_note : (notes : List Note) (tablet : ℕ) → IsTrue (list_any (λ note. nat_eq note.tablet tablet) notes) → AnyNote notes tablet
any_note [] tablet any = cc
any_note (first ∷ notes) tablet any = any_step (nat_eq first.tablet tablet) first notes tablet refl (any_note notes tablet) any

le_of : (a b : ℕ) → nat_le a b ≡ true → a ≤ b
le_of a b e = grind arith

in_tablet_of : (h : History) (tablet : ℕ) → IsInMemory h tablet → InTablet h tablet
in_tablet_of h tablet is =
    let a = any_note (in_memory h) tablet is in
    let p = note_placed h.entries a.note (kept_was (λ (note : Note). nat_le (kept h) note.seq) (notes_in h.entries) a.note a.among) in
    let above : kept h ≤ a.note.seq = le_of (kept h) a.note.seq (kept_passes (λ (note : Note). nat_le (kept h) note.seq) (notes_in h.entries) a.note a.among) in
    record { placed = p.placed; among = p.among; tablet_is = p.tablet_is ∙ a.is; unsettled = omega (arith, above, p.seq_is) }

-- the next tablet is above each that was named
least_up : (least : ℕ) (notes : List Note) → least ≤ next_tablet_in least notes
least_up least [] = omega arith
least_up least (note ∷ notes) = omega (arith, least_up (max least (note.tablet + 1)) notes)

placed_below : (least : ℕ) (entries : List Entry) (p : Placed) → Contains (placed_in entries) p → p.tablet < next_tablet_in least (notes_in entries)
placed_below least [] p among = absurd (omega (arith, among.1))
placed_below least (row_entry first tablet ∷ entries) p among = ⊎_elim
    (λ same. omega (arith, ap (λ (q : Placed). q.tablet) same, least_up (max least (tablet + 1)) (notes_in entries)))
    (λ later. placed_below (max least (tablet + 1)) entries p later)
    (Contains-cons_cases (placed_one first tablet) (placed_in entries) p among)
placed_below least (bound_entry bound ∷ entries) p among = placed_below least entries p among
placed_below least (schema_entry change ∷ entries) p among = placed_below least entries p among
placed_below least (kept_entry number ∷ entries) p among = placed_below least entries p among

pub row_splits_none : RowSplitsNone
row_splits_none h numbered tablet within whole may one other in_one in_other same above =
    let g = with_row h numbered tablet in
    let settled : kept g ≡ kept h = kept-extended_by_row h numbered tablet in
    ⊎_elim
    (λ other_was. ⊎_elim
    (λ one_was. omega (arith, settled, whole one other one_was other_was same (omega (arith, settled, above))))
    (λ one_new. let here : tablet ≡ other.tablet = ap (λ (q : Placed). q.tablet) one_new ∙ same in
    ⊎_elim
    (λ memory. let t = in_tablet_of h tablet memory in omega (arith, settled, whole t.placed other t.among other_was (t.tablet_is ∙ here) t.unsettled))
    (λ fresh. let below : other.tablet < next_tablet h = placed_below 0 h.entries other other_was in absurd (omega (arith, below, fresh, here)))
    may.tablet_is)
    (placed_cases h numbered tablet one in_one))
    (λ other_new. omega (arith, settled, within, may.number, ap (λ (q : Placed). q.numbered.seq) other_new))
    (placed_cases h numbered tablet other in_other)

-- ---- keys

was_source : (recs : ℕ → List Record) (tablets : List Listed) (memory left : List Filled) (tablet : ℕ) (rec : Record) → AddsRecord memory left tablet rec → (source : Source) (other : Record)
    → Holds recs tablets left source other → Holds recs tablets memory source other ⊎ ((source ≡ in_tablet tablet) × (other ≡ rec))
was_source recs tablets memory left tablet rec adds (in_file file) other held = inl held
was_source recs tablets memory left tablet rec adds (in_tablet number) other held = ⊎_elim (λ was. inl was) (λ new. inr (ap in_tablet new.0, new.1)) (adds.was number other held)

pub new_key_stays_apart : NewKeyStaysApart
new_key_stays_apart recs tablets memory left tablet rec apart fresh adds one other a b in_a in_b key =
    ⊎_elim
    (λ a_was. ⊎_elim
    (λ b_was. apart one other a b a_was b_was key)
    (λ b_new. absurd (fresh one a a_was (key ∙ ap (λ (r : Record). r.key) b_new.1)))
    (was_source recs tablets memory left tablet rec adds other b in_b))
    (λ a_new. ⊎_elim
    (λ b_was. absurd (fresh other b b_was (sym key ∙ ap (λ (r : Record). r.key) a_new.1)))
    (λ b_new. a_new.0 ∙ sym b_new.0)
    (was_source recs tablets memory left tablet rec adds other b in_b))
    (was_source recs tablets memory left tablet rec adds one a in_a)
