-- A tablet in memory that has a record is one of the history's.
use Rattle.std.proofs.Common.{◌≡◌, ℕ, ◌≤◌, Bool, true, false, List, [], ◌∷◌, Contains, refl, ap, subst, ⊎_elim, eq-eqb, arith}
use Rattle.std.specs.Prelude.{IsTrue, ◌||◌, nat_le, nat_eq}
use Rattle.std.specs.List.{list_any}
use Rattle.lt_rec.specs.Record.{Record}
use Rattle.lt_model.specs.History.{Entry, row_entry, bound_entry, schema_entry, kept_entry, History}
use Rattle.lt_model.specs.Readings.{Note, kept, notes_in, in_memory, IsInMemory}
use Rattle.lt_model.proofs.Verdicts.{Contains-cons_cases}
use Rattle.lt_trace.specs.Elements.{Placed, placed_in}
use Rattle.lt_trace.proofs.Lists.{first_in, later_in, is_kept}
use Rattle.lt_state.specs.State.{Filled, InMemory}
use Rattle.lt_state.specs.Memory.{IsMemory, IsPlaced}

-- a row's note
placed_note : (entries : List Entry) (p : Placed) → Contains (placed_in entries) p → Contains (notes_in entries) (record { tablet = p.tablet; seq = p.numbered.seq })
placed_note [] p among = absurd (omega (arith, among.1))
placed_note (row_entry first tablet ∷ entries) p among = ⊎_elim
    (λ same. subst (λ (q : Placed). Contains (notes_in (row_entry first tablet ∷ entries)) (record { tablet = q.tablet; seq = q.numbered.seq })) same (first_in (record { tablet = tablet; seq = first.seq }) (notes_in entries)))
    (λ later. later_in (record { tablet = tablet; seq = first.seq }) (notes_in entries) (record { tablet = p.tablet; seq = p.numbered.seq }) (placed_note entries p later))
    (Contains-cons_cases (record { numbered = first; tablet = tablet }) (placed_in entries) p among)
placed_note (bound_entry bound ∷ entries) p among = placed_note entries p among
placed_note (schema_entry change ∷ entries) p among = placed_note entries p among
placed_note (kept_entry number ∷ entries) p among = placed_note entries p among

le_true : (a b : ℕ) → a ≤ b → nat_le a b ≡ true
le_true a b h = grind arith

some_note : (notes : List Note) (note : Note) → Contains notes note → IsTrue (list_any (λ other. nat_eq other.tablet note.tablet) notes)
some_note [] note among = absurd (omega (arith, among.1))
some_note (first ∷ notes) note among = ⊎_elim
    (λ same. here (nat_eq first.tablet note.tablet) (eq-eqb first.tablet note.tablet (ap (λ (n : Note). n.tablet) same)))
    (λ later. there (nat_eq first.tablet note.tablet) (some_note notes note later))
    (Contains-cons_cases first notes note among)
  where
    here : (b : Bool) → b ≡ true → IsTrue (b || list_any (λ other. nat_eq other.tablet note.tablet) notes)
    here true e = refl
    here false e = cc

    there : (b : Bool) → IsTrue (list_any (λ other. nat_eq other.tablet note.tablet) notes) → IsTrue (b || list_any (λ other. nat_eq other.tablet note.tablet) notes)
    there true any = refl
    there false any = any

pub is_in_memory : (h : History) (memory : List Filled) (tablet : ℕ) (rec : Record) → IsMemory h memory → InMemory memory tablet rec → IsInMemory h tablet
is_in_memory h memory tablet rec are held =
    let p : IsPlaced h tablet rec = are.each tablet rec held in
    let note : Note = record { tablet = p.placed.tablet; seq = p.placed.numbered.seq } in
    subst (λ (n : ℕ). IsInMemory h n) p.tablet_is
    (some_note (in_memory h) note (is_kept (λ (other : Note). nat_le (kept h) other.seq) (notes_in h.entries) note (placed_note h.entries p.placed p.among) (le_true (kept h) p.placed.numbered.seq p.unsettled)))
