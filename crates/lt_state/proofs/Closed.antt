-- A closed set of tablets in memory is a job.
use Rattle.std.proofs.Common.{◌≡◌, ℕ, suc, ◌+◌, ◌≤◌, ◌<◌, Bool, true, false, List, [], ◌∷◌, ◌++◌, map, length, Contains, sym, ◌∙◌, ap, subst, ⊎_elim, arith}
use Rattle.std.specs.Prelude.{filter, nat_le, slice_index, cond}
use Rattle.std.specs.List.{AllByRecursion}
use Rattle.lt_rec.specs.Closure.{has}
use Rattle.lt_model.specs.History.{Numbered, Opening, Entry, row_entry, bound_entry, schema_entry, kept_entry, History, extended}
use Rattle.lt_model.specs.Readings.{Note, rows_in, next, kept, notes_in, in_memory}
use Rattle.lt_model.specs.Legal.{EachFollows}
use Rattle.lt_model.proofs.Fronts.{next-extended_by_row}
use Rattle.lt_model.proofs.Verdicts.{AllByRecursion-contains, Contains-cons_cases}
use Rattle.lt_trace.proofs.Lists.{first_in, later_in, kept_was, is_kept, all_from}
use Rattle.lt_trace.proofs.Rows.{numbered_from, rows_below_next}
use Rattle.lt_trace.specs.Elements.{Placed, placed_in}
use Rattle.lt_state.specs.Laws.{ClosedIsJob}

-- numbers rise from note to note
abbrev NotesRise : List Note → Type 0
NotesRise [] = Unit {0}
NotesRise (note ∷ notes) = AllByRecursion (λ (other : Note). note.seq < other.seq) notes × NotesRise notes

notes_from : (o : Opening) (before entries : List Entry) (least : ℕ) → AllByRecursion (λ (n : Numbered). least ≤ n.seq) (rows_in entries) → AllByRecursion (λ (note : Note). least ≤ note.seq) (notes_in entries)
notes_from o before [] least all = tt
notes_from o before (row_entry numbered tablet ∷ entries) least all = (all.0, notes_from o before entries least all.1)
notes_from o before (bound_entry bound ∷ entries) least all = notes_from o before entries least all
notes_from o before (schema_entry change ∷ entries) least all = notes_from o before entries least all
notes_from o before (kept_entry number ∷ entries) least all = notes_from o before entries least all

notes_rise : (o : Opening) (before entries : List Entry) → EachFollows o before entries → NotesRise (notes_in entries)
notes_rise o before [] follows = tt
notes_rise o before (row_entry numbered tablet ∷ entries) follows =
    let h : History = record { opening = o; entries = before } in
    let more : next (extended h (row_entry numbered tablet ∷ [])) ≡ next h + 1 = next-extended_by_row h numbered tablet in
    let above = notes_from o before entries (numbered.seq + 1) (numbered_from o (before ++ row_entry numbered tablet ∷ []) entries (numbered.seq + 1) (omega (arith, more, follows.0.number)) follows.1) in (
      all_from (λ (other : Note). numbered.seq < other.seq) (notes_in entries) (λ other among. let up : numbered.seq + 1 ≤ other.seq = AllByRecursion-contains (λ (note : Note). numbered.seq + 1 ≤ note.seq) (notes_in entries) other above among in omega (arith, up)),
      notes_rise o (before ++ row_entry numbered tablet ∷ []) entries follows.1,
    )
notes_rise o before (bound_entry bound ∷ entries) follows = notes_rise o (before ++ bound_entry bound ∷ []) entries follows.1
notes_rise o before (schema_entry change ∷ entries) follows = notes_rise o (before ++ schema_entry change ∷ []) entries follows.1
notes_rise o before (kept_entry number ∷ entries) follows = notes_rise o (before ++ kept_entry number ∷ []) entries follows.1

rise_either : (b : Bool) (note : Note) (notes : List Note) → AllByRecursion (λ (other : Note). note.seq < other.seq) notes → NotesRise notes → NotesRise (cond b (note ∷ notes) notes)
rise_either true note notes all rising = (all, rising)
rise_either false note notes all rising = rising

rise_kept : (p : Note → Bool) (notes : List Note) → NotesRise notes → NotesRise (filter p notes)
rise_kept p [] rising = tt
rise_kept p (note ∷ notes) rising = rise_either (p note) note (filter p notes)
    (all_from (λ (other : Note). note.seq < other.seq) (filter p notes) (λ other among. AllByRecursion-contains (λ (o : Note). note.seq < o.seq) notes other rising.0 (kept_was p notes other among)))
    (rise_kept p notes rising.1)

-- the place of a note, and its tablet there
record At (notes : List Note) (note : Note) : Type 0 where
  place : ℕ
  within : place < length (map (λ (n : Note). n.tablet) notes)
  tablet_is : slice_index (map (λ (n : Note). n.tablet) notes) place ≡ note.tablet

abbrev at_later : (first : Note) (notes : List Note) (note : Note) → At notes note → At (first ∷ notes) note
at_later first notes note a = record { place = suc a.place; within = omega (arith, a.within); tablet_is = a.tablet_is }

-- a lower number stands at a lower place
record Ordered (notes : List Note) (low high : Note) : Type 0 where
  below : At notes low
  above : At notes high
  ordered : below.place ≤ above.place

at : (notes : List Note) (note : Note) → Contains notes note → At notes note
at [] note among = absurd (omega (arith, among.1))
at (first ∷ notes) note among = ⊎_elim (λ same. record { place = 0; within = omega arith; tablet_is = ap (λ (n : Note). n.tablet) same }) (λ later. at_later first notes note (at notes note later)) (Contains-cons_cases first notes note among)

order : (notes : List Note) (low high : Note) → NotesRise notes → Contains notes low → Contains notes high → low.seq ≤ high.seq → Ordered notes low high
order [] low high rising in_low in_high up = absurd (omega (arith, in_low.1))
order (first ∷ notes) low high rising in_low in_high up = ⊎_elim
    (λ low_first. record { below = record { place = 0; within = omega arith; tablet_is = ap (λ (n : Note). n.tablet) low_first }; above = at (first ∷ notes) high in_high; ordered = omega arith })
    (λ low_later. ⊎_elim
    (λ high_first. let less : first.seq < low.seq = AllByRecursion-contains (λ (o : Note). first.seq < o.seq) notes low rising.0 low_later in absurd (omega (arith, less, up, ap (λ (n : Note). n.seq) high_first)))
    (λ high_later. let o = order notes low high rising.1 low_later high_later up in record { below = at_later first notes low o.below; above = at_later first notes high o.above; ordered = omega (arith, o.ordered) })
    (Contains-cons_cases first notes high in_high))
    (Contains-cons_cases first notes low in_low)

-- a row's note
pub placed_note : (entries : List Entry) (p : Placed) → Contains (placed_in entries) p → Contains (notes_in entries) (record { tablet = p.tablet; seq = p.numbered.seq })
placed_note [] p among = absurd (omega (arith, among.1))
placed_note (row_entry first tablet ∷ entries) p among = ⊎_elim
    (λ same. subst (λ (q : Placed). Contains (notes_in (row_entry first tablet ∷ entries)) (record { tablet = q.tablet; seq = q.numbered.seq })) same (first_in (record { tablet = tablet; seq = first.seq }) (notes_in entries)))
    (λ later. later_in (record { tablet = tablet; seq = first.seq }) (notes_in entries) (record { tablet = p.tablet; seq = p.numbered.seq }) (placed_note entries p later))
    (Contains-cons_cases (record { numbered = first; tablet = tablet }) (placed_in entries) p among)
placed_note (bound_entry bound ∷ entries) p among = placed_note entries p among
placed_note (schema_entry change ∷ entries) p among = placed_note entries p among
placed_note (kept_entry number ∷ entries) p among = placed_note entries p among

le_true : (a b : ℕ) → a ≤ b → nat_le a b ≡ true
le_true a b h = grind arith

pub closed_is_job : ClosedIsJob
closed_is_job h parts top follows closed in_top part =
    let test = λ (note : Note). nat_le (kept h) note.seq in
    record {
      given = rows_below_next h top follows (kept_was test (notes_in h.entries) top in_top);
      covers = λ p among above under.
          let note : Note = record { tablet = p.tablet; seq = p.numbered.seq } in
          let in_note : Contains (in_memory h) note = is_kept test (notes_in h.entries) note (placed_note h.entries p among) (le_true (kept h) p.numbered.seq above) in
          let o : Ordered (in_memory h) note top = order (in_memory h) note top (rise_kept test (notes_in h.entries) (notes_rise h.opening [] h.entries follows)) in_note in_top (omega (arith, under)) in
          ap (has parts) (sym o.below.tablet_is) ∙ closed.closed o.above.place o.below.place o.above.within (ap (has parts) o.above.tablet_is ∙ part) (omega (arith, o.ordered));
    }
