-- A core's count fits a word.
use Rattle.std.proofs.Common.{◌≡◌, ℕ, ◌+◌, ◌^◌, ◌≤◌, List, [], ◌∷◌, ◌++◌, max, length, refl, arith}
use Rattle.lt_model.specs.History.{Opening, Entry, row_entry, bound_entry, schema_entry, kept_entry}
use Rattle.lt_model.specs.Readings.{rows_in, next}
use Rattle.lt_model.specs.Legal.{EachFollows}
use Rattle.lt_model.proofs.Fronts.{next-extended_by_row, next-extended_by_none}
use Rattle.lt_trace.specs.Elements.{Element, entry, held, free, entries_in}
use Rattle.lt_state.specs.Stands.{files_used, frees_in, RiseTo}
use Rattle.lt_state.specs.Laws.{CountFits}

-- each element is a row, took a file, or is a number from which on files were free
length_parts : (es : List Element) → length es ≡ length (rows_in (entries_in es)) + files_used es + length (frees_in es)
length_parts [] = omega arith
length_parts (entry (row_entry numbered tablet) ∷ es) = omega (arith, length_parts es)
length_parts (entry (bound_entry bound) ∷ es) = omega (arith, length_parts es)
length_parts (entry (schema_entry change) ∷ es) = omega (arith, length_parts es)
length_parts (entry (kept_entry number) ∷ es) = omega (arith, length_parts es)
length_parts (held note ∷ es) = omega (arith, length_parts es)
length_parts (free number ∷ es) = omega (arith, length_parts es)

rises_within : (least : ℕ) (numbers : List ℕ) (end : ℕ) → RiseTo least numbers end → least + length numbers ≤ end
rises_within least [] end rises = omega (arith, rises)
rises_within least (number ∷ more) end rises = omega (arith, rises.0, rises_within (number + 1) more end rises.1)

rows_fit : (o : Opening) (before entries : List Entry) → EachFollows o before entries → next (record { opening = o; entries = before }) + length (rows_in entries) ≤ max (next (record { opening = o; entries = before })) (2 ^ 62)
rows_fit o before [] follows = omega arith
rows_fit o before (row_entry numbered tablet ∷ entries) follows =
    let e = row_entry numbered tablet in
    omega (arith, follows.0.room, next-extended_by_row (record { opening = o; entries = before }) numbered tablet, rows_fit o (before ++ e ∷ []) entries follows.1)
rows_fit o before (bound_entry bound ∷ entries) follows = omega (arith, next-extended_by_none (record { opening = o; entries = before }) (bound_entry bound ∷ []) refl, rows_fit o (before ++ bound_entry bound ∷ []) entries follows.1)
rows_fit o before (schema_entry change ∷ entries) follows = omega (arith, next-extended_by_none (record { opening = o; entries = before }) (schema_entry change ∷ []) refl, rows_fit o (before ++ schema_entry change ∷ []) entries follows.1)
rows_fit o before (kept_entry number ∷ entries) follows = omega (arith, next-extended_by_none (record { opening = o; entries = before }) (kept_entry number ∷ []) refl, rows_fit o (before ++ kept_entry number ∷ []) entries follows.1)

pub count_fits : CountFits
count_fits told c s stands =
    omega (arith, stands.count_is, length_parts s.since, rows_fit s.opening [] (entries_in s.since) stands.follows, stands.lent.used, stands.lent.next_file, stands.files.most, stands.files.freed, rises_within 0 (frees_in s.since) c.freed stands.files.frees)
