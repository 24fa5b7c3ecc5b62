-- Stories, and the numbers that follow from them, while they grow.
use Rattle.std.proofs.Common.{◌≡◌, ℕ, ◌+◌, ◌≤◌, Bool, true, false, List, [], ◌∷◌, ◌++◌, max, map, refl, sym, ◌∙◌, ap, subst, arith, append_assoc}
use Rattle.std.specs.Prelude.{filter, nat_le, cond}
use Rattle.std.proofs.lemmas.List.{append-nil, map-append}
use Rattle.std.proofs.lemmas.List.Elements.{filter-append}
use Rattle.lt_model.specs.History.{Numbered, Opening, Entry, row_entry, bound_entry, schema_entry, kept_entry, History, extended}
use Rattle.lt_model.specs.Readings.{Note, next, kept, notes_in, next_tablet, next_tablet_in, in_memory}
use Rattle.lt_model.specs.Legal.{EachFollows}
use Rattle.lt_model.specs.Disk.{tablets_of_rows}
use Rattle.lt_model.proofs.Fronts.{notes_in-append, next-extended_by_row, next-extended_by_none, kept-extended, kept-extended_by_row}
use Rattle.lt_trace.specs.Elements.{Noted, Element, entry, held, free, Story, entries_in, noted_in, history_of, notes_of, grown}
use Rattle.lt_state.specs.Stands.{files_used, frees_in}

-- ---- lists of elements

entries_in-append : (es more : List Element) → entries_in (es ++ more) ≡ entries_in es ++ entries_in more
entries_in-append [] more = refl
entries_in-append (entry e ∷ es) more = ap (λ (rest : List Entry). e ∷ rest) (entries_in-append es more)
entries_in-append (held note ∷ es) more = entries_in-append es more
entries_in-append (free number ∷ es) more = entries_in-append es more

noted_in-append : (es more : List Element) → noted_in (es ++ more) ≡ noted_in es ++ noted_in more
noted_in-append [] more = refl
noted_in-append (entry e ∷ es) more = noted_in-append es more
noted_in-append (held note ∷ es) more = ap (λ (rest : List Noted). note ∷ rest) (noted_in-append es more)
noted_in-append (free number ∷ es) more = noted_in-append es more

pub grown_history : (s : Story) (more : List Element) → history_of (grown s more) ≡ extended (history_of s) (entries_in more)
grown_history s more = ap (λ (es : List Entry). record { opening = s.opening; entries = es }) (entries_in-append s.since more)

pub grown_notes : (s : Story) (more : List Element) → notes_of (grown s more) ≡ notes_of s ++ noted_in more
grown_notes s more = ap (λ (ns : List Noted). s.loaded ++ ns) (noted_in-append s.since more) ∙ sym (append_assoc s.loaded (noted_in s.since) (noted_in more))

pub files_used-append : (es more : List Element) → files_used (es ++ more) ≡ files_used es + files_used more
files_used-append [] more = omega arith
files_used-append (entry (row_entry numbered tablet) ∷ es) more = omega (arith, files_used-append es more)
files_used-append (entry (bound_entry bound) ∷ es) more = omega (arith, files_used-append es more)
files_used-append (entry (schema_entry change) ∷ es) more = omega (arith, files_used-append es more)
files_used-append (entry (kept_entry number) ∷ es) more = omega (arith, files_used-append es more)
files_used-append (held note ∷ es) more = omega (arith, files_used-append es more)
files_used-append (free number ∷ es) more = omega (arith, files_used-append es more)

pub frees_in-append : (es more : List Element) → frees_in (es ++ more) ≡ frees_in es ++ frees_in more
frees_in-append [] more = refl
frees_in-append (entry e ∷ es) more = frees_in-append es more
frees_in-append (held note ∷ es) more = frees_in-append es more
frees_in-append (free number ∷ es) more = ap (λ (rest : List ℕ). number ∷ rest) (frees_in-append es more)

-- ---- the next tablet

next_tablet_push : (least : ℕ) (notes : List Note) (note : Note) → next_tablet_in least (notes ++ note ∷ []) ≡ max (next_tablet_in least notes) (note.tablet + 1)
next_tablet_push least [] note = refl
next_tablet_push least (first ∷ notes) note = next_tablet_push (max least (first.tablet + 1)) notes note

pub next_tablet_row : (h : History) (numbered : Numbered) (tablet : ℕ) → next_tablet (extended h (row_entry numbered tablet ∷ [])) ≡ max (next_tablet h) (tablet + 1)
next_tablet_row h numbered tablet = ap (next_tablet_in 0) (notes_in-append h.entries (row_entry numbered tablet ∷ [])) ∙ next_tablet_push 0 (notes_in h.entries) (record { tablet = tablet; seq = numbered.seq })

-- ---- the settled number and the next one

settled_within : (o : Opening) (before entries : List Entry) → kept (record { opening = o; entries = before }) ≤ next (record { opening = o; entries = before }) → EachFollows o before entries
    → kept (record { opening = o; entries = before ++ entries }) ≤ next (record { opening = o; entries = before ++ entries })
settled_within o before [] within follows = subst (λ (es : List Entry). kept (record { opening = o; entries = es }) ≤ next (record { opening = o; entries = es })) (sym (append-nil before)) within
settled_within o before (row_entry numbered tablet ∷ entries) within follows =
    let h : History = record { opening = o; entries = before } in
    let e = row_entry numbered tablet in
    subst (λ (es : List Entry). kept (record { opening = o; entries = es }) ≤ next (record { opening = o; entries = es })) (append_assoc before (e ∷ []) entries)
    (settled_within o (before ++ e ∷ []) entries (omega (arith, within, kept-extended_by_row h numbered tablet, next-extended_by_row h numbered tablet)) follows.1)
settled_within o before (bound_entry bound ∷ entries) within follows =
    let h : History = record { opening = o; entries = before } in
    let e = bound_entry bound in
    subst (λ (es : List Entry). kept (record { opening = o; entries = es }) ≤ next (record { opening = o; entries = es })) (append_assoc before (e ∷ []) entries)
    (settled_within o (before ++ e ∷ []) entries (omega (arith, within, kept-extended h (e ∷ []), next-extended_by_none h (e ∷ []) refl)) follows.1)
settled_within o before (schema_entry change ∷ entries) within follows =
    let h : History = record { opening = o; entries = before } in
    let e = schema_entry change in
    subst (λ (es : List Entry). kept (record { opening = o; entries = es }) ≤ next (record { opening = o; entries = es })) (append_assoc before (e ∷ []) entries)
    (settled_within o (before ++ e ∷ []) entries (omega (arith, within, kept-extended h (e ∷ []), next-extended_by_none h (e ∷ []) refl)) follows.1)
settled_within o before (kept_entry number ∷ entries) within follows =
    let h : History = record { opening = o; entries = before } in
    let e = kept_entry number in
    subst (λ (es : List Entry). kept (record { opening = o; entries = es }) ≤ next (record { opening = o; entries = es })) (append_assoc before (e ∷ []) entries)
    (settled_within o (before ++ e ∷ []) entries (omega (arith, within, kept-extended h (e ∷ []), next-extended_by_none h (e ∷ []) refl, follows.0.1)) follows.1)

pub kept_within : (h : History) → h.opening.kept ≡ h.opening.next → EachFollows h.opening [] h.entries → kept h ≤ next h
kept_within h opened follows = settled_within h.opening [] h.entries (omega (arith, opened)) follows

-- ---- the tablets of rows in memory

kept_one : (b : Bool) (note : Note) → b ≡ true → cond b (note ∷ []) [] ≡ note ∷ []
kept_one true note e = refl
kept_one false note e = cc

le_true : (a b : ℕ) → a ≤ b → nat_le a b ≡ true
le_true a b h = grind arith

pub tablets_of_rows-row : (h : History) (numbered : Numbered) (tablet : ℕ) → kept h ≤ numbered.seq → tablets_of_rows (extended h (row_entry numbered tablet ∷ [])) ≡ tablets_of_rows h ++ tablet ∷ []
tablets_of_rows-row h numbered tablet within =
    let e = row_entry numbered tablet in
    let note : Note = record { tablet = tablet; seq = numbered.seq } in
    let same : kept (extended h (e ∷ [])) ≡ kept h = kept-extended_by_row h numbered tablet in
    let notes : notes_in (h.entries ++ e ∷ []) ≡ notes_in h.entries ++ note ∷ [] = notes_in-append h.entries (e ∷ []) in
    ap (λ (k : ℕ). map (λ (n : Note). n.tablet) (filter (λ (n : Note). nat_le k n.seq) (notes_in (h.entries ++ e ∷ [])))) same
    ∙ ap (λ (ns : List Note). map (λ (n : Note). n.tablet) (filter (λ (n : Note). nat_le (kept h) n.seq) ns)) notes
    ∙ ap (map (λ (n : Note). n.tablet)) (filter-append (λ (n : Note). nat_le (kept h) n.seq) (notes_in h.entries) (note ∷ []))
    ∙ ap (λ (ns : List Note). map (λ (n : Note). n.tablet) (in_memory h ++ ns)) (kept_one (nat_le (kept h) numbered.seq) note (le_true (kept h) numbered.seq within))
    ∙ map-append (λ (n : Note). n.tablet) (in_memory h) (note ∷ [])
