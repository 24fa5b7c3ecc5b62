-- Fronts and readings of a history that grew.
use Rattle.std.proofs.Common.{◌≡◌, ℕ, ◌+◌, ◌≤◌, max, List, [], ◌∷◌, ◌++◌, length, drop, ap, sym, refl, ◌∙◌, append_assoc, arith}
use Rattle.std.proofs.lemmas.List.{length-append, append-nil, take-append-le, drop-append-le, length-drop}
use Rattle.std.proofs.Math.Seq.{take-length, drop-append_seam}
use Rattle.lt_schema.specs.declared.change.Change.{Change}
use Rattle.lt_model.specs.History.{Numbered, Entry, row_entry, bound_entry, schema_entry, kept_entry, History, front, extended}
use Rattle.lt_model.specs.Readings.{rows, next, low, kept, schemas, Note, rows_in, low_in, kept_in, changes_in, notes_in}
use Rattle.lt_model.specs.Session.{Stand}
use Rattle.lt_model.specs.Laws.{Reading, reading_of, after_entry}

-- what was a front stays it
pub front-extended : (k : ℕ) (h : History) (more : List Entry) → k ≤ length h.entries → front k (extended h more) ≡ front k h
front-extended k h more within = ap (λ (es : List Entry). record h { entries = es }) (take-append-le k h.entries more within)

-- the front of all entries is the history
pub front-all : (h : History) → front (length h.entries) h ≡ h
front-all h = ap (λ (es : List Entry). record h { entries = es }) (take-length h.entries)

pub Stand-extended : (h : History) (more : List Entry) (goes : ℕ) (added : List Entry) → Stand h goes added → Stand (extended h more) goes added
Stand-extended h more goes added stand = record {
  within = simp length-append (omega arith);
  there = let inside : goes ≤ length h.entries = omega arith in
      let enough : length added ≤ length (drop goes h.entries) = omega (arith, length-drop goes h.entries) in
      rw (drop-append-le goes h.entries more inside, take-append-le (length added) (drop goes h.entries) more enough) stand.there;
}

-- what is added at the end stands there
pub Stand-at_end : (h : History) (added : List Entry) → Stand (extended h added) (length h.entries) added
Stand-at_end h added = record {
  within = simp length-append (omega arith);
  there = rw (drop-append_seam h.entries added) (take-length added);
}

pub rows_in-append : (es more : List Entry) → rows_in (es ++ more) ≡ rows_in es ++ rows_in more
rows_in-append [] more = refl
rows_in-append (row_entry numbered tablet ∷ es) more = ap (λ (rest : List Numbered). numbered ∷ rest) (rows_in-append es more)
rows_in-append (bound_entry bound ∷ es) more = rows_in-append es more
rows_in-append (schema_entry change ∷ es) more = rows_in-append es more
rows_in-append (kept_entry number ∷ es) more = rows_in-append es more

pub changes_in-append : (es more : List Entry) → changes_in (es ++ more) ≡ changes_in es ++ changes_in more
changes_in-append [] more = refl
changes_in-append (row_entry numbered tablet ∷ es) more = changes_in-append es more
changes_in-append (bound_entry bound ∷ es) more = changes_in-append es more
changes_in-append (schema_entry change ∷ es) more = ap (λ (rest : List Change). change ∷ rest) (changes_in-append es more)
changes_in-append (kept_entry number ∷ es) more = changes_in-append es more

pub low_in-append : (bound : ℕ) (es more : List Entry) → low_in bound (es ++ more) ≡ low_in (low_in bound es) more
low_in-append bound [] more = refl
low_in-append bound (row_entry numbered tablet ∷ es) more = low_in-append bound es more
low_in-append bound (bound_entry raised ∷ es) more = low_in-append (max bound raised) es more
low_in-append bound (schema_entry change ∷ es) more = low_in-append bound es more
low_in-append bound (kept_entry number ∷ es) more = low_in-append bound es more

pub kept_in-append : (number : ℕ) (es more : List Entry) → kept_in number (es ++ more) ≡ kept_in (kept_in number es) more
kept_in-append number [] more = refl
kept_in-append number (row_entry numbered tablet ∷ es) more = kept_in-append number es more
kept_in-append number (bound_entry bound ∷ es) more = kept_in-append number es more
kept_in-append number (schema_entry change ∷ es) more = kept_in-append number es more
kept_in-append number (kept_entry raised ∷ es) more = kept_in-append (max number raised) es more

pub notes_in-append : (es more : List Entry) → notes_in (es ++ more) ≡ notes_in es ++ notes_in more
notes_in-append [] more = refl
notes_in-append (row_entry numbered tablet ∷ es) more = ap (λ (rest : List Note). record { tablet = tablet; seq = numbered.seq } ∷ rest) (notes_in-append es more)
notes_in-append (bound_entry bound ∷ es) more = notes_in-append es more
notes_in-append (schema_entry change ∷ es) more = notes_in-append es more
notes_in-append (kept_entry number ∷ es) more = notes_in-append es more

-- what a history says once it has more entries
pub rows-extended : (h : History) (more : List Entry) → rows (extended h more) ≡ rows h ++ rows_in more
rows-extended h more = rw (rows_in-append h.entries more) (sym (append_assoc h.opening.rows (rows_in h.entries) (rows_in more)))

pub next-extended : (h : History) (more : List Entry) → next (extended h more) ≡ next h + length (rows_in more)
next-extended h more = simp (rows_in-append, length-append) (omega arith)

pub low-extended : (h : History) (more : List Entry) → low (extended h more) ≡ low_in (low h) more
low-extended h more = low_in-append h.opening.low h.entries more

pub kept-extended : (h : History) (more : List Entry) → kept (extended h more) ≡ kept_in (kept h) more
kept-extended h more = kept_in-append h.opening.kept h.entries more

pub schemas-extended : (h : History) (more : List Entry) → schemas (extended h more) ≡ record { first = (schemas h).first; changes = (schemas h).changes ++ changes_in more }
schemas-extended h more =
    ap (λ (changes : List Change). record { first = h.opening.schemas.first; changes = changes })
    (ap (λ (changes : List Change). h.opening.schemas.changes ++ changes) (changes_in-append h.entries more) ∙ sym (append_assoc h.opening.schemas.changes (changes_in h.entries) (changes_in more)))

-- entries with no row leave the rows, and those with no change the schemas
pub rows-extended_by_none : (h : History) (more : List Entry) → rows_in more ≡ [] → rows (extended h more) ≡ rows h
rows-extended_by_none h more none = rows-extended h more ∙ ap (λ (xs : List Numbered). rows h ++ xs) none ∙ append-nil (rows h)

pub next-extended_by_none : (h : History) (more : List Entry) → rows_in more ≡ [] → next (extended h more) ≡ next h
next-extended_by_none h more none = omega (arith, next-extended h more, ap length none)

pub schemas-extended_by_none : (h : History) (more : List Entry) → changes_in more ≡ [] → schemas (extended h more) ≡ schemas h
schemas-extended_by_none h more none =
    ap (λ (changes : List Change). record { first = h.opening.schemas.first; changes = h.opening.schemas.changes ++ changes })
    (changes_in-append h.entries more ∙ ap (λ (xs : List Change). changes_in h.entries ++ xs) none ∙ append-nil (changes_in h.entries))

reading_is : (a b : Reading) → a.rows ≡ b.rows → a.next ≡ b.next → a.low ≡ b.low → a.kept ≡ b.kept → a.schemas ≡ b.schemas → a.notes ≡ b.notes → a ≡ b
reading_is a b rows_are next_is low_is kept_is schemas_are notes_are =
    λ i. record { rows = rows_are i; next = next_is i; low = low_is i; kept = kept_is i; schemas = schemas_are i; notes = notes_are i }

pub rows-extended_by_row : (h : History) (numbered : Numbered) (tablet : ℕ) → rows (extended h (row_entry numbered tablet ∷ [])) ≡ rows h ++ numbered ∷ []
rows-extended_by_row h numbered tablet = rows-extended h (row_entry numbered tablet ∷ [])

pub next-extended_by_row : (h : History) (numbered : Numbered) (tablet : ℕ) → next (extended h (row_entry numbered tablet ∷ [])) ≡ next h + 1
next-extended_by_row h numbered tablet = next-extended h (row_entry numbered tablet ∷ [])

pub low-extended_by_row : (h : History) (numbered : Numbered) (tablet : ℕ) → low (extended h (row_entry numbered tablet ∷ [])) ≡ low h
low-extended_by_row h numbered tablet = low-extended h (row_entry numbered tablet ∷ [])

pub kept-extended_by_row : (h : History) (numbered : Numbered) (tablet : ℕ) → kept (extended h (row_entry numbered tablet ∷ [])) ≡ kept h
kept-extended_by_row h numbered tablet = kept-extended h (row_entry numbered tablet ∷ [])

pub schemas-extended_by_row : (h : History) (numbered : Numbered) (tablet : ℕ) → schemas (extended h (row_entry numbered tablet ∷ [])) ≡ schemas h
schemas-extended_by_row h numbered tablet = schemas-extended_by_none h (row_entry numbered tablet ∷ []) refl

-- one entry more changes what its kind changes, and nothing else
pub reading-extended : (h : History) (e : Entry) → reading_of (extended h (e ∷ [])) ≡ after_entry (reading_of h) e
reading-extended h (row_entry numbered tablet) =
    let e = row_entry numbered tablet in
    reading_is (reading_of (extended h (e ∷ []))) (after_entry (reading_of h) e) (rows-extended h (e ∷ [])) (next-extended h (e ∷ [])) (low-extended h (e ∷ []))
    (kept-extended h (e ∷ [])) (schemas-extended_by_none h (e ∷ []) refl) (notes_in-append h.entries (e ∷ []))
reading-extended h (bound_entry bound) =
    let e = bound_entry bound in
    reading_is (reading_of (extended h (e ∷ []))) (after_entry (reading_of h) e) (rows-extended_by_none h (e ∷ []) refl) (next-extended_by_none h (e ∷ []) refl) (low-extended h (e ∷ []))
    (kept-extended h (e ∷ [])) (schemas-extended_by_none h (e ∷ []) refl) (notes_in-append h.entries (e ∷ []) ∙ append-nil (notes_in h.entries))
reading-extended h (schema_entry change) =
    let e = schema_entry change in
    reading_is (reading_of (extended h (e ∷ []))) (after_entry (reading_of h) e) (rows-extended_by_none h (e ∷ []) refl) (next-extended_by_none h (e ∷ []) refl) (low-extended h (e ∷ []))
    (kept-extended h (e ∷ [])) (schemas-extended h (e ∷ [])) (notes_in-append h.entries (e ∷ []) ∙ append-nil (notes_in h.entries))
reading-extended h (kept_entry number) =
    let e = kept_entry number in
    reading_is (reading_of (extended h (e ∷ []))) (after_entry (reading_of h) e) (rows-extended_by_none h (e ∷ []) refl) (next-extended_by_none h (e ∷ []) refl) (low-extended h (e ∷ []))
    (kept-extended h (e ∷ [])) (schemas-extended_by_none h (e ∷ []) refl) (notes_in-append h.entries (e ∷ []) ∙ append-nil (notes_in h.entries))
