-- Rows since a front are not among those that were durable there.
use Rattle.std.proofs.Common.{◌≡◌, ℕ, ◌+◌, ◌≤◌, Bool, false, ◌&&◌, List, [], ◌∷◌, ◌++◌, take, drop, refl, sym, ◌∙◌, ap, subst, append_assoc, arith}
use Rattle.std.specs.Prelude.{filter, nat_le, nat_lt}
use Rattle.std.specs.List.{AllByRecursion}
use Rattle.std.proofs.lemmas.List.{append-nil, take-append-drop}
use Rattle.std.proofs.lemmas.List.Elements.{filter-append}
use Rattle.lt_model.specs.History.{Numbered, Opening, Entry, row_entry, bound_entry, schema_entry, kept_entry, History, front, extended}
use Rattle.lt_model.specs.Readings.{rows, rows_in, next, time_in}
use Rattle.lt_model.specs.Legal.{IsLegal, EachFollows}
use Rattle.lt_model.specs.Crash.{Durable, durable_rows, IsCrash}
use Rattle.lt_model.specs.Laws.{CrashesByFront}
use Rattle.lt_model.proofs.Fronts.{rows-extended, next-extended_by_row, next-extended_by_none}

-- each row that follows has a number no lower than the next one was
numbered_from : (o : Opening) (before entries : List Entry) (least : ℕ) → least ≤ next (record { opening = o; entries = before }) → EachFollows o before entries → AllByRecursion (λ (numbered : Numbered). least ≤ numbered.seq) (rows_in entries)
numbered_from o before [] least no_higher follows = tt
numbered_from o before (row_entry numbered tablet ∷ entries) least no_higher follows =
    let h : History = record { opening = o; entries = before } in
    let more : next (extended h (row_entry numbered tablet ∷ [])) ≡ next h + 1 = next-extended_by_row h numbered tablet in
    (omega (arith, follows.0.number), numbered_from o (before ++ row_entry numbered tablet ∷ []) entries least (omega (arith, more)) follows.1)
numbered_from o before (bound_entry bound ∷ entries) least no_higher follows =
    let h : History = record { opening = o; entries = before } in
    let same : next (extended h (bound_entry bound ∷ [])) ≡ next h = next-extended_by_none h (bound_entry bound ∷ []) refl in
    numbered_from o (before ++ bound_entry bound ∷ []) entries least (omega (arith, same)) follows.1
numbered_from o before (schema_entry change ∷ entries) least no_higher follows =
    let h : History = record { opening = o; entries = before } in
    let same : next (extended h (schema_entry change ∷ [])) ≡ next h = next-extended_by_none h (schema_entry change ∷ []) refl in
    numbered_from o (before ++ schema_entry change ∷ []) entries least (omega (arith, same)) follows.1
numbered_from o before (kept_entry number ∷ entries) least no_higher follows =
    let h : History = record { opening = o; entries = before } in
    let same : next (extended h (kept_entry number ∷ [])) ≡ next h = next-extended_by_none h (kept_entry number ∷ []) refl in
    numbered_from o (before ++ kept_entry number ∷ []) entries least (omega (arith, same)) follows.1

-- what follows the first of the entries
follows_later : (o : Opening) (before first entries : List Entry) → EachFollows o before (first ++ entries) → EachFollows o (before ++ first) entries
follows_later o before [] entries follows = subst (λ (es : List Entry). EachFollows o es entries) (sym (append-nil before)) follows
follows_later o before (e ∷ first) entries follows =
    subst (λ (es : List Entry). EachFollows o es entries) (append_assoc before (e ∷ []) first) (follows_later o (before ++ e ∷ []) first entries follows.1)

-- the tests are the same, whatever entries there are
abbrev is_durable : History → Durable → Numbered → Bool
is_durable h durable numbered = nat_lt numbered.seq durable.kept && nat_le durable.low (time_in h numbered)

not_below : (seq number : ℕ) → number ≤ seq → nat_lt seq number ≡ false
not_below seq number above = grind arith

none_durable : (h : History) (durable : Durable) (xs : List Numbered) → AllByRecursion (λ (numbered : Numbered). durable.kept ≤ numbered.seq) xs → filter (is_durable h durable) xs ≡ []
none_durable h durable [] all = refl
none_durable h durable (numbered ∷ xs) all = rw (not_below numbered.seq durable.kept all.0) (none_durable h durable xs all.1)

same_rows : (k : ℕ) (h : History) (durable : Durable) → IsLegal h → durable.kept ≤ next (front k h) → durable_rows (front k h) durable ≡ durable_rows h durable
same_rows k h durable legal below =
    let later = drop k h.entries in
    let cut : take k h.entries ++ later ≡ h.entries = take-append-drop k h.entries in
    let follows : EachFollows h.opening (take k h.entries) later = follows_later h.opening [] (take k h.entries) later (subst (EachFollows h.opening []) (sym cut) legal.follows) in
    let none : filter (is_durable h durable) (rows_in later) ≡ [] = none_durable h durable (rows_in later) (numbered_from h.opening (take k h.entries) later durable.kept below follows) in
    let all : rows h ≡ rows (front k h) ++ rows_in later = ap (λ (es : List Entry). rows (record { opening = h.opening; entries = es })) (sym cut) ∙ rows-extended (front k h) later in
    sym (ap (filter (is_durable h durable)) all ∙ filter-append (is_durable h durable) (rows (front k h)) (rows_in later)
    ∙ ap (λ (xs : List Numbered). filter (is_durable h durable) (rows (front k h)) ++ xs) none ∙ append-nil (filter (is_durable h durable) (rows (front k h))))

with_rows : (g h : History) (durable : Durable) (found : Opening) → durable_rows g durable ≡ durable_rows h durable → IsCrash g durable found → IsCrash h durable found
with_rows g h durable found same crash = record {
  schemas = crash.schemas;
  ttl = crash.ttl;
  low = crash.low;
  next = crash.next;
  kept = crash.kept;
  rows_left = crash.rows_left ∙ same;
}

pub crashes_by_front : CrashesByFront
crashes_by_front k h durable found legal below =
    let same = same_rows k h durable legal below in
    (with_rows (front k h) h durable found same, with_rows h (front k h) durable found (sym same))
