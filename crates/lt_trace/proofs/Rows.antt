-- The rows of a legal history rise, and each since the opening went to a tablet.
use Rattle.std.proofs.Common.{◌≡◌, ℕ, ◌+◌, ◌≤◌, ◌<◌, Bool, true, false, ◌&&◌, List, [], ◌∷◌, ◌++◌, max, Contains, refl, sym, ◌∙◌, ap, subst, inl, ⊎_elim, arith, cond, append_assoc}
use Rattle.std.specs.Prelude.{filter, nat_le, nat_lt, Ok}
use Rattle.std.specs.List.{AllByRecursion}
use Rattle.std.proofs.lemmas.Bool.{and_parts}
use Rattle.std.proofs.lemmas.List.Elements.{Contains-append_cases}
use Rattle.lt_rec.specs.Record.{Record}
use Rattle.lt_schema.specs.Shapes.{SchemaShape}
use Rattle.lt_schema.specs.Versions.{SchemaVersions}
use Rattle.lt_model.specs.History.{Numbered, Opening, Entry, row_entry, bound_entry, schema_entry, kept_entry, History, extended}
use Rattle.lt_model.specs.Readings.{Note, rows, rows_in, notes_in, next, kept_in, time_in}
use Rattle.lt_model.specs.Legal.{IsLegal, EachFollows, MayOpen, ComesBefore, AreRising}
use Rattle.lt_model.specs.Crash.{Durable, durable_rows}
use Rattle.lt_model.proofs.Verdicts.{AllByRecursion-contains, Contains-cons_cases}
use Rattle.lt_model.proofs.Fronts.{next-extended, next-extended_by_row, next-extended_by_none}
use Rattle.lt_trace.specs.Elements.{Placed, placed_in}
use Rattle.lt_trace.specs.Records.{IsRecordOf}
use Rattle.lt_trace.proofs.Lists.{first_in, later_in, kept_was, kept_passes, is_kept, all_from}

-- ---- numbers

-- each row that follows has a number no lower than the next one was
pub numbered_from : (o : Opening) (before entries : List Entry) (least : ℕ) → least ≤ next (record { opening = o; entries = before }) → EachFollows o before entries → AllByRecursion (λ (numbered : Numbered). least ≤ numbered.seq) (rows_in entries)
numbered_from o before [] least no_higher follows = tt
numbered_from o before (row_entry numbered tablet ∷ entries) least no_higher follows =
    let h : History = record { opening = o; entries = before } in
    let more : next (extended h (row_entry numbered tablet ∷ [])) ≡ next h + 1 = next-extended_by_row h numbered tablet in
    (omega (arith, follows.0.number), numbered_from o (before ++ row_entry numbered tablet ∷ []) entries least (omega (arith, more)) follows.1)
numbered_from o before (bound_entry bound ∷ entries) least no_higher follows =
    let h : History = record { opening = o; entries = before } in
    let same : next (extended h (bound_entry bound ∷ [])) ≡ next h = next-extended_by_none h (bound_entry bound ∷ []) refl in
    numbered_from o (before ++ bound_entry bound ∷ []) entries least (omega (arith, same)) follows.1
numbered_from o before (schema_entry change ∷ entries) least no_higher follows =
    let h : History = record { opening = o; entries = before } in
    let same : next (extended h (schema_entry change ∷ [])) ≡ next h = next-extended_by_none h (schema_entry change ∷ []) refl in
    numbered_from o (before ++ schema_entry change ∷ []) entries least (omega (arith, same)) follows.1
numbered_from o before (kept_entry number ∷ entries) least no_higher follows =
    let h : History = record { opening = o; entries = before } in
    let same : next (extended h (kept_entry number ∷ [])) ≡ next h = next-extended_by_none h (kept_entry number ∷ []) refl in
    numbered_from o (before ++ kept_entry number ∷ []) entries least (omega (arith, same)) follows.1

-- ---- rows rise

comes_first : (schema : SchemaShape) (numbered : Numbered) (xs : List Numbered) → AllByRecursion (λ (other : Numbered). numbered.seq + 1 ≤ other.seq) xs → AllByRecursion (ComesBefore schema numbered) xs
comes_first schema numbered xs all = all_from (ComesBefore schema numbered) xs (λ other among. let above : numbered.seq + 1 ≤ other.seq = AllByRecursion-contains (λ (o : Numbered). numbered.seq + 1 ≤ o.seq) xs other all among in inl (omega (arith, above)))

rising_since : (schema : SchemaShape) (o : Opening) (before entries : List Entry) → EachFollows o before entries → AreRising schema (rows_in entries)
rising_since schema o before [] follows = tt
rising_since schema o before (row_entry numbered tablet ∷ entries) follows =
    let h : History = record { opening = o; entries = before } in
    let more : next (extended h (row_entry numbered tablet ∷ [])) ≡ next h + 1 = next-extended_by_row h numbered tablet in (
      comes_first schema numbered (rows_in entries) (numbered_from o (before ++ row_entry numbered tablet ∷ []) entries (numbered.seq + 1) (omega (arith, more, follows.0.number)) follows.1),
      rising_since schema o (before ++ row_entry numbered tablet ∷ []) entries follows.1,
    )
rising_since schema o before (bound_entry bound ∷ entries) follows = rising_since schema o (before ++ bound_entry bound ∷ []) entries follows.1
rising_since schema o before (schema_entry change ∷ entries) follows = rising_since schema o (before ++ schema_entry change ∷ []) entries follows.1
rising_since schema o before (kept_entry number ∷ entries) follows = rising_since schema o (before ++ kept_entry number ∷ []) entries follows.1

rising_joined : (schema : SchemaShape) (xs ys : List Numbered) → AreRising schema xs → AreRising schema ys → ((x y : Numbered) → Contains xs x → Contains ys y → ComesBefore schema x y) → AreRising schema (xs ++ ys)
rising_joined schema [] ys one other across = other
rising_joined schema (x ∷ xs) ys one other across = (
  all_from (ComesBefore schema x) (xs ++ ys) (λ y among. ⊎_elim
      (λ left. AllByRecursion-contains (ComesBefore schema x) xs y one.0 left)
      (λ right. across x y (first_in x xs) right)
      (Contains-append_cases xs ys y among)),
  rising_joined schema xs ys one.1 other (λ a b in_a in_b. across a b (later_in x xs a in_a) in_b),
)

-- the rows of the opening are numbered below its next number, those since from it on
pub opening_below : (h : History) (numbered : Numbered) → IsLegal h → Contains h.opening.rows numbered → numbered.seq < h.opening.next
opening_below h numbered legal among =
    let may : MayOpen h.opening numbered = AllByRecursion-contains (MayOpen h.opening) h.opening.rows numbered legal.opening.rows_may among in may.number

since_from : (h : History) (numbered : Numbered) → IsLegal h → Contains (rows_in h.entries) numbered → h.opening.next ≤ numbered.seq
since_from h numbered legal among =
    AllByRecursion-contains (λ (o : Numbered). h.opening.next ≤ o.seq) (rows_in h.entries) numbered (numbered_from h.opening [] h.entries h.opening.next (omega arith) legal.follows) among

pub rows_rise : (h : History) → IsLegal h → AreRising h.opening.schemas.first (rows h)
rows_rise h legal = rising_joined h.opening.schemas.first h.opening.rows (rows_in h.entries) legal.opening.rising (rising_since h.opening.schemas.first h.opening [] h.entries legal.follows)
    (λ x y in_x in_y. let low = opening_below h x legal in_x in let high = since_from h y legal in_y in inl (omega (arith, low, high)))

rising_either : (schema : SchemaShape) (b : Bool) (x : Numbered) (xs : List Numbered) → AllByRecursion (ComesBefore schema x) xs → AreRising schema xs → AreRising schema (cond b (x ∷ xs) xs)
rising_either schema true x xs all rising = (all, rising)
rising_either schema false x xs all rising = rising

pub rising_kept : (schema : SchemaShape) (p : Numbered → Bool) (xs : List Numbered) → AreRising schema xs → AreRising schema (filter p xs)
rising_kept schema p [] rising = tt
rising_kept schema p (x ∷ xs) rising = rising_either schema (p x) x (filter p xs)
    (all_from (ComesBefore schema x) (filter p xs) (λ y among. AllByRecursion-contains (ComesBefore schema x) xs y rising.0 (kept_was p xs y among)))
    (rising_kept schema p xs rising.1)

-- ---- durable rows

abbrev pub is_durable : History → Durable → Numbered → Bool
is_durable h durable numbered = nat_lt numbered.seq durable.kept && nat_le durable.low (time_in h numbered)

pub record IsDurableRow (h : History) (durable : Durable) (numbered : Numbered) : Type 0 where
  pub among : Contains (rows h) numbered
  pub below : numbered.seq < durable.kept
  pub unexpired : durable.low ≤ time_in h numbered

lt_of : (a b : ℕ) → nat_lt a b ≡ true → a < b
lt_of a b e = grind arith

le_of : (a b : ℕ) → nat_le a b ≡ true → a ≤ b
le_of a b e = grind arith

both : (a b c d : ℕ) → a < b → c ≤ d → (nat_lt a b && nat_le c d) ≡ true
both a b c d below above = grind arith

pub durable_row : (h : History) (durable : Durable) (numbered : Numbered) → Contains (durable_rows h durable) numbered → IsDurableRow h durable numbered
durable_row h durable numbered among =
    let passes = and_parts (nat_lt numbered.seq durable.kept) (nat_le durable.low (time_in h numbered)) (kept_passes (is_durable h durable) (rows h) numbered among) in
    record {
      among = kept_was (is_durable h durable) (rows h) numbered among;
      below = lt_of numbered.seq durable.kept passes.0;
      unexpired = le_of durable.low (time_in h numbered) passes.1;
    }

pub is_durable_row : (h : History) (durable : Durable) (numbered : Numbered) → IsDurableRow h durable numbered → Contains (durable_rows h durable) numbered
is_durable_row h durable numbered is = is_kept (is_durable h durable) (rows h) numbered is.among (both numbered.seq durable.kept durable.low (time_in h numbered) is.below is.unexpired)

-- ---- the settled number

pub kept_in_up : (number : ℕ) (entries : List Entry) → number ≤ kept_in number entries
kept_in_up number [] = omega arith
kept_in_up number (row_entry numbered tablet ∷ entries) = kept_in_up number entries
kept_in_up number (bound_entry bound ∷ entries) = kept_in_up number entries
kept_in_up number (schema_entry change ∷ entries) = kept_in_up number entries
kept_in_up number (kept_entry raised ∷ entries) = omega (arith, kept_in_up (max number raised) entries)

-- ---- rows and their tablets

pub record PlacedRow (entries : List Entry) (numbered : Numbered) : Type 0 where
  pub placed : Placed
  pub among : Contains (placed_in entries) placed
  pub same : placed.numbered ≡ numbered

pub row_placed : (entries : List Entry) (numbered : Numbered) → Contains (rows_in entries) numbered → PlacedRow entries numbered
row_placed [] numbered among = absurd (omega (arith, among.1))
row_placed (row_entry first tablet ∷ entries) numbered among = ⊎_elim
    (λ same. record { placed = record { numbered = first; tablet = tablet }; among = first_in (record { numbered = first; tablet = tablet }) (placed_in entries); same = same })
    (λ later. let p = row_placed entries numbered later in record { placed = p.placed; among = later_in (record { numbered = first; tablet = tablet }) (placed_in entries) p.placed p.among; same = p.same })
    (Contains-cons_cases first (rows_in entries) numbered among)
row_placed (bound_entry bound ∷ entries) numbered among = let p = row_placed entries numbered among in record { placed = p.placed; among = p.among; same = p.same }
row_placed (schema_entry change ∷ entries) numbered among = let p = row_placed entries numbered among in record { placed = p.placed; among = p.among; same = p.same }
row_placed (kept_entry number ∷ entries) numbered among = let p = row_placed entries numbered among in record { placed = p.placed; among = p.among; same = p.same }

pub placed_row : (entries : List Entry) (placed : Placed) → Contains (placed_in entries) placed → Contains (rows_in entries) placed.numbered
placed_row [] placed among = absurd (omega (arith, among.1))
placed_row (row_entry first tablet ∷ entries) placed among = ⊎_elim
    (λ same. subst (λ (p : Placed). Contains (first ∷ rows_in entries) p.numbered) same (first_in first (rows_in entries)))
    (λ later. later_in first (rows_in entries) placed.numbered (placed_row entries placed later))
    (Contains-cons_cases (record { numbered = first; tablet = tablet }) (placed_in entries) placed among)
placed_row (bound_entry bound ∷ entries) placed among = placed_row entries placed among
placed_row (schema_entry change ∷ entries) placed among = placed_row entries placed among
placed_row (kept_entry number ∷ entries) placed among = placed_row entries placed among

pub placed_in-append : (entries more : List Entry) → placed_in (entries ++ more) ≡ placed_in entries ++ placed_in more
placed_in-append [] more = refl
placed_in-append (row_entry first tablet ∷ entries) more = ap (λ (rest : List Placed). record { numbered = first; tablet = tablet } ∷ rest) (placed_in-append entries more)
placed_in-append (bound_entry bound ∷ entries) more = placed_in-append entries more
placed_in-append (schema_entry change ∷ entries) more = placed_in-append entries more
placed_in-append (kept_entry number ∷ entries) more = placed_in-append entries more

-- a record is that of one row alone
pub one_row : (versions : SchemaVersions) (rec : Record) (a b : Numbered) → IsRecordOf versions rec a → IsRecordOf versions rec b → a ≡ b
one_row versions rec a b is also =
    let ok : Ok a.row ≡ Ok b.row = sym is.read ∙ also.read in
    let row : a.row ≡ b.row = cc in
    let seq : a.seq ≡ b.seq = sym is.number ∙ also.number in
    let ver : a.ver ≡ b.ver = sym is.version ∙ also.version in
    λ i. record { seq = seq i; ver = ver i; row = row i }

-- each row since the opening is numbered below the next one
rows_below : (o : Opening) (before entries : List Entry) (note : Note) → EachFollows o before entries → Contains (notes_in entries) note → note.seq + 1 ≤ next (record { opening = o; entries = before ++ entries })
rows_below o before [] note follows among = absurd (omega (arith, among.1))
rows_below o before (row_entry numbered tablet ∷ entries) note follows among =
    let e = row_entry numbered tablet in
    let h : History = record { opening = o; entries = before } in
    let more : next (extended h (e ∷ [])) ≡ next h + 1 = next-extended_by_row h numbered tablet in
    let all : before ++ (e ∷ entries) ≡ (before ++ e ∷ []) ++ entries = sym (append_assoc before (e ∷ []) entries) in
    ⊎_elim
    (λ same. let up = next-extended (record { opening = o; entries = before ++ e ∷ [] }) entries in
    omega (arith, more, follows.0.number, ap (λ (n : Note). n.seq) same, up, ap (λ (es : List Entry). next (record { opening = o; entries = es })) all))
    (λ later. omega (arith, rows_below o (before ++ e ∷ []) entries note follows.1 later, ap (λ (es : List Entry). next (record { opening = o; entries = es })) all))
    (Contains-cons_cases (record { tablet = tablet; seq = numbered.seq }) (notes_in entries) note among)
rows_below o before (bound_entry bound ∷ entries) note follows among = omega (arith, rows_below o (before ++ bound_entry bound ∷ []) entries note follows.1 among, ap (λ (es : List Entry). next (record { opening = o; entries = es })) (append_assoc before (bound_entry bound ∷ []) entries))
rows_below o before (schema_entry change ∷ entries) note follows among = omega (arith, rows_below o (before ++ schema_entry change ∷ []) entries note follows.1 among, ap (λ (es : List Entry). next (record { opening = o; entries = es })) (append_assoc before (schema_entry change ∷ []) entries))
rows_below o before (kept_entry number ∷ entries) note follows among = omega (arith, rows_below o (before ++ kept_entry number ∷ []) entries note follows.1 among, ap (λ (es : List Entry). next (record { opening = o; entries = es })) (append_assoc before (kept_entry number ∷ []) entries))

pub rows_below_next : (h : History) (note : Note) → EachFollows h.opening [] h.entries → Contains (notes_in h.entries) note → note.seq + 1 ≤ next h
rows_below_next h note follows among = rows_below h.opening [] h.entries note follows among
