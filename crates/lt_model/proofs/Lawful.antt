-- Legality after one lawful entry.
use Rattle.std.proofs.Common.{◌≡◌, ◌≢◌, ◌⊎◌, ℕ, zero, ◌-◌, ◌≤◌, List, [], ◌∷◌, ◌++◌, drop, Option, ap, refl, append_assoc, arith}
use Rattle.std.specs.Prelude.{Some, None, Contains}
use Rattle.std.specs.List.{AllByRecursion}
use Rattle.std.proofs.Math.Nat.{le-max_left}
use Rattle.std.proofs.lemmas.List.{append-nil, take-append-drop}
use Rattle.std.proofs.lemmas.List.Elements.{Contains-append_right}
use Rattle.lt_schema.specs.declared.value.Value.{Value}
use Rattle.lt_schema.specs.Shapes.{SchemaShape}
use Rattle.lt_schema.specs.Versions.{newest_version}
use Rattle.lt_schema.specs.Check.{key_of}
use Rattle.lt_model.specs.History.{Numbered, Opening, Entry, row_entry, bound_entry, schema_entry, kept_entry, History, front, extended}
use Rattle.lt_model.specs.Readings.{rows, rows_in, next, low, schemas, bound_at, since, IsInMemory, next_tablet}
use Rattle.lt_model.specs.Legal.{IsLegal, IsOpening, EachFollows, MayFollow, KeysDiffer}
use Rattle.lt_model.specs.Verdict.{IsVerdict, accepted}
use Rattle.lt_model.specs.Laws.{BringsNewKey}
use Rattle.lt_model.proofs.Fronts.{rows-extended_by_row, rows-extended, rows-extended_by_none}

-- an opening alone is legal
pub IsLegal-opening : (o : Opening) → IsOpening o → KeysDiffer o.schemas.first o.rows → IsLegal (record { opening = o; entries = [] })
IsLegal-opening o opens distinct = record { opening = opens; distinct = rw (append-nil o.rows) distinct; follows = tt }

pub EachFollows-more : (o : Opening) (before entries : List Entry) (e : Entry) → EachFollows o before entries → MayFollow (record { opening = o; entries = before ++ entries }) e
    → EachFollows o before (entries ++ e ∷ [])
EachFollows-more o before [] e follows may = (rw append-nil at may, tt)
EachFollows-more o before (first ∷ entries) e follows may = (follows.0, EachFollows-more o (before ++ first ∷ []) entries e follows.1 (rw append_assoc may))

-- an entry that may follow keeps a history legal, where its keys stay different
pub IsLegal-extended : (h : History) (e : Entry) → IsLegal h → MayFollow h e → KeysDiffer h.opening.schemas.first (rows (extended h (e ∷ []))) → IsLegal (extended h (e ∷ []))
IsLegal-extended h e legal may distinct = record { opening = legal.opening; distinct = distinct; follows = EachFollows-more h.opening [] h.entries e legal.follows may }

AllByRecursion-more : (P : Numbered → Type 0) (xs : List Numbered) (x : Numbered) → AllByRecursion P xs → P x → AllByRecursion P (xs ++ x ∷ [])
AllByRecursion-more P [] x all last = (last, tt)
AllByRecursion-more P (first ∷ xs) x all last = (all.0, AllByRecursion-more P xs x all.1 last)

AllByRecursion-front : (P : Numbered → Type 0) (xs ys : List Numbered) → AllByRecursion P (xs ++ ys) → AllByRecursion P xs
AllByRecursion-front P [] ys all = tt
AllByRecursion-front P (first ∷ xs) ys all = (all.0, AllByRecursion-front P xs ys all.1)

-- a row with a new key keeps keys different
pub KeysDiffer-more : (schema : SchemaShape) (xs : List Numbered) (x : Numbered) → KeysDiffer schema xs
    → ((other : Numbered) → Contains xs other → key_of schema other.row ≢ key_of schema x.row) → KeysDiffer schema (xs ++ x ∷ [])
KeysDiffer-more schema [] x differ fresh = (tt, tt)
KeysDiffer-more schema (first ∷ xs) x differ fresh = (
  AllByRecursion-more (λ other. key_of schema first.row ≢ key_of schema other.row) xs x differ.0 (fresh first (zero, omega arith, refl)),
  KeysDiffer-more schema xs x differ.1 (λ other among. fresh other (Contains-append_right (first ∷ []) xs other among)),
)

bound_at-low : (ttl : Option ℕ) (bound now : ℕ) → bound ≤ bound_at ttl bound now
bound_at-low None bound now = omega arith
bound_at-low (Some ttl) bound now = le-max_left bound (now - ttl)

-- the bound at any moment is no lower than the greatest that was raised
pub low-since : (h : History) (now : ℕ) → low h ≤ since h now
low-since h now = bound_at-low h.opening.ttl (low h) now

-- an accepted row keeps it legal
pub IsLegal-accepted : (h : History) (row : List Value) (now tablet : ℕ) → IsLegal h → IsVerdict h row now accepted
    → IsInMemory h tablet ⊎ (tablet ≡ next_tablet h)
    → IsLegal (extended h (row_entry (record { seq = next h; ver = newest_version (schemas h); row = row }) tablet ∷ []))
IsLegal-accepted h row now tablet legal verdict tablet_is =
    let numbered : Numbered = record { seq = next h; ver = newest_version (schemas h); row = row } in
    IsLegal-extended h (row_entry numbered tablet) legal
    (record { number = refl; room = verdict.2; version = refl; passes = verdict.0.passes; unexpired = omega (arith, low-since h now); tablet_is = tablet_is })
    (rw (rows-extended_by_row h numbered tablet) (KeysDiffer-more h.opening.schemas.first (rows h) numbered legal.distinct verdict.1))

-- fewer rows have different keys too
KeysDiffer-front : (schema : SchemaShape) (xs ys : List Numbered) → KeysDiffer schema (xs ++ ys) → KeysDiffer schema xs
KeysDiffer-front schema [] ys differ = tt
KeysDiffer-front schema (first ∷ xs) ys differ =
    (AllByRecursion-front (λ other. key_of schema first.row ≢ key_of schema other.row) xs ys differ.0, KeysDiffer-front schema xs ys differ.1)

EachFollows-front : (o : Opening) (before entries more : List Entry) → EachFollows o before (entries ++ more) → EachFollows o before entries
EachFollows-front o before [] more follows = tt
EachFollows-front o before (first ∷ entries) more follows = (follows.0, EachFollows-front o (before ++ first ∷ []) entries more follows.1)

-- what a legal history was before it grew was legal
pub IsLegal-before : (h : History) (more : List Entry) → IsLegal (extended h more) → IsLegal h
IsLegal-before h more legal = record {
  opening = legal.opening;
  distinct = KeysDiffer-front h.opening.schemas.first (rows h) (rows_in more) (rw (rows-extended h more) at legal.distinct);
  follows = EachFollows-front h.opening [] h.entries more legal.follows;
}

-- each front of a legal history is legal
pub IsLegal-front : (k : ℕ) (h : History) → IsLegal h → IsLegal (front k h)
IsLegal-front k h legal =
    let whole : extended (front k h) (drop k h.entries) ≡ h = ap (λ (es : List Entry). record h { entries = es }) (take-append-drop k h.entries) in
    IsLegal-before (front k h) (drop k h.entries) (rw whole legal)

-- an entry without a row leaves the keys
KeysDiffer-by_none : (h : History) (e : Entry) → IsLegal h → rows_in (e ∷ []) ≡ [] → KeysDiffer h.opening.schemas.first (rows (extended h (e ∷ [])))
KeysDiffer-by_none h e legal none = rw (rows-extended_by_none h (e ∷ []) none) legal.distinct

-- the keys stay different after an entry whose row, if it has one, has a new key
pub KeysDiffer-extended : (h : History) (e : Entry) → IsLegal h → BringsNewKey h e → KeysDiffer h.opening.schemas.first (rows (extended h (e ∷ [])))
KeysDiffer-extended h (row_entry numbered tablet) legal brings =
    rw (rows-extended h (row_entry numbered tablet ∷ [])) (KeysDiffer-more h.opening.schemas.first (rows h) numbered legal.distinct brings)
KeysDiffer-extended h (bound_entry bound) legal brings = KeysDiffer-by_none h (bound_entry bound) legal refl
KeysDiffer-extended h (schema_entry change) legal brings = KeysDiffer-by_none h (schema_entry change) legal refl
KeysDiffer-extended h (kept_entry number) legal brings = KeysDiffer-by_none h (kept_entry number) legal refl

pub IsLegal-lawful : (h : History) (e : Entry) → IsLegal h → MayFollow h e → BringsNewKey h e → IsLegal (extended h (e ∷ []))
IsLegal-lawful h e legal may brings = IsLegal-extended h e legal may (KeysDiffer-extended h e legal brings)
