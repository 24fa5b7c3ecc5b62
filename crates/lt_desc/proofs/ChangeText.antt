-- Changes and versions: what is read is so spelled, and what is so spelled is read.
use Rattle.std.proofs.Common.{◌≡◌, ℕ, zero, suc, ◌+◌, ◌<◌, ◌≤◌, Bool, true, false, cond, eqb, ltb, List, [], ◌∷◌, ◌++◌, length, get_or, take, drop, Result, Ok, refl, sym, ap, subst, ◌∙◌, append_assoc, arith}
use Rattle.std.specs.Prelude.{IsTrue, Option, Some, None, not, ◌||◌, slice_get, nat_le, find}
use Rattle.std.specs.Option.{is_none}
use Rattle.std.specs.List.{list_all, list_any}
use Rattle.std.specs.Int.{w32, to_be_bytes}
use Rattle.std.proofs.lemmas.Bool.{eqb-true, and_parts, and_from, leb-true, ne_eqb}
use Rattle.std.proofs.lemmas.Bool.Decides.{nat_tests}
use Rattle.std.proofs.lemmas.List.{length-append, append-nil}
use Rattle.std.proofs.lemmas.Cmp.{nat_list_eq_equiv}
use Rattle.lt_schema.specs.declared.change.Change.{Change}
use Rattle.lt_schema.specs.declared.change.Change.TheVariants.{Append, Widen}
use Rattle.lt_schema.specs.declared.change.AlterError.TheVariants.{Exists, TooMany, BadDefault, NotInt32}
use Rattle.lt_schema.specs.Shapes.{ColumnShape, SchemaShape}
use Rattle.lt_schema.specs.Names.{is_name}
use Rattle.lt_schema.specs.Lawful.{has_name, names_differ, has_lawful_default, is_schema}
use Rattle.lt_schema.specs.Versions.{SchemaVersions, changed, after_changes, schema_at, newest, is_int32_kind, widening_refusal, alter_refusal, has_lawful_name, is_admitted, are_admitted, is_versions}
use Rattle.lt_schema.proofs.Growing.{lawful_from, none_is, is_versions-more, is_schema-newest, changes_few}
use Rattle.lt_desc.specs.Lawful.{fits_column, fits_change}
use Rattle.lt_desc.specs.Spelling.{column_spelled, place_of, change_spelled, changes_spelled, first_spelled, schemas_spelled}
use Rattle.lt_rec.specs.Reading.{◌>>=◌, place, holds, asked, or_fault, is_within}
use Rattle.lt_desc.specs.Reading.{byte_from, number_from, number_where, column_at, narrow_name, append_at, widen_at, change_at, with_change, repeated, next_change, first_at, schemas_at}
use Rattle.lt_rec.proofs.Reading.{IsBytes, bind_ok, ok_is, asked_ok, or_fault_ok, holds_ok, holds_again, Takes, Takes-then, Takes-as, byte_takes}
use Rattle.lt_desc.proofs.Taken.{takes32, again32, where32, again_where32}
use Rattle.lt_desc.proofs.First.{within_from, same_bytes}
use Rattle.lt_desc.proofs.Turns.{turns_keep}
use Rattle.lt_desc.proofs.ColumnText.{not_true, all_more, column_takes, column_again, first_takes, first_again}

-- ---- appended columns

refused_not : (a b c : Bool) → a ≡ false → b ≡ false → c ≡ true → cond a (Some Exists) (cond b (Some TooMany) (cond c None (Some BadDefault))) ≡ None
refused_not true b c p q r = absurd cc
refused_not false true c p q r = absurd cc
refused_not false false true p q r = refl
refused_not false false false p q r = absurd cc

refused_parts : (a b c : Bool) → cond a (Some Exists) (cond b (Some TooMany) (cond c None (Some BadDefault))) ≡ None → (a ≡ false) × (b ≡ false) × (c ≡ true)
refused_parts true b c none = absurd cc
refused_parts false true c none = absurd cc
refused_parts false false true none = (refl, refl, refl)
refused_parts false false false none = absurd cc

has_room : (n : ℕ) → ltb n 64 ≡ true → nat_le 64 n ≡ false
has_room n lt = grind (arith, nat_tests)

room_for : (n : ℕ) → nat_le 64 n ≡ false → ltb n 64 ≡ true
room_for n le = grind (arith, nat_tests)

pub append_may : (s : SchemaShape) (column : ColumnShape) → ltb (length s.columns) 64 ≡ true → list_any (has_name column.name) s.columns ≡ false → has_lawful_default column ≡ true → alter_refusal s (Append column) ≡ None
append_may s column room new default = refused_not (list_any (has_name column.name) s.columns) (nat_le 64 (length s.columns)) (has_lawful_default column) new (has_room (length s.columns) room) default

pub record ChangeFound (s : SchemaShape) (bytes : List ℕ) (x : Change × List ℕ) : Type 0 where
  pub takes : Takes bytes (change_spelled s x.0) x.1
  pub may : alter_refusal s x.0 ≡ None
  pub named : has_lawful_name x.0 ≡ true
  pub fits : fits_change x.0 ≡ true

-- a change behind its tag
record TailFound (s : SchemaShape) (tag : ℕ) (bytes : List ℕ) (x : Change × List ℕ) : Type 0 where
  takes : (front : List ℕ) → Takes front (tag ∷ []) bytes → Takes front (change_spelled s x.0) x.1
  may : alter_refusal s x.0 ≡ None
  named : has_lawful_name x.0 ≡ true
  fits : fits_change x.0 ≡ true

abbrev appended : ColumnShape × List ℕ → Result (Change × List ℕ) ℕ
appended column = Ok (Append column.0, column.1)

abbrev from_room : (tag : ℕ) (s : SchemaShape) (total : ℕ) (bytes : List ℕ) → Unit {0} → Result (Change × List ℕ) ℕ
from_room tag s total bytes room = column_at (Some tag) 0 s.columns total bytes >>= appended

append_takes : (tag : ℕ) (s : SchemaShape) (total : ℕ) (bytes : List ℕ) (x : Change × List ℕ) → IsBytes bytes → append_at tag s total bytes ≡ Ok x → TailFound s 0 bytes x
unfolding append_at change_spelled
append_takes tag s total bytes x fits e =
    let a = bind_ok (holds (ltb (length s.columns) 64) tag) (from_room tag s total bytes) x e in
    let b = bind_ok (column_at (Some tag) 0 s.columns total bytes) appended x a.2 in
    let found = column_takes (Some tag) 0 s.columns total bytes b.0 fits b.1 in
    subst (TailFound s 0 bytes) (ok_is (Append b.0.0, b.0.1) x b.2) (record {
      takes = λ front t. Takes-then front (0 ∷ []) bytes (column_spelled b.0.0) b.0.1 t found.takes;
      may = append_may s b.0.0 (holds_ok (ltb (length s.columns) 64) tag a.0 a.1) found.new found.default;
      named = found.named;
      fits = found.fits;
    })

-- ---- widened columns

-- the column's own name, where names differ
record Named (name : List ℕ) (n : ℕ) (column : ColumnShape) (columns : List ColumnShape) : Type 0 where
  place : place_of name columns ≡ n
  found : find (has_name name) columns ≡ Some column

same_name : (a : List ℕ) (column : ColumnShape) → column.name ≡ a → has_name a column ≡ true
same_name a column e = subst (λ (name : List ℕ). has_name name column ≡ true) e (nat_list_eq_equiv.refl column.name)

some_in : (name : List ℕ) (columns : List ColumnShape) (n : ℕ) (column : ColumnShape) → slice_get columns n ≡ Some column → has_name name column ≡ true → list_any (has_name name) columns ≡ true
some_in name [] n column e h = absurd cc
some_in name (first ∷ columns) zero column e h =
    let same : first ≡ column = cc in
    let here : has_name name first ≡ true = ap (has_name name) same ∙ h in
    rw here refl
some_in name (first ∷ columns) (suc n) column e h = go (has_name name first) (some_in name columns n column e h)
  where
    go : (b : Bool) → list_any (has_name name) columns ≡ true → (b || list_any (has_name name) columns) ≡ true
    go true t = refl
    go false t = t

name_here : (columns : List ColumnShape) (n : ℕ) (column : ColumnShape) → names_differ columns ≡ true → slice_get columns n ≡ Some column → Named column.name n column columns
name_here [] n column differ e = absurd cc
name_here (first ∷ columns) zero column differ e =
    let same : first ≡ column = cc in
    let here : has_name column.name first ≡ true = same_name column.name first (ap (λ (c : ColumnShape). c.name) same) in
    record { place = rw here refl; found = rw here (ap Some same) }
name_here (first ∷ columns) (suc n) column differ e =
    let d = and_parts (not (list_any (has_name first.name) columns)) (names_differ columns) differ in
    let rest = name_here columns n column d.1 e in
    let apart : has_name column.name first ≡ false = differs (has_name column.name first) refl in
    record { place = rw apart (ap suc rest.place); found = rw apart rest.found }
  where
    differs : (b : Bool) → has_name column.name first ≡ b → has_name column.name first ≡ false
    differs true h =
        let back : has_name first.name column ≡ true = nat_list_eq_equiv.symm column.name first.name ∙ h in
        absurd (clash (list_any (has_name first.name) columns) (not_true _ (and_parts (not (list_any (has_name first.name) columns)) (names_differ columns) differ).0) (some_in first.name columns n column e back))
      where
        clash : (b : Bool) → b ≡ false → b ≡ true → ⊥
        clash true p q = absurd cc
        clash false p q = absurd cc
    differs false h = h

narrow_by : (b : Bool) (given name : List ℕ) → cond b (Some given) None ≡ Some name → (b ≡ true) × (given ≡ name)
narrow_by true given name e = (refl, cc)
narrow_by false given name e = absurd cc

-- the column of which the number was read
record Narrow (n : ℕ) (name : List ℕ) (columns : List ColumnShape) : Type 0 where
  column : ColumnShape
  here : slice_get columns n ≡ Some column
  narrow : is_int32_kind column.kind ≡ true
  named : column.name ≡ name

narrow_here : (n : ℕ) (name : List ℕ) (columns : List ColumnShape) → narrow_name (slice_get columns n) ≡ Some name → Narrow n name columns
narrow_here n name columns e = at (slice_get columns n) refl e
  where
    at : (o : Option ColumnShape) → slice_get columns n ≡ o → narrow_name o ≡ Some name → Narrow n name columns
    at None here h = absurd cc
    at (Some column) here h =
        let p = narrow_by (is_int32_kind column.kind) column.name name h in
        record { column = column; here = here; narrow = p.0; named = p.1 }

abbrev named_change : List ℕ → List ℕ → Result (Change × List ℕ) ℕ
named_change rest name = Ok (Widen name, rest)

abbrev from_number : (tag : ℕ) (s : SchemaShape) → ℕ × List ℕ → Result (Change × List ℕ) ℕ
from_number tag s n = or_fault (narrow_name (slice_get s.columns n.0)) tag >>= named_change n.1

widen_takes : (tag : ℕ) (s : SchemaShape) (total : ℕ) (bytes : List ℕ) (x : Change × List ℕ) → IsTrue (is_schema s) → IsBytes bytes → widen_at tag s total bytes ≡ Ok x → TailFound s 1 bytes x
unfolding widen_at change_spelled
widen_takes tag s total bytes x lawful fits e =
    let a = bind_ok (number_from w32 total bytes) (from_number tag s) x e in
    let b = bind_ok (or_fault (narrow_name (slice_get s.columns a.0.0)) tag) (named_change a.0.1) x a.2 in
    let n = takes32 total bytes a.0 fits a.1 in
    let is = narrow_here a.0.0 b.0 s.columns (or_fault_ok (narrow_name (slice_get s.columns a.0.0)) tag b.0 b.1) in
    let own : Named b.0 a.0.0 is.column s.columns = subst (λ (name : List ℕ). Named name a.0.0 is.column s.columns) is.named (name_here s.columns a.0.0 is.column (lawful_from s lawful).differ is.here) in
    let kind = is.narrow in
    let may : widening_refusal (find (has_name b.0) s.columns) ≡ None = ap widening_refusal own.found ∙ ap (λ (t : Bool). cond t None (Some NotInt32)) is.narrow in
    subst (TailFound s 1 bytes) (ok_is (Widen b.0, a.0.1) x b.2) (record {
      takes = λ front t. Takes-as front (1 ∷ to_be_bytes w32 a.0.0) (1 ∷ to_be_bytes w32 (place_of b.0 s.columns)) a.0.1 (ap (λ (m : ℕ). 1 ∷ to_be_bytes w32 m) (sym own.place)) (Takes-then front (1 ∷ []) bytes (to_be_bytes w32 a.0.0) a.0.1 t n.0);
      may = may;
      named = refl;
      fits = refl;
    })

-- ---- a change

abbrev from_tag : (at : ℕ) (s : SchemaShape) (total : ℕ) → ℕ × List ℕ → Result (Change × List ℕ) ℕ
from_tag at s total tag = cond (eqb tag.0 0) (append_at at s total tag.1) (widen_at at s total tag.1)

change_by : (b : Bool) (at : ℕ) (s : SchemaShape) (total : ℕ) (bytes : List ℕ) (tag : ℕ × List ℕ) (x : Change × List ℕ) → IsTrue (is_schema s) → eqb tag.0 0 ≡ b → is_within 0 1 tag.0 ≡ true → Takes bytes (tag.0 ∷ []) tag.1
    → cond b (append_at at s total tag.1) (widen_at at s total tag.1) ≡ Ok x → ChangeFound s bytes x
change_by true at s total bytes tag x lawful z w t e =
    let zero : tag.0 ≡ 0 = eqb-true tag.0 0 z in
    let found = append_takes at s total tag.1 x t.rest_fits e in
    record { takes = found.takes bytes (Takes-as bytes (tag.0 ∷ []) (0 ∷ []) tag.1 (ap (λ (n : ℕ). n ∷ []) zero) t); may = found.may; named = found.named; fits = found.fits }
change_by false at s total bytes tag x lawful z w t e =
    let one : tag.0 ≡ 1 = grind (arith, nat_tests) in
    let found = widen_takes at s total tag.1 x lawful t.rest_fits e in
    record { takes = found.takes bytes (Takes-as bytes (tag.0 ∷ []) (1 ∷ []) tag.1 (ap (λ (n : ℕ). n ∷ []) one) t); may = found.may; named = found.named; fits = found.fits }

change_takes : (s : SchemaShape) (total : ℕ) (bytes : List ℕ) (x : Change × List ℕ) → IsTrue (is_schema s) → IsBytes bytes → change_at s total bytes ≡ Ok x → ChangeFound s bytes x
unfolding change_at
change_takes s total bytes x lawful fits e =
    let a = bind_ok (asked (is_within 0 1) (place total bytes) (byte_from total bytes)) (from_tag (place total bytes) s total) x e in
    let g = asked_ok (is_within 0 1) (place total bytes) (byte_from total bytes) a.0 a.1 in
    change_by (eqb a.0.0 0) (place total bytes) s total bytes a.0 x lawful refl g.1 (byte_takes (place total bytes) bytes a.0 fits g.0) a.2

-- the column that a name finds
record Finds (name : List ℕ) (columns : List ColumnShape) : Type 0 where
  column : ColumnShape
  here : slice_get columns (place_of name columns) ≡ Some column
  narrow : is_int32_kind column.kind ≡ true
  named : column.name ≡ name
  within : place_of name columns < length columns

narrow_of : (b : Bool) → cond b None (Some NotInt32) ≡ None → b ≡ true
narrow_of true e = refl
narrow_of false e = absurd cc

finds : (name : List ℕ) (columns : List ColumnShape) → widening_refusal (find (has_name name) columns) ≡ None → Finds name columns
finds name [] may = absurd cc
finds name (first ∷ columns) may = go (has_name name first) refl may (finds name columns)
  where
    go : (b : Bool) → has_name name first ≡ b → widening_refusal (cond b (Some first) (find (has_name name) columns)) ≡ None → (widening_refusal (find (has_name name) columns) ≡ None → Finds name columns) → Finds name (first ∷ columns)
    go true h m others =
        let at : place_of name (first ∷ columns) ≡ 0 = rw h refl in
        record { column = first; here = ap (slice_get (first ∷ columns)) at; narrow = narrow_of (is_int32_kind first.kind) m; named = same_bytes first.name name h; within = omega (arith, at) }
    go false h m others =
        let rest = others m in
        let at : place_of name (first ∷ columns) ≡ suc (place_of name columns) = rw h refl in
        record { column = rest.column; here = ap (slice_get (first ∷ columns)) at ∙ rest.here; narrow = rest.narrow; named = rest.named; within = omega (arith, at, rest.within) }

never_due : (n : ℕ) (k : Bool) → (not (eqb (n + 1) 0) || k) ≡ true
never_due n k = ap (λ (b : Bool). not b || k) (ne_eqb (n + 1) 0 (λ e. omega (arith, e)))

change_again : (s : SchemaShape) (total : ℕ) (change : Change) (rest : List ℕ) → IsTrue (is_schema s) → is_admitted s change ≡ true → fits_change change ≡ true → change_at s total (change_spelled s change ++ rest) ≡ Ok (change, rest)
unfolding change_at change_spelled append_at widen_at
change_again s total (Append column) rest lawful may fits =
    let m = and_parts (is_none (alter_refusal s (Append column))) (is_name column.name) may in
    let p = refused_parts (list_any (has_name column.name) s.columns) (nat_le 64 (length s.columns)) (has_lawful_default column) (none_is (alter_refusal s (Append column)) m.0) in
    let tag : ℕ = place total (0 ∷ (column_spelled column ++ rest)) in
    let room : holds (ltb (length s.columns) 64) tag ≡ Ok tt = holds_again (ltb (length s.columns) 64) tag (room_for (length s.columns) p.1) in
    ap (λ (q : Result (Unit {0}) ℕ). q >>= from_room tag s total (column_spelled column ++ rest)) room
    ∙ ap (λ (q : Result (ColumnShape × List ℕ) ℕ). q >>= appended) (column_again (Some tag) 0 s.columns total column rest m.1 p.0 (never_due (length s.columns) _) p.2 fits)
change_again s total (Widen name) rest lawful may fits =
    let m = and_parts (is_none (alter_refusal s (Widen name))) true may in
    let found = finds name s.columns (none_is (alter_refusal s (Widen name)) m.0) in
    let small : length s.columns ≤ 64 = leb-true (length s.columns) 64 (lawful_from s lawful).small in
    let tag : ℕ = place total (1 ∷ (to_be_bytes w32 (place_of name s.columns) ++ rest)) in
    let own : narrow_name (slice_get s.columns (place_of name s.columns)) ≡ Some name = ap narrow_name found.here ∙ (ap (λ (b : Bool). cond b (Some found.column.name) None) found.narrow ∙ ap Some found.named) in
    ap (λ (q : Result (ℕ × List ℕ) ℕ). q >>= from_number tag s) (again32 total (place_of name s.columns) rest (omega (arith, found.within, small)))
    ∙ ap (λ (o : Option (List ℕ)). or_fault o tag >>= named_change rest) own

-- ---- changes one after the other

spelled_more : (s : SchemaShape) (changes : List Change) (change : Change) → changes_spelled s (changes ++ change ∷ []) ≡ changes_spelled s changes ++ change_spelled (after_changes s changes) change
spelled_more s [] change = append-nil (change_spelled s change)
spelled_more s (first ∷ changes) change = ap (λ (t : List ℕ). change_spelled s first ++ t) (spelled_more (changed s first) changes change) ∙ sym (append_assoc (change_spelled s first) (changes_spelled (changed s first) changes) (change_spelled (after_changes (changed s first) changes) change))

pub after_more : (s : SchemaShape) (changes : List Change) (change : Change) → after_changes s (changes ++ change ∷ []) ≡ changed (after_changes s changes) change
after_more s [] change = refl
after_more s (first ∷ changes) change = after_more (changed s first) changes change

record ChangesSoFar (first : SchemaShape) (text : List ℕ) (count n : ℕ) (v : SchemaVersions) (bytes : List ℕ) : Type 0 where
  rest_fits : IsBytes bytes
  parts : text ≡ changes_spelled first v.changes ++ bytes
  same : v.first ≡ first
  many : length v.changes + n ≡ count
  lawful : IsTrue (is_versions v)
  fits : list_all fits_change v.changes ≡ true

changes_over : (first : SchemaShape) (count total : ℕ) (text : List ℕ) (n : ℕ) (v : SchemaVersions) (bytes : List ℕ) (x : SchemaVersions × List ℕ) → ChangesSoFar first text count (suc n) v bytes → next_change total v bytes ≡ Ok x → ChangesSoFar first text count n x.0 x.1
changes_over first count total text n v bytes x so_far e =
    let a = bind_ok (change_at (newest v) total bytes) (with_change v) x e in
    let found = change_takes (newest v) total bytes a.0 (is_schema-newest v so_far.lawful) so_far.rest_fits a.1 in
    let here : change_spelled (newest v) a.0.0 ≡ change_spelled (after_changes first v.changes) a.0.0 = ap (λ (s : SchemaShape). change_spelled (after_changes s v.changes) a.0.0) so_far.same in
    subst (λ (p : SchemaVersions × List ℕ). ChangesSoFar first text count n p.0 p.1) (ok_is (record { first = v.first; changes = v.changes ++ a.0.0 ∷ [] }, a.0.1) x a.2) (record {
      rest_fits = found.takes.rest_fits;
      parts = so_far.parts ∙ (ap (λ (t : List ℕ). changes_spelled first v.changes ++ t) (found.takes.parts ∙ ap (λ (t : List ℕ). t ++ a.0.1) here) ∙ (sym (append_assoc (changes_spelled first v.changes) (change_spelled (after_changes first v.changes) a.0.0) a.0.1)
          ∙ ap (λ (t : List ℕ). t ++ a.0.1) (sym (spelled_more first v.changes a.0.0))));
      same = so_far.same;
      many = omega (arith, so_far.many, length-append v.changes (a.0.0 ∷ []));
      lawful = is_versions-more v a.0.0 so_far.lawful found.may found.named;
      fits = all_more fits_change v.changes a.0.0 so_far.fits found.fits;
    })

changes_back : (total : ℕ) (more : List Change) (v : SchemaVersions) (rest : List ℕ) → IsTrue (is_versions v) → IsTrue (are_admitted (newest v) more) → list_all fits_change more ≡ true
    → repeated (next_change total) (length more) v (changes_spelled (newest v) more ++ rest) ≡ Ok (record { first = v.first; changes = v.changes ++ more }, rest)
unfolding repeated
changes_back total [] v rest lawful may fits = ap (λ (cs : List Change). Ok (record { first = v.first; changes = cs }, rest)) (sym (append-nil v.changes))
changes_back total (change ∷ more) v rest lawful may fits =
    let m = and_parts (is_admitted (newest v) change) (are_admitted (changed (newest v) change) more) may in
    let f = and_parts (fits_change change) (list_all fits_change more) fits in
    let a = and_parts (is_none (alter_refusal (newest v) change)) (has_lawful_name change) m.0 in
    let w : SchemaVersions = record { first = v.first; changes = v.changes ++ change ∷ [] } in
    let next : newest w ≡ changed (newest v) change = after_more v.first v.changes change in
    let tail : List ℕ = changes_spelled (changed (newest v) change) more ++ rest in
    let regrouped : changes_spelled (newest v) (change ∷ more) ++ rest ≡ change_spelled (newest v) change ++ (changes_spelled (changed (newest v) change) more ++ rest) =
    append_assoc (change_spelled (newest v) change) (changes_spelled (changed (newest v) change) more) rest in
    let one : change_at (newest v) total (change_spelled (newest v) change ++ tail) ≡ Ok (change, tail) = change_again (newest v) total change tail (is_schema-newest v lawful) m.0 f.0 in
    let step : next_change total v (change_spelled (newest v) change ++ tail) ≡ Ok (w, tail) = ap (λ (q : Result (Change × List ℕ) ℕ). q >>= with_change v) one in
    let others : repeated (next_change total) (length more) w (changes_spelled (newest w) more ++ rest) ≡ Ok (record { first = v.first; changes = (v.changes ++ change ∷ []) ++ more }, rest) =
    changes_back total more w rest (is_versions-more v change lawful (none_is (alter_refusal (newest v) change) a.0) a.1) (subst (λ (s : SchemaShape). IsTrue (are_admitted s more)) (sym next) m.1) f.1 in
    ap (repeated (next_change total) (suc (length more)) v) regrouped
    ∙ (ap (λ (q : Result (SchemaVersions × List ℕ) ℕ). q >>= λ x. repeated (next_change total) (length more) x.0 x.1) step
    ∙ (ap (λ (s : SchemaShape). repeated (next_change total) (length more) w (changes_spelled s more ++ rest)) (sym next)
    ∙ (others ∙ ap (λ (cs : List Change). Ok (record { first = v.first; changes = cs }, rest)) (append_assoc v.changes (change ∷ []) more))))

-- ---- all of the schemas

pub record SchemasFound (bytes : List ℕ) (x : SchemaVersions × List ℕ) : Type 0 where
  pub takes : Takes bytes (schemas_spelled x.0) x.1
  pub lawful : IsTrue (is_versions x.0)
  pub columns : list_all fits_column x.0.first.columns ≡ true
  pub changes : list_all fits_change x.0.changes ≡ true

abbrev alone : SchemaShape → SchemaVersions
alone first = record { first = first; changes = [] }

abbrev from_first : (total : ℕ) → SchemaShape × List ℕ → Result (SchemaVersions × List ℕ) ℕ
from_first total first = number_where w32 (is_within 0 128) total first.1 >>= λ count. repeated (next_change total) count.0 (alone first.0) count.1

pub schemas_takes : (total : ℕ) (bytes : List ℕ) (x : SchemaVersions × List ℕ) → IsBytes bytes → schemas_at total bytes ≡ Ok x → SchemasFound bytes x
unfolding schemas_at schemas_spelled
schemas_takes total bytes x fits e =
    let a = bind_ok (first_at total bytes) (from_first total) x e in
    let b = bind_ok (number_where w32 (is_within 0 128) total a.0.1) (λ count. repeated (next_change total) count.0 (alone a.0.0) count.1) x a.2 in
    let ta = first_takes total bytes a.0 fits a.1 in
    let tb = where32 (is_within 0 128) total a.0.1 b.0 ta.takes.rest_fits b.1 in
    let start : ChangesSoFar a.0.0 b.0.1 b.0.0 b.0.0 (alone a.0.0) b.0.1 = record { rest_fits = tb.takes.rest_fits; parts = refl; same = refl; many = omega arith; lawful = and_from (is_schema a.0.0) true ta.lawful refl; fits = refl } in
    let f = turns_keep (next_change total) (ChangesSoFar a.0.0 b.0.1 b.0.0) (changes_over a.0.0 b.0.0 total b.0.1) b.0.0 (alone a.0.0) b.0.1 x start b.2 in
    let many : length x.0.changes ≡ b.0.0 = omega (arith, f.many) in
    let tc : Takes b.0.1 (changes_spelled a.0.0 x.0.changes) x.1 = record { parts = f.parts; rest_fits = f.rest_fits } in
    let p2 = Takes-then a.0.1 (to_be_bytes w32 b.0.0) b.0.1 (changes_spelled a.0.0 x.0.changes) x.1 tb.takes tc in
    let p1 = Takes-then bytes (first_spelled a.0.0) a.0.1 (to_be_bytes w32 b.0.0 ++ changes_spelled a.0.0 x.0.changes) x.1 ta.takes p2 in
    let q1 = subst (λ (n : ℕ). Takes bytes (first_spelled a.0.0 ++ (to_be_bytes w32 n ++ changes_spelled a.0.0 x.0.changes)) x.1) (sym many) p1 in
    let q = subst (λ (s : SchemaShape). Takes bytes (first_spelled s ++ (to_be_bytes w32 (length x.0.changes) ++ changes_spelled s x.0.changes)) x.1) (sym f.same) q1 in
    record { takes = q; lawful = f.lawful; columns = ap (λ (s : SchemaShape). list_all fits_column s.columns) f.same ∙ ta.fits; changes = f.fits }

pub schemas_again : (total : ℕ) (v : SchemaVersions) (rest : List ℕ) → IsTrue (is_versions v) → list_all fits_column v.first.columns ≡ true → list_all fits_change v.changes ≡ true → schemas_at total (schemas_spelled v ++ rest) ≡ Ok (v, rest)
unfolding schemas_at schemas_spelled
schemas_again total v rest lawful columns changes =
    let m = and_parts (is_schema v.first) (are_admitted v.first v.changes) lawful in
    let few = changes_few v lawful in
    let tail : List ℕ = changes_spelled v.first v.changes ++ rest in
    let r1 : List ℕ = to_be_bytes w32 (length v.changes) ++ tail in
    let regrouped : schemas_spelled v ++ rest ≡ first_spelled v.first ++ (to_be_bytes w32 (length v.changes) ++ (changes_spelled v.first v.changes ++ rest)) = append_assoc (first_spelled v.first) (to_be_bytes w32 (length v.changes) ++ changes_spelled v.first v.changes) rest in
    ap (schemas_at total) regrouped
    ∙ (ap (λ (q : Result (SchemaShape × List ℕ) ℕ). q >>= from_first total) (first_again total v.first r1 m.0 columns)
    ∙ (ap (λ (q : Result (ℕ × List ℕ) ℕ). q >>= λ count. repeated (next_change total) count.0 (alone v.first) count.1) (again_where32 (is_within 0 128) total (length v.changes) tail (omega (arith, few)) (within_from 0 128 (length v.changes) (omega arith) (omega (arith, few))))
    ∙ changes_back total v.changes (alone v.first) rest (and_from (is_schema v.first) true m.0 refl) m.1 changes))

-- an admitted change, for the code
pub change_may : (s : SchemaShape) (total : ℕ) (bytes : List ℕ) (change : Change) (rest : List ℕ) → IsTrue (is_schema s) → IsBytes bytes → change_at s total bytes ≡ Ok (change, rest) → alter_refusal s change ≡ None
change_may s total bytes change rest lawful fits e = let found = change_takes s total bytes (change, rest) lawful fits e in found.may

pub change_rest : (s : SchemaShape) (total : ℕ) (bytes : List ℕ) (change : Change) (rest : List ℕ) → IsTrue (is_schema s) → IsBytes bytes → change_at s total bytes ≡ Ok (change, rest) → IsBytes rest
change_rest s total bytes change rest lawful fits e = let found = change_takes s total bytes (change, rest) lawful fits e in found.takes.rest_fits

-- ---- changes that are put one after the other

pub cut_at : {A : Type 0} (xs : List A) (i : ℕ) (x : A) → i < length xs → x ≡ get_or xs i x → drop i xs ≡ x ∷ drop (i + 1) xs
cut_at [] i x lt is = absurd (omega (arith, lt))
cut_at (y ∷ xs) zero x lt is = ap (λ (z : _). z ∷ xs) (sym is)
cut_at (y ∷ xs) (suc i) x lt is =
    let next : suc i + 1 ≡ suc (i + 1) = omega arith in
    cut_at xs i x (omega (arith, lt)) is ∙ ap (λ (n : ℕ). x ∷ drop n (y ∷ xs)) (sym next)

after_next : (s : SchemaShape) (changes : List Change) (i : ℕ) (change : Change) → i < length changes → change ≡ get_or changes i change → after_changes s (take (i + 1) changes) ≡ changed (after_changes s (take i changes)) change
after_next s [] i change lt is = absurd (omega (arith, lt))
after_next s (first ∷ changes) zero change lt is = ap (changed s) (sym is)
after_next s (first ∷ changes) (suc i) change lt is =
    let next : suc i + 1 ≡ suc (i + 1) = omega arith in
    ap (λ (n : ℕ). after_changes s (take n (first ∷ changes))) next ∙ after_next (changed s first) changes i change (omega (arith, lt)) is

pub version_next : (v : SchemaVersions) (i : ℕ) (change : Change) → i < length v.changes → change ≡ get_or v.changes i change → schema_at v (i + 1) ≡ changed (schema_at v i) change
version_next v i change lt is = after_next v.first v.changes i change lt is

pub put_step : (out new all : List ℕ) (s t : SchemaShape) (change : Change) (changes rest : List Change) → changes ≡ change ∷ rest → t ≡ changed s change → new ≡ out ++ change_spelled s change → out ++ changes_spelled s changes ≡ all → new ++ changes_spelled t rest ≡ all
put_step out new all s t change changes rest cut next put so_far =
    ap (λ (xs : List ℕ). xs ++ changes_spelled t rest) put ∙ (append_assoc out (change_spelled s change) (changes_spelled t rest)
    ∙ (ap (λ (u : SchemaShape). out ++ (change_spelled s change ++ changes_spelled u rest)) next ∙ (ap (λ (cs : List Change). out ++ changes_spelled s cs) (sym cut) ∙ so_far)))

pub may_step : (s t : SchemaShape) (change : Change) (changes rest : List Change) → changes ≡ change ∷ rest → t ≡ changed s change → IsTrue (are_admitted s changes) → IsTrue (is_admitted s change) × IsTrue (are_admitted t rest)
may_step s t change changes rest cut next may =
    let p = and_parts (is_admitted s change) (are_admitted (changed s change) rest) (ap (are_admitted s) (sym cut) ∙ may) in
    (p.0, ap (λ (u : SchemaShape). are_admitted u rest) next ∙ p.1)

pub fits_step : (change : Change) (changes rest : List Change) (all : Bool) → changes ≡ change ∷ rest → fits_change change ≡ true → list_all fits_change changes ≡ all → list_all fits_change rest ≡ all
fits_step change changes rest all cut one so_far =
    let here : list_all fits_change (change ∷ rest) ≡ list_all fits_change rest = rw one refl in
    sym here ∙ (ap (list_all fits_change) (sym cut) ∙ so_far)
