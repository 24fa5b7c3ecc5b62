-- Elements and members of JSON values as lists, and a step of each walk over columns.
use Rattle.std.proofs.Common.{◌≡◌, ℕ, zero, suc, ◌+◌, ◌<◌, Bool, true, false, cond, List, [], ◌∷◌, ◌++◌, length, get_or, take, drop, map, refl, ap, ◌∙◌, sym, add-one}
use Rattle.std.specs.Prelude.{String, Option, Some, None, IsTrue, is_some, ◌&&◌, ◌==◌}
use Rattle.std.specs.List.{list_any}
use Rattle.std.specs.declared.alloc.Global.{Global}
use Rattle.std.proofs.Math.Seq.{drop-cons}
use Rattle.std.proofs.lemmas.List.{drop-map, take-map, length-map}
use Rattle.serde_json.specs.Data.{Data, null, boolean, number, string, array, object, Members}
use Rattle.serde_json.specs.Find.{as_object}
use Rattle.serde_json.specs.View.{view, items_of, members_of, members_view}
use Rattle.serde_json.specs.declared.value.Value.{Value as Json}
use Rattle.lt_json.specs.FromJson.{list_of, count_of, members_in, members_of_column, default_in, kind_in, is_column, misshapen_from, is_same, name_in, names_in, twice_from, lawful_default, bad_default_from}
use Rattle.lt_schema.specs.Names.{is_name}
use Rattle.lt_schema.proofs.Growing.{both_true}

pub list_of_items_of : (ds : List Data) → list_of (items_of ds) ≡ ds
list_of_items_of [] = refl
list_of_items_of (d ∷ ds) = ap (λ (xs : List Data). d ∷ xs) (list_of_items_of ds)

pub count_of_members_of : (ms : List (String Global × Data)) → count_of (members_of ms) ≡ length ms
count_of_members_of [] = refl
count_of_members_of (m ∷ ms) = rw (add-one, count_of_members_of ms) refl

-- the elements from a place on
pub drop_view : (xs : List Json) (i : ℕ) (x : Json) → i < length xs → x ≡ get_or xs i x → drop i (map view xs) ≡ view x ∷ drop (i + 1) (map view xs)
drop_view xs i x lt is = rw (add-one, drop-map view i xs, drop-map view (suc i) xs, drop-cons xs i x lt, ← is) refl

pub names_drop : (xs : List Json) (i : ℕ) (x : Json) → i < length xs → x ≡ get_or xs i x → drop i (names_in (map view xs)) ≡ name_in (view x) ∷ drop (i + 1) (names_in (map view xs))
names_drop xs i x lt is = drop-map name_in i (map view xs) ∙ ap (map name_in) (drop_view xs i x lt is) ∙ ap (λ (r : List (List ℕ)). name_in (view x) ∷ r) (sym (drop-map name_in (i + 1) (map view xs)))

pub names_front : (xs : List Json) (i : ℕ) → names_in (map view (take i xs)) ≡ take i (names_in (map view xs))
names_front xs i = ap (map name_in) (sym (take-map view i xs)) ∙ sym (take-map name_in i (map view xs))

pub take_step : {A : Type 0} (ns : List A) (i : ℕ) (n : A) (rest : List A) → drop i ns ≡ n ∷ rest → take (i + 1) ns ≡ take i ns ++ n ∷ []
take_step [] zero n rest is = absurd (cc)
take_step [] (suc i) n rest is = absurd (cc)
take_step (m ∷ ms) zero n rest is = cc
take_step (m ∷ ms) (suc i) n rest is = rw (add-one) (ap (λ (r : _). m ∷ r) (rw add-one at (take_step ms i n rest is)))

members_of_object : (d : Data) (ms : Members) → as_object d ≡ Some ms → members_in d ≡ count_of ms
members_of_object null ms is = absurd (cc)
members_of_object (boolean b) ms is = absurd (cc)
members_of_object (number n) ms is = absurd (cc)
members_of_object (string s) ms is = absurd (cc)
members_of_object (array ds) ms is = absurd (cc)
members_of_object (object os) ms is = let same : os ≡ ms = cc in ap count_of same

abbrev pair_view : String Global × Json → String Global × Data
pair_view m = (m.0, view m.1)

pub count_view : (d : Data) (ms : List (String Global × Json)) → Some (members_view ms) ≡ as_object d → members_in d ≡ length ms
count_view d ms is = members_of_object d (members_view ms) (sym is) ∙ count_of_members_of (map pair_view ms) ∙ length-map ms pair_view

pub column_named : (d : Data) → IsTrue (is_column d) → IsTrue (is_name (name_in d))
unfolding is_column
column_named d is =
    let both = both_true (is_name (name_in d) && is_some (kind_in d)) (members_in d == members_of_column (default_in d)) is in
    (both_true (is_name (name_in d)) (is_some (kind_in d)) both.0).0

either : (b : Bool) (at : ℕ) (rest : Option ℕ) → cond b rest (Some at) ≡ None → (b ≡ true) × (rest ≡ None)
either true at rest none = (refl, none)
either false at rest none = absurd (cc)

pub misshapen_more : (at : ℕ) (d : Data) (ds : List Data) → is_column d ≡ true → misshapen_from at (d ∷ ds) ≡ misshapen_from (at + 1) ds
unfolding misshapen_from
misshapen_more at d ds is = rw is refl

pub misshapen_here : (at : ℕ) (d : Data) (ds : List Data) → is_column d ≡ false → misshapen_from at (d ∷ ds) ≡ Some at
unfolding misshapen_from
misshapen_here at d ds is = rw is refl

pub shaped_more : (at : ℕ) (d : Data) (ds : List Data) → misshapen_from at (d ∷ ds) ≡ None → (is_column d ≡ true) × (misshapen_from (at + 1) ds ≡ None)
unfolding misshapen_from
shaped_more at d ds none = either (is_column d) at (misshapen_from (at + 1) ds) none

pub twice_more : (at : ℕ) (earlier : List (List ℕ)) (name : List ℕ) (names : List (List ℕ)) → list_any (is_same name) earlier ≡ false → twice_from at earlier (name ∷ names) ≡ twice_from (at + 1) (earlier ++ name ∷ []) names
unfolding twice_from
twice_more at earlier name names is = rw is refl

pub twice_here : (at : ℕ) (earlier : List (List ℕ)) (name : List ℕ) (names : List (List ℕ)) → list_any (is_same name) earlier ≡ true → twice_from at earlier (name ∷ names) ≡ Some at
unfolding twice_from
twice_here at earlier name names is = rw is refl

pub bad_more : (at : ℕ) (d : Data) (ds : List Data) → is_some (lawful_default d) ≡ true → bad_default_from at (d ∷ ds) ≡ bad_default_from (at + 1) ds
unfolding bad_default_from
bad_more at d ds is = rw is refl

pub bad_here : (at : ℕ) (d : Data) (ds : List Data) → is_some (lawful_default d) ≡ false → bad_default_from at (d ∷ ds) ≡ Some at
unfolding bad_default_from
bad_here at d ds is = rw is refl

pub bad_none : (at : ℕ) (d : Data) (ds : List Data) → bad_default_from at (d ∷ ds) ≡ None → (is_some (lawful_default d) ≡ true) × (bad_default_from (at + 1) ds ≡ None)
unfolding bad_default_from
bad_none at d ds none = either (is_some (lawful_default d)) at (bad_default_from (at + 1) ds) none
