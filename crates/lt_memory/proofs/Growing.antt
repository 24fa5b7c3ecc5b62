-- Lists of tablets that grow by one.
use Rattle.std.proofs.Common.{◌≡◌, ℕ, ◌+◌, ◌<◌, Bool, true, false, cond, List, [], ◌∷◌, ◌++◌, length, get_or, take, drop, map, Option, Some, None, refl, sym, ◌∙◌, ap, ⊎_elim}
use Rattle.std.specs.Prelude.{filter, option_to_list, if◌then◌else◌, IfNone}
use Rattle.std.proofs.lemmas.Bool.{cases_Bool}
use Rattle.std.proofs.lemmas.List.{map-append, take_more}
use Rattle.std.proofs.lemmas.List.Elements.{filter-append}
use Rattle.lt_rec.specs.Record.{Record}
use Rattle.lt_rec.specs.declared.raw_box.RawBox.{RawBox}
use Rattle.lt_state.specs.State.{Filled}
use Rattle.lt_memory.specs.Walking.{meets_span, walk_of, walk_if, walks_of}

one_walk : (b : Bool) (raw_box : RawBox) (down : Bool) (limit : ℕ) (t : Filled) → map (walk_of raw_box down limit) (cond b (t ∷ []) []) ≡ option_to_list (if b then Some (walk_of raw_box down limit t) else None)
one_walk true raw_box down limit t = refl
one_walk false raw_box down limit t = refl

pub walks_more : (raw_box : RawBox) (down : Bool) (limit : ℕ) (ts : List Filled) (t : Filled) → walks_of raw_box down limit (ts ++ t ∷ []) ≡ walks_of raw_box down limit ts ++ option_to_list (walk_if raw_box down limit t)
walks_more raw_box down limit ts t =
    ap (map (walk_of raw_box down limit)) (filter-append (λ t. meets_span raw_box t.recs) ts (t ∷ []))
    ∙ map-append (walk_of raw_box down limit) (filter (λ t. meets_span raw_box t.recs) ts) (cond (meets_span raw_box t.recs) (t ∷ []) [])
    ∙ ap (λ ls. walks_of raw_box down limit ts ++ ls) (one_walk (meets_span raw_box t.recs) raw_box down limit t)

pub if_none : {T : Type 0} (found : Option T) (P Q : Type 0) → (P → Q) → IfNone found P → IfNone found Q
if_none None P Q weaker h = weaker h
if_none (Some x) P Q weaker h = tt
