-- A source's next record, put among the heads.
use Rattle.std.proofs.Common.{◌≡◌, ℕ, ◌<◌, [], ◌∷◌, ◌++◌, length, map, set, get_or, refl, sym, ap, subst, ◌∙◌}
use Rattle.std.specs.List.{Any}
use Rattle.std.specs.List.Sorted.{IsPermutation}
use Rattle.std.proofs.lemmas.List.{map-set, get_or-map, length-map}
use Rattle.std.proofs.Math.Seq.{map-set_same}
use Rattle.lt_rec.specs.Record.{Record}
use Rattle.lt_kway.specs.Heads.{Held}
use Rattle.lt_kway.specs.declared.head.Head.{Head}
use Rattle.lt_cursor.specs.Order.{arranged}
use Rattle.lt_cursor.specs.Strands.{Strand, left_of}
use Rattle.lt_cursor.specs.Merging.{Merging, lefts, all_left, coming_of, IsSound, IsSoundMerging}
use Rattle.lt_cursor.proofs.Leading.{led_by_none, put_sound, put_coming, never_clash}

module _ (m : Merging) (at : ℕ) (old new : Strand) (w : at < length m.strands) (is : old ≡ get_or m.strands at old) where
  left_at : get_or (lefts m) at [] ≡ left_of m.raw_box old
  left_at = get_or-map (left_of m.raw_box) m.strands at old [] w ∙ ap (left_of m.raw_box) (sym is)

  within : at < length (lefts m)
  within = subst (λ n. at < n) (sym (length-map m.strands (left_of m.raw_box))) w

  -- the source has none left
  none_lefts : left_of m.raw_box old ≡ left_of m.raw_box new → map (left_of m.raw_box) (set m.strands at new) ≡ lefts m
  none_lefts e = map-set_same (left_of m.raw_box) m.strands at new old (sym e ∙ ap (left_of m.raw_box) is)

  pub none_sound : left_of m.raw_box old ≡ left_of m.raw_box new → left_of m.raw_box new ≡ [] → IsSoundMerging m (m.waiting ++ at ∷ []) → IsSoundMerging (record m { strands = set m.strands at new }) m.waiting
  none_sound e none sound = subst (λ ls. IsSound m.held.down m.held.heads ls m.waiting) (sym (none_lefts e)) (led_by_none m.held.down m.held.heads (lefts m) m.waiting at within sound (left_at ∙ e ∙ none))

  pub none_coming : left_of m.raw_box old ≡ left_of m.raw_box new → coming_of (record m { strands = set m.strands at new }) ≡ coming_of m
  none_coming e = ap (λ ls. arranged m.held.down (all_left m.held.heads ls)) (none_lefts e)

  -- the source gives a record
  module _ (rec : Record) (held : Held) (sound : IsSoundMerging m (m.waiting ++ at ∷ [])) (given : left_of m.raw_box old ≡ rec ∷ left_of m.raw_box new)
      (put : IsPermutation (record { source = at; rec = rec } ∷ m.held.heads) held.heads) (direction : held.down ≡ m.held.down) where
    pub some_sound : IsSoundMerging (record m { held = held; strands = set m.strands at new }) m.waiting
    some_sound =
        subst (λ ls. IsSound held.down held.heads ls m.waiting) (sym (map-set (left_of m.raw_box) m.strands at new))
        (subst (λ d. IsSound d held.heads (set (lefts m) at (left_of m.raw_box new)) m.waiting) (sym direction)
        (put_sound m.held.down m.held.heads held.heads (lefts m) m.waiting at (record { source = at; rec = rec }) (left_of m.raw_box new) within refl sound (left_at ∙ given) put))

    pub some_coming : coming_of (record m { held = held; strands = set m.strands at new }) ≡ coming_of m
    some_coming =
        ap (λ ls. arranged held.down (all_left held.heads ls)) (map-set (left_of m.raw_box) m.strands at new)
        ∙ ap (λ d. arranged d (all_left held.heads (set (lefts m) at (left_of m.raw_box new)))) direction
        ∙ put_coming m.held.down m.held.heads held.heads (lefts m) m.waiting at (record { source = at; rec = rec }) (left_of m.raw_box new) within refl sound (left_at ∙ given) put

  pub no_clash : (rec : Record) (source : ℕ) → IsSoundMerging m (m.waiting ++ at ∷ []) → left_of m.raw_box old ≡ rec ∷ left_of m.raw_box new → Any (λ (h : Head). (h.source ≡ source) × (h.rec.key ≡ rec.key)) m.held.heads → ⊥
  no_clash rec source sound given a = never_clash m.held.down m.held.heads (lefts m) (m.waiting ++ at ∷ []) at source rec (left_of m.raw_box new) within sound (left_at ∙ given) a
