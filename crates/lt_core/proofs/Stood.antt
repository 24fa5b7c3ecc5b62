-- What a core stands for.
use Rattle.std.proofs.Common.{◌≡◌, Bool, true, List, ◌∷◌, ◌++◌, length, map, refl, sym, ◌∙◌, ap, subst, arith}
use Rattle.lt_rec.specs.declared.listed.Listed.{Listed}
use Rattle.lt_model.specs.Step.{HoldsDurable}
use Rattle.lt_trace.specs.Elements.{Story, history_of, grown}
use Rattle.lt_trace.proofs.Counting.{listing_counts}
use Rattle.lt_state.specs.State.{Core, listing}
use Rattle.lt_state.specs.Stands.{StandsFor}
use Rattle.lt_core.specs.Stories.{Part, opened, parts_of, further, IsToldBy}
use Rattle.lt_core.specs.Laws.{GrowsByParts}
use Rattle.lt_core.proofs.Lists.{length_of_map, map_joined}

pub listing_holds : (c : Core) (s : Story) → StandsFor true c s → HoldsDurable (history_of s) (listing c)
listing_holds c s stands =
    let own = stands.own.0 in
    let is = stands.own.2 in
    subst (λ (ts : List Listed). HoldsDurable (history_of s) ts) is.tablets
    (listing_counts (history_of s) stands.safe.recs c.anchor.directory.now.files own (stands.safe.legal refl) (stands.safe.facts.entered refl own stands.own.1) (stands.safe.facts.rows refl own stands.own.1)
    (is.kept ∙ stands.reads.kept_is) (is.low ∙ stands.reads.low_is))

pub counted : (told : Bool) (c : Core) (parts : List Part) → IsToldBy told c parts → c.count ≡ length parts
counted told c parts is =
    let n = length_of_map further is.story.since in
    let m : length parts ≡ length (parts_of is.story) = ap (λ (ps : List Part). length ps) is.parts_are in
    omega (arith, is.stands.count_is, n, m)

pub grows_by_parts : GrowsByParts
grows_by_parts told old new more adds parts is = record {
  story = grown is.story more;
  stands = adds is.story is.stands;
  parts_are = ap (λ (ps : List Part). ps ++ map further more) is.parts_are ∙ ap (λ (ps : List Part). opened is.story.opening is.story.loaded is.story.began ∷ ps) (sym (map_joined further is.story.since more));
}
