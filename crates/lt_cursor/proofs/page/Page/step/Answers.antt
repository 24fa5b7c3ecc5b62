use Rattle.std.proofs.Common.{◌≡◌, ◌<◌, ◌∷◌, Some, length, sym, ap, ◌∙◌, arith}
use Rattle.std.specs.Prelude.{slice_get}
use Rattle.std.proofs.lemmas.Option.{slice_get-get_or}
use Rattle.lt_rec.specs.Boxes.{in_box}
use Rattle.lt_cursor.specs.Places.{between}
use Rattle.lt_cursor.specs.Order.{in_order}
use Rattle.lt_cursor.specs.declared.places.Places.{Places}
use Rattle.lt_cursor.proofs.Behind.{first_of, first_within, some_places, kept_first, if_ok}
use Rattle.lt_cursor.proofs.page.Page.step.Goals as goal

pub returns-clause-given : goal.returns-clause-given
returns-clause-given c =
    let i = c.self.inside in
    let x = c.get.result in
    let some : i.places.from < i.places.to = some_places i.places i.block c.args.self.now c.self.view_is c.requires.some in
    let at : c.take_first-at.result < length i.block = omega (arith, c.take_first-at.ensures.first, first_within i.places some, c.self.invariant.within) in
    let here : slice_get i.block c.take_first-at.result ≡ Some x = slice_get-get_or i.block c.take_first-at.result x at ∙ ap (λ y. Some y) c.get.ensures.value in
    let behind : c.args.self.now ≡ x ∷ in_order c.take_first-at.new.self.down (between c.take_first-at.new.self i.block) =
    sym c.self.view_is ∙ first_of i.places i.block x some (ap (slice_get i.block) (sym c.take_first-at.ensures.first) ∙ here)
    ∙ ap (λ (q : Places). x ∷ in_order q.down (between q i.block)) (sym c.take_first-at.ensures.rest) in
    if_ok _ _ c.copied.result (λ given e. kept_first (in_box c.args.raw_box.now) x c.args.self.now _ given behind e) c.copied.ensures

pub returns-clause-shorter : goal.returns-clause-shorter
returns-clause-shorter c =
    let i = c.self.inside in
    let x = c.get.result in
    let some : i.places.from < i.places.to = some_places i.places i.block c.args.self.now c.self.view_is c.requires.some in
    let at : c.take_first-at.result < length i.block = omega (arith, c.take_first-at.ensures.first, first_within i.places some, c.self.invariant.within) in
    let here : slice_get i.block c.take_first-at.result ≡ Some x = slice_get-get_or i.block c.take_first-at.result x at ∙ ap (λ y. Some y) c.get.ensures.value in
    let behind : c.args.self.now ≡ x ∷ in_order c.take_first-at.new.self.down (between c.take_first-at.new.self i.block) =
    sym c.self.view_is ∙ first_of i.places i.block x some (ap (slice_get i.block) (sym c.take_first-at.ensures.first) ∙ here)
    ∙ ap (λ (q : Places). x ∷ in_order q.down (between q i.block)) (sym c.take_first-at.ensures.rest) in
    let shorter : length (in_order c.take_first-at.new.self.down (between c.take_first-at.new.self i.block)) < length c.args.self.now = omega (arith, ap length behind) in
    shorter
