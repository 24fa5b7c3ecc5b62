use Rattle.std.proofs.Common.{◌≡◌, List, [], get_or, subst, ◌∙◌}
use Rattle.std.proofs.lemmas.List.{get_or_default}
use Rattle.lt_rec.specs.Record.{Record}
use Rattle.lt_mem.specs.Pieces.{IsFound, IsGap, piece_at}
use Rattle.lt_mem.proofs.Gap.{found_in, gap_none}
use Rattle.lt_mem.proofs.pieces.Pieces.get.Goals as goal

pub returns-in-Ok-clause-held : goal.returns-in-Ok-clause-held
returns-in-Ok-clause-held c =
    let ps = c.self.inside.pieces.items in
    let at = c.in-Ok.at in
    let place = c.in-Ok.place in
    let x = c.index-recs-place.result in
    let f : IsFound ps c.args.key.now at place = subst (λ (qs : List (List Record)). IsFound qs c.args.key.now at place) c.as_slice-2.ensures.value c.in-Ok.ensures.found in
    let same : c.as_slice-recs.result.now ≡ piece_at ps at = c.as_slice-recs.ensures ∙ c.index-piece.ensures ∙ get_or_default ps at c.index-piece.result.now [] f.held in
    let e : x ≡ get_or (piece_at ps at) place x = subst (λ (xs : List Record). x ≡ get_or xs place x) same c.index-recs-place.is in
    rw (← c.self.view_is) (found_in ps at c.self.invariant f.held place x f.within e)

pub returns-in-Err-clause-none : goal.returns-in-Err-clause-none
returns-in-Err-clause-none c =
    let ps = c.self.inside.pieces.items in
    let at = c.in-Err.field-0.0 in
    let place = c.in-Err.field-0.1 in
    let g : IsGap ps c.args.key.now at place = subst (λ (qs : List (List Record)). IsGap qs c.args.key.now at place) c.as_slice-2.ensures.value c.in-Err.ensures.gap in
    rw (← c.self.view_is) (gap_none ps c.args.key.now at place c.self.invariant g)
