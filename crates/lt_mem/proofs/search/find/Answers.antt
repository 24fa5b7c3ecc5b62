use Rattle.std.proofs.Common.{◌≡◌, ℕ, ◌<◌, ◌≤◌, true, List, [], length, get_or, sym, subst, ◌∙◌}
use Rattle.std.proofs.lemmas.List.{get_or_default}
use Rattle.lt_rec.specs.Bytes.{is_less}
use Rattle.lt_rec.specs.Record.{Record}
use Rattle.lt_mem.specs.Lead.{AreLeads}
use Rattle.lt_mem.specs.Rising.{IsRising}
use Rattle.lt_mem.specs.Pieces.{piece_at}
use Rattle.lt_mem.proofs.Gap.{piece_rises, gap}
use Rattle.lt_mem.proofs.search.find.Goals as goal

pub place_in-requires : goal.place_in-requires
place_in-requires c =
    let at = c.piece_for-at.result in
    let same : piece_at c.args.pieces.now at ≡ c.as_slice.result.now = get_or_default c.args.pieces.now at [] c.index-pieces-at.result c.piece_for-at.ensures.within ∙ sym c.index-pieces-at.is ∙ sym c.as_slice.ensures in
    record {
      rising = subst IsRising same (piece_rises c.args.pieces.now at c.requires.lined c.piece_for-at.ensures.within);
      leads = subst (λ (xs : List Record). AreLeads xs c.leads.result.now) (sym c.as_slice.ensures) c.leads.ensures;
      lead = c.requires.lead;
    }

pub returns-in-Err-clause-gap : goal.returns-in-Err-clause-gap
returns-in-Err-clause-gap c =
    let ps = c.args.pieces.now in
    let at = c.piece_for-at.result in
    let place = c.in-Err.place in
    let key = c.args.key.now in
    let same : c.as_slice.result.now ≡ piece_at ps at = c.as_slice.ensures ∙ c.index-pieces-at.is ∙ get_or_default ps at c.index-pieces-at.result [] c.piece_for-at.ensures.within in
    gap ps at c.requires.lined c.piece_for-at.ensures.within key place c.piece_for-at.ensures.begun c.piece_for-at.ensures.next
    (subst (λ (xs : List Record). place ≤ length xs) same c.in-Err.ensures.within)
    (subst (λ (xs : List Record). (k : ℕ) (d : Record) → k < place → is_less (get_or xs k d).key key ≡ true) same c.in-Err.ensures.before)
    (subst (λ (xs : List Record). (k : ℕ) (d : Record) → place ≤ k → k < length xs → is_less key (get_or xs k d).key ≡ true) same c.in-Err.ensures.after)
