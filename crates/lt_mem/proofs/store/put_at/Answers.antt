use Rattle.std.proofs.Common.{◌≡◌, ◌<◌, ◌≤◌, List, [], length, set, insert, sym, ap, subst, ◌∙◌, arith}
use Rattle.std.proofs.lemmas.List.{get_or_default}
use Rattle.std.proofs.lemmas.List.Edits.{length-insert}
use Rattle.std.proofs.lemmas.List.Elements.{All-set}
use Rattle.lt_rec.specs.Record.{Record}
use Rattle.lt_rec.specs.Records.{joined}
use Rattle.lt_mem.specs.Pieces.{piece_at}
use Rattle.lt_mem.proofs.Joined.{insert_piece}
use Rattle.lt_mem.proofs.store.put_at.Goals as goal

pub returns-in-Ok-clause-ok : goal.returns-in-Ok-clause-ok
returns-in-Ok-clause-ok c =
    let ps = c.args.pieces.now.items in
    let at = c.args.at in
    let place = c.args.place in
    let rec = c.args.rec in
    c.split_long.ensures.same
    ∙ ap (λ (q : List Record). joined (set ps at q))
    (c.in-Ok.ensures.ok ∙ ap (λ (p : List Record). insert p place rec) (c.index_mut-piece.ensures.value ∙ get_or_default ps at c.index_mut-piece.result.now [] c.requires.held))
    ∙ insert_piece ps at place rec c.requires.held c.requires.within

pub split_long-requires-clause-some : goal.split_long-requires-clause-some
split_long-requires-clause-some c =
    let ps = c.args.pieces.now.items in
    let old = c.index_mut-piece.result.now in
    let place = c.args.place in
    let same : old ≡ piece_at ps c.args.at = c.index_mut-piece.ensures.value ∙ get_or_default ps c.args.at old [] c.requires.held in
    let fits : place ≤ length old = subst (λ (p : List Record). place ≤ length p) (sym same) c.requires.within in
    let size = length-insert old place c.args.rec fits in
    let long = ap length c.in-Ok.ensures.ok in
    let some : 0 < length c.insert.new.self = omega (arith, size, long) in
    All-set (λ (p : List Record). 0 < length p) ps c.args.at c.insert.new.self some c.requires.some
