use Rattle.std.proofs.Common.{◌≡◌, ◌<◌, List, [], length, sym, ap, ◌∙◌, arith}
use Rattle.std.proofs.lemmas.List.{get_or_default}
use Rattle.lt_rec.specs.Record.{Record}
use Rattle.lt_mem.specs.Pieces.{piece_at}
use Rattle.lt_mem.proofs.Joined.{split_same, split_some}
use Rattle.lt_mem.proofs.store.split_long.Goals as goal

pub returns-in-Ok-insert-clause-same : goal.returns-in-Ok-insert-clause-same
returns-in-Ok-insert-clause-same c =
    split_same c.args.pieces.now.items c.insert.new.self.items c.reserve.new.self.items c.args.at 64 c.index_mut-piece.result.now c.split_off.new.self c.in-Ok.high
    c.requires.held c.reserve.ensures.items c.index_mut-piece.ensures.value c.in-Ok.ensures.kept c.in-Ok.ensures.given c.in-Ok-insert.ensures.items

pub returns-in-Ok-insert-clause-some : goal.returns-in-Ok-insert-clause-some
returns-in-Ok-insert-clause-some c =
    let ps = c.args.pieces.now.items in
    let rs = c.reserve.new.self.items in
    let at = c.args.at in
    let held : at < length rs = (let e = ap length c.reserve.ensures.items in let h = c.requires.held in omega arith) in
    let seen : c.as_slice.result.now ≡ piece_at ps at = c.as_slice.ensures ∙ c.index.ensures ∙ get_or_default ps at c.index.result.now [] c.requires.held in
    let old : c.index_mut-piece.result.now ≡ piece_at ps at = c.index_mut-piece.ensures.value ∙ get_or_default rs at c.index_mut-piece.result.now [] held ∙ ap (λ (xs : List (List Record)). piece_at xs at) c.reserve.ensures.items in
    let same = ap length (seen ∙ sym old) in
    split_some ps c.insert.new.self.items rs at 64 c.index_mut-piece.result.now c.split_off.new.self c.in-Ok.high
    c.requires.held c.reserve.ensures.items c.index_mut-piece.ensures.value c.in-Ok.ensures.kept c.in-Ok.ensures.given c.in-Ok-insert.ensures.items
    c.requires.some (omega arith) (omega arith)
