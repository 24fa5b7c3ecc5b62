use Rattle.std.proofs.Common.{List, ℕ, Ok, Err, subst}
use Rattle.std.proofs.lemmas.Result.{err_from_is_err_and}
use Rattle.lt_rec.specs.Reading.{Fails}
use Rattle.lt_block.specs.Reading.{block_at, records_in, IsRead}
use Rattle.lt_block.proofs.Blocks.{only_so}
use Rattle.lt_block.proofs.block.Block.read.Goals as goal

pub returns-in_err-offsets-clause-only : goal.returns-in_err-offsets-clause-only
returns-in_err-offsets-clause-only c =
    let p = err_from_is_err_and c.from_residual.result c.from_residual.ensures.1 in
    rw (p.1, p.2) (λ recs h e. only_so c.args.bytes recs (Err c.in_err-offsets.field-0.0) (subst (λ (b : List ℕ). Fails c.in_err-offsets.field-0.0 (block_at b)) c.as_slice.ensures c.in_err-offsets.ensures.fault) h e)

pub returns-clause-only : goal.returns-clause-only
returns-clause-only c = λ recs h e.
    let read : IsRead c.args.bytes c.in_ok-offsets.offsets.items = subst (λ (b : List ℕ). IsRead b c.in_ok-offsets.offsets.items) c.as_slice.ensures c.in_ok-offsets.ensures.read in
    only_so c.args.bytes recs (Ok (records_in c.args.bytes)) read.read h e
