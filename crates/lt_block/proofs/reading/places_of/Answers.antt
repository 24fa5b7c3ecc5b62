use Rattle.std.proofs.Common.{sym, subst, ◌∙◌, length, []}
use Rattle.std.proofs.lemmas.Result.{err_from_is_err_and}
use Rattle.std.proofs.lemmas.Bool.{eqb-true, eqb-false}
use Rattle.lt_rec.specs.declared.fault.FormatError.TheVariants as errors
use Rattle.lt_rec.specs.Reading.{Fails}
use Rattle.lt_block.specs.Reading.{records_at}
use Rattle.lt_block.proofs.Loop.{at_end, too_many, broken, too_long, no_count, counted}
use Rattle.lt_block.proofs.reading.places_of.Goals as goal

pub returns-then-bytes-gt-LONGEST_BLOCK : goal.returns-then-bytes-gt-LONGEST_BLOCK
returns-then-bytes-gt-LONGEST_BLOCK c = too_long c.args.bytes.now c.if-bytes-gt-LONGEST_BLOCK.true

pub returns-in_err-count : goal.returns-in_err-count
returns-in_err-count c =
    let p = err_from_is_err_and c.from_residual.result c.from_residual.ensures.1 in
    rw (p.1, p.2) (no_count (errors.Bad c.in_err-count.field-0.0.at) c.args.bytes.now c.if-bytes-gt-LONGEST_BLOCK.false c.in_err-count.ensures.exact)

pub returns-in_err-offsets : goal.returns-in_err-offsets
returns-in_err-offsets c =
    let p = err_from_is_err_and c.from_residual-in_err-offsets.result c.from_residual-in_err-offsets.ensures.1 in
    let e = counted c.args.bytes.now c.in_ok-count.count c.in_ok-count.rest.now c.if-bytes-gt-LONGEST_BLOCK.false c.in_ok-count.ensures.exact in
    rw (p.1, p.2) (subst (Fails c.in_err-offsets.field-0.0) (sym e) (broken c.in_err-offsets.field-0.0 (length c.args.bytes.now) (records_at c.in_ok-count.count 4 [] c.in_ok-count.rest.now) c.in_err-offsets.ensures.exact))

pub returns-then-not-is_empty : goal.returns-then-not-is_empty
returns-then-not-is_empty c =
    counted c.args.bytes.now c.in_ok-count.count c.in_ok-count.rest.now c.if-bytes-gt-LONGEST_BLOCK.false c.in_ok-count.ensures.exact
    ∙ too_many (length c.args.bytes.now) (records_at c.in_ok-count.count 4 [] c.in_ok-count.rest.now) c.in_ok-offsets.offsets.items c.in_ok-offsets.left.now c.in_ok-offsets.ensures.exact (eqb-false _ _ (sym c.is_empty.ensures ∙ c.if-not-is_empty.true))

pub returns : goal.returns
returns c =
    counted c.args.bytes.now c.in_ok-count.count c.in_ok-count.rest.now c.if-bytes-gt-LONGEST_BLOCK.false c.in_ok-count.ensures.exact
    ∙ at_end (length c.args.bytes.now) (records_at c.in_ok-count.count 4 [] c.in_ok-count.rest.now) c.in_ok-offsets.offsets.items c.in_ok-offsets.left.now c.in_ok-offsets.ensures.exact (eqb-true _ _ (sym c.is_empty.ensures ∙ c.if-not-is_empty.false))
