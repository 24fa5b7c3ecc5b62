use Rattle.std.proofs.Common.{◌≡◌, ◌+◌, ◌-◌, ◌++◌, ◌∷◌, [], length, arith}
use Rattle.std.proofs.lemmas.Result.{err_from_is_err_and}
use Rattle.lt_rec.specs.Record.{stored_len}
use Rattle.lt_rec.specs.declared.fault.FormatError.TheVariants as errors
use Rattle.lt_block.specs.Reading.{records_at, placed}
use Rattle.lt_block.proofs.Loop.{goes_on, ends, is_done}
use Rattle.lt_block.proofs.reading.offsets_of.Goals as goal

pub returns-in_err-rec-clause-exact : goal.returns-in_err-rec-clause-exact
returns-in_err-rec-clause-exact c =
    let p = err_from_is_err_and c.from_residual-in_err-rec.result c.from_residual-in_err-rec.ensures.1 in
    rw (p.1, p.2) (ends (errors.Bad c.in_err-rec.field-0.0.at) c.loop.offsets.items c.args.count c.loop.counter (4 + length c.args.bytes.now - length c.loop.rest.now) c.loop.last.now c.loop.rest.now (placed 4 (records_at c.args.count 4 [] c.args.bytes.now)) c.loop-test.true c.in_err-rec.ensures.exact c.loop.invariant.1)

pub loop-preserved : goal.loop-preserved
loop-preserved c =
    let at = 4 + length c.args.bytes.now - length c.loop.rest.now in
    let next = 4 + length c.args.bytes.now - length c.in_ok-rec.after.now in
    let len : stored_len c.in_ok-rec.rec + length c.in_ok-rec.after.now ≡ length c.loop.rest.now = c.in_ok-rec.ensures.len in
    let e : c.push.new.self.items ≡ c.loop.offsets.items ++ (4 + length c.args.bytes.now - length c.loop.rest.now) ∷ [] = c.in_ok-push.ensures.items in (
      omega (arith, len),
      rw (e, c.key-last.ensures.value) (goes_on c.loop.offsets.items c.args.count c.loop.counter (4 + length c.args.bytes.now - length c.loop.rest.now) (4 + length c.args.bytes.now - length c.in_ok-rec.after.now) c.loop.last.now c.loop.rest.now c.in_ok-rec.rec c.in_ok-rec.after.now (placed 4 (records_at c.args.count 4 [] c.args.bytes.now)) c.loop-test.true (omega (arith, len, c.loop.invariant.0)) c.in_ok-rec.ensures.exact c.loop.invariant.1),
    )

pub returns-clause-exact : goal.returns-clause-exact
returns-clause-exact c = is_done c.loop.offsets.items c.args.count c.loop.counter (4 + length c.args.bytes.now - length c.loop.rest.now) c.loop.last.now c.loop.rest.now (placed 4 (records_at c.args.count 4 [] c.args.bytes.now)) c.loop-test.false c.loop.invariant.1
