use Rattle.std.proofs.Common.{◌∙◌, [], List, ap, Ok, sym}
use Rattle.std.proofs.lemmas.Result.{err_from_is_err_and}
use Rattle.lt_rec.specs.declared.listed.Listed.{Listed}
use Rattle.lt_desc.specs.Reading.{repeated, next_tablet}
use Rattle.lt_desc.proofs.Turns.{turn_next, turn_fails, turns_done}
use Rattle.lt_desc.proofs.listing.tablets_of.Goals as goal

pub returns-in_err-more : goal.returns-in_err-more
returns-in_err-more c =
    let p = err_from_is_err_and c.from_residual-in_err-more.result c.from_residual-in_err-more.ensures.1 in
    let step = next_tablet c.args.kept c.args.next_file c.args.total in
    let whole = repeated (next_tablet c.args.kept c.args.next_file c.args.total) c.args.count [] c.args.bytes.now in
    record { exact = rw (p.1, p.2) (turn_fails (next_tablet c.args.kept c.args.next_file c.args.total) c.in_err-more.field-0.0 c.args.count c.loop.counter c.loop.tablets c.loop.rest.now whole c.loop-test.true c.in_err-more.ensures.exact c.loop.invariant) }

pub loop-preserved : goal.loop-preserved
loop-preserved c =
    let whole = repeated (next_tablet c.args.kept c.args.next_file c.args.total) c.args.count [] c.args.bytes.now in
    turn_next (next_tablet c.args.kept c.args.next_file c.args.total) c.args.count c.loop.counter c.loop.tablets c.loop.rest.now c.in_ok-more.more c.in_ok-more.after.now whole c.loop-test.true c.in_ok-more.ensures.exact c.loop.invariant

pub returns : goal.returns
returns c =
    let whole = repeated (next_tablet c.args.kept c.args.next_file c.args.total) c.args.count [] c.args.bytes.now in
    record {
      exact = turns_done (next_tablet c.args.kept c.args.next_file c.args.total) c.args.count c.loop.counter c.loop.tablets c.loop.rest.now whole c.loop-test.false c.loop.invariant
          ∙ ap (λ (ts : List Listed). Ok (ts, c.loop.rest.now)) (sym c.into_vec.ensures);
    }
