use Rattle.std.proofs.Common.{◌≡◌, ◌++◌, [], refl, arith, rules}
use Rattle.lt_reply.specs.Texts.{end_line}
use Rattle.lt_serve.specs.Growing.{meter}
use Rattle.lt_serve.proofs.Looked.{next_said}
use Rattle.lt_serve.proofs.Replied.{on_refusal}
use Rattle.lt_serve.proofs.Answering.{ReadSoFar-begin, ReadSoFar-more, front_so_far, front_more, nothing_yet}
use Rattle.lt_serve.proofs.Ending.{next_is_built, IsAnswered-ended}
use Rattle.lt_serve.proofs.session.session_over.Goals as goal

pub returns-in_err-text-clause-front : goal.returns-in_err-text-clause-front
returns-in_err-text-clause-front g c =
    on_refusal c.from_residual.result _ (nothing_yet g.V.Device.honest (g.C.Clock.shows c.args.clock.now) c.args.store.now.table (meter (g.V.Device.faults c.args.device.now) c.args.store.now.next_file c.args.store.now.anchor.directory) c.args.client c.args.input.now c.requires.opens)

pub loop-bytes-init : goal.loop-bytes-init
loop-bytes-init g c = record {
  read = ReadSoFar-begin g.V.Device.honest (g.C.Clock.shows c.args.clock.now) c.args.store.now.table (meter (g.V.Device.faults c.args.device.now) c.args.store.now.next_file c.args.store.now.anchor.directory) c.args.client c.args.input.now
      c.in_ok-text.text.items c.requires.opens c.in_ok-text.ensures;
  later = omega arith;
}

pub answer_line-requires-clause-built : goal.answer_line-requires-clause-built
answer_line-requires-clause-built g c κs within =
    let so_far = c.loop-bytes.invariant.read in
    let line = c.in_ok-line.line in
    next_is_built c.args.input.now c.loop-bytes.rest.now c.in-Some.after.now so_far.lines c.in-Some.bytes.now line c.requires.built
    (next_said c.args.input.now c.loop-bytes.rest.now c.in-Some.after.now so_far.lines c.in-Some.bytes.now line so_far.cut c.in-Some.ensures.cut c.in_ok-line.ensures.exact)

pub returns-in_err-line-clause-front : goal.returns-in_err-line-clause-front
returns-in_err-line-clause-front g c =
    on_refusal c.from_residual-in_err-line.result _ (front_so_far g.V.Device.honest (g.C.Clock.shows c.args.clock.now) c.args.store.now.table (meter (g.V.Device.faults c.args.device.now) c.args.store.now.next_file c.args.store.now.anchor.directory) c.args.client c.args.input.now
    c.loop-bytes.store.table (meter (g.V.Device.faults c.loop-bytes.device) c.loop-bytes.store.next_file c.loop-bytes.store.anchor.directory) c.loop-bytes.rest.now c.loop-bytes.text.items c.loop-bytes.invariant.read)

pub returns-in_err-answer_line-clause-front : goal.returns-in_err-answer_line-clause-front
returns-in_err-answer_line-clause-front g c =
    let so_far = c.loop-bytes.invariant.read in
    let line = c.in_ok-line.line in
    on_refusal c.from_residual-in_err-answer_line.result _ (front_more g.V.Device.honest (g.C.Clock.shows c.args.clock.now) c.args.store.now.table (meter (g.V.Device.faults c.args.device.now) c.args.store.now.next_file c.args.store.now.anchor.directory) c.args.client c.args.input.now
    c.loop-bytes.store.table c.answer_line.new.store.table (meter (g.V.Device.faults c.loop-bytes.device) c.loop-bytes.store.next_file c.loop-bytes.store.anchor.directory)
    (meter (g.V.Device.faults c.answer_line.new.device) c.answer_line.new.store.next_file c.answer_line.new.store.anchor.directory) c.loop-bytes.rest.now c.in-Some.after.now c.loop-bytes.text.items c.in-Some.bytes.now line
    c.answer_line.ensures.0 so_far c.in-Some.ensures.cut c.in_ok-line.ensures.exact
    (next_is_built c.args.input.now c.loop-bytes.rest.now c.in-Some.after.now so_far.lines c.in-Some.bytes.now line c.requires.built
    (next_said c.args.input.now c.loop-bytes.rest.now c.in-Some.after.now so_far.lines c.in-Some.bytes.now line so_far.cut c.in-Some.ensures.cut c.in_ok-line.ensures.exact))
    c.answer_line.ensures.1)

pub loop-bytes-preserved : goal.loop-bytes-preserved
loop-bytes-preserved g c =
    let so_far = c.loop-bytes.invariant.read in
    let line = c.in_ok-line.line in
    let answers = c.in_ok-answer_line.ensures.1 in
    record {
      read = ReadSoFar-more g.V.Device.honest (g.C.Clock.shows c.args.clock.now) c.args.store.now.table (meter (g.V.Device.faults c.args.device.now) c.args.store.now.next_file c.args.store.now.anchor.directory) c.args.client c.args.input.now
          c.loop-bytes.store.table c.answer_line.new.store.table (meter (g.V.Device.faults c.loop-bytes.device) c.loop-bytes.store.next_file c.loop-bytes.store.anchor.directory)
          (meter (g.V.Device.faults c.answer_line.new.device) c.answer_line.new.store.next_file c.answer_line.new.store.anchor.directory) c.loop-bytes.rest.now c.in-Some.after.now c.loop-bytes.text.items c.in-Some.bytes.now line
          c.in_ok-answer_line.ensures.0 so_far c.in-Some.ensures.cut c.in_ok-line.ensures.exact
          (next_is_built c.args.input.now c.loop-bytes.rest.now c.in-Some.after.now so_far.lines c.in-Some.bytes.now line c.requires.built
          (next_said c.args.input.now c.loop-bytes.rest.now c.in-Some.after.now so_far.lines c.in-Some.bytes.now line so_far.cut c.in-Some.ensures.cut c.in_ok-line.ensures.exact))
          answers c.answer_line.new.text.items c.in_ok-answer_line.ensures.2;
      later = omega (arith, c.loop-bytes.invariant.later, answers.faults.later);
    }

pub returns-in_err-answer_line-clause-later : goal.returns-in_err-answer_line-clause-later
returns-in_err-answer_line-clause-later g c = omega (arith, c.loop-bytes.invariant.later, c.answer_line.ensures.1.faults.later)

pub returns-in_err-put_end-clause-front : goal.returns-in_err-put_end-clause-front
returns-in_err-put_end-clause-front g c =
    on_refusal c.from_residual-in_err-put_end.result _ (front_so_far g.V.Device.honest (g.C.Clock.shows c.args.clock.now) c.args.store.now.table (meter (g.V.Device.faults c.args.device.now) c.args.store.now.next_file c.args.store.now.anchor.directory) c.args.client c.args.input.now
    c.loop-bytes.store.table (meter (g.V.Device.faults c.loop-bytes.device) c.loop-bytes.store.next_file c.loop-bytes.store.anchor.directory) c.loop-bytes.rest.now c.loop-bytes.text.items c.loop-bytes.invariant.read)

pub returns-clause-answered : goal.returns-clause-answered
returns-clause-answered g c =
    let held = c.loop-bytes.store.table in
    let ended : c.loop-bytes.rest.now ≡ [] = c.in_default.ensures.none.0 refl in
    let written : c.from_vec.result ≡ c.loop-bytes.text.items ++ end_line held.next held.kept = search rules in
    IsAnswered-ended g.V.Device.honest (g.C.Clock.shows c.args.clock.now) c.args.store.now.table held (meter (g.V.Device.faults c.args.device.now) c.args.store.now.next_file c.args.store.now.anchor.directory)
    (meter (g.V.Device.faults c.loop-bytes.device) c.loop-bytes.store.next_file c.loop-bytes.store.anchor.directory) c.args.client c.args.input.now c.loop-bytes.rest.now c.loop-bytes.text.items c.from_vec.result
    c.loop-bytes.invariant.read ended c.requires.built c.requires.client written
