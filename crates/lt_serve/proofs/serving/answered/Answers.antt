use Rattle.std.proofs.Common.{◌≡◌, Err, rules}
use Rattle.lt_serve.specs.Growing.{meter}
use Rattle.lt_serve.specs.declared.refusals.SessionError.TheVariants as session
use Rattle.lt_serve.proofs.Answering.{nothing_yet}
use Rattle.lt_serve.proofs.Causes.{unanswered_so}
use Rattle.std.specs.Prelude.{None}
use Rattle.lt_serve.proofs.serving.answered.Goals as goal

pub returns-in_err-client-clause-unanswered : goal.returns-in_err-client-clause-unanswered
returns-in_err-client-clause-unanswered g c =
    let began = meter (g.V.Device.faults c.args.device.now) c.args.store.now.next_file c.args.store.now.anchor.directory in
    let is : c.from_residual.result ≡ Err session.NoMemory = search rules in
    unanswered_so g.V.Device.honest (g.C.Clock.shows c.args.clock.now) c.args.store.now.table c.args.store.now.table began began c.args.input.now c.from_residual.result is
    (nothing_yet g.V.Device.honest (g.C.Clock.shows c.args.clock.now) c.args.store.now.table began None c.args.input.now c.requires.opens)

pub returns-in_err-session_over-in-Clear-clause-unanswered : goal.returns-in_err-session_over-in-Clear-clause-unanswered
returns-in_err-session_over-in-Clear-clause-unanswered g c =
    let result = c.from_residual-in_err-session_over-in-Clear.result in
    let is : c.from_residual-in_err-session_over-in-Clear.result ≡ Err session.NoMemory = search rules in
    unanswered_so g.V.Device.honest (g.C.Clock.shows c.args.clock.now) c.args.store.now.table c.session_over.new.store.table
    (meter (g.V.Device.faults c.args.device.now) c.args.store.now.next_file c.args.store.now.anchor.directory)
    (meter (g.V.Device.faults c.session_over.new.device) c.session_over.new.store.next_file c.session_over.new.store.anchor.directory) c.args.input.now result is
    c.in_err-session_over-in-Clear.ensures.front
