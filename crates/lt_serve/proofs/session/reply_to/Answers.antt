use Rattle.lt_serve.specs.Growing.{meter}
use Rattle.lt_serve.proofs.OneLine.{line_skipped, line_bad, line_commanded}
use Rattle.lt_serve.proofs.session.reply_to.Goals as goal

pub returns-in-Skip : goal.returns-in-Skip
returns-in-Skip g c =
    line_skipped g.V.Device.honest (g.C.Clock.shows c.args.clock.now) c.args.store.now.table (meter (g.V.Device.faults c.args.device.now) c.args.store.now.next_file c.args.store.now.anchor.directory) c.args.line c.in-Skip.is

pub returns-in-Bad : goal.returns-in-Bad
returns-in-Bad g c =
    line_bad g.V.Device.honest (g.C.Clock.shows c.args.clock.now) c.args.store.now.table (meter (g.V.Device.faults c.args.device.now) c.args.store.now.next_file c.args.store.now.anchor.directory) c.args.line c.in-Bad.client c.in-Bad.at c.in-Bad.is

pub returns : goal.returns
returns g c =
    line_commanded g.V.Device.honest (g.C.Clock.shows c.args.clock.now) c.args.store.now.table c.answer.new.self.table
    (meter (g.V.Device.faults c.args.device.now) c.args.store.now.next_file c.args.store.now.anchor.directory) (meter (g.V.Device.faults c.answer.new.device) c.answer.new.self.next_file c.answer.new.self.anchor.directory)
    c.args.line c.in-Command.client c.in-Command.moment c.in-Command.command c.moment_of-now.result c.answer.result c.in-Command.is c.moment_of-now.ensures
    c.answer.ensures.answered c.answer.ensures.undamaged c.answer.ensures.spent c.answer.ensures.numbers c.answer.ensures.lends c.answer.ensures.cause c.answer.ensures.kept
