use Rattle.std.proofs.Common.{◌≡◌, ◌≤◌, ◌+◌, sym, ◌∙◌, subst}
use Rattle.lt_io.specs.Device.{Counts}
use Rattle.lt_command.specs.declared.command.Command.{Command}
use Rattle.lt_command.specs.declared.command.Command.TheVariants.{Insert, Scan, Alter}
use Rattle.lt_command.specs.declared.reply.Reply.{Reply}
use Rattle.lt_command.specs.declared.reply.Reply.TheVariants as reply
use Rattle.lt_plain.specs.Table.{Answers, IsUndamaged}
use Rattle.lt_serve.specs.Growing.{numbers_for, number_weight}
use Rattle.lt_serve.proofs.Replied.{insert_answered, scan_answered}
use Rattle.lt_serve.proofs.Renewing.{stays_none, stays_rest, stays_as, stays_of, lends_none}
use Rattle.lt_serve.proofs.store.Store.answer.Goals as goal

pub returns-in-Insert-clause-answered : goal.returns-in-Insert-clause-answered
returns-in-Insert-clause-answered g c =
    subst (λ (command : Command). Answers c.args.self.now.table c.insert.new.self c.args.now command c.reply_or_no_memory.result) (sym c.in-Insert.is)
    (insert_answered c.args.self.now.table c.insert.new.self c.args.now c.in-Insert.row c.insert.result c.reply_or_no_memory.result c.insert.ensures.answered c.insert.ensures.unchanged c.reply_or_no_memory.ensures.reply c.reply_or_no_memory.ensures.no_memory)

pub returns-in-Insert-clause-kept : goal.returns-in-Insert-clause-kept
returns-in-Insert-clause-kept g c = λ told versions.
    stays_of g.V.Device.honest c.args.self.now.table c.insert.new.self told (Insert c.in-Insert.row) c.args.command c.reply_or_no_memory.result c.args.self.now.anchor.directory c.args.self.now.anchor.directory c.in-Insert.is
    (stays_rest g.V.Device.honest c.args.self.now.table c.insert.new.self told c.args.self.now.anchor.directory c.insert.ensures.rest versions)

pub returns-in-Insert-clause-lends : goal.returns-in-Insert-clause-lends
returns-in-Insert-clause-lends g c = lends_none c.args.self.now.next_file c.args.self.now.anchor.directory

pub returns-in-Scan-clause-answered : goal.returns-in-Scan-clause-answered
returns-in-Scan-clause-answered g c =
    subst (λ (command : Command). Answers c.args.self.now.table c.args.self.now.table c.args.now command c.reply_or_no_memory-in-Scan.result) (sym c.in-Scan.is)
    (scan_answered c.args.self.now.table c.args.now c.in-Scan.query c.scan.result c.reply_or_no_memory-in-Scan.result c.scan.ensures.answered c.reply_or_no_memory-in-Scan.ensures.reply c.reply_or_no_memory-in-Scan.ensures.no_memory)

pub returns-in-Scan-clause-kept : goal.returns-in-Scan-clause-kept
returns-in-Scan-clause-kept g c = λ told versions.
    stays_of g.V.Device.honest c.args.self.now.table c.args.self.now.table told (Scan c.in-Scan.query) c.args.command c.reply_or_no_memory-in-Scan.result c.args.self.now.anchor.directory c.args.self.now.anchor.directory c.in-Scan.is
    (stays_none g.V.Device.honest c.args.self.now.table told c.args.self.now.anchor.directory versions)

pub returns-in-Scan-clause-lends : goal.returns-in-Scan-clause-lends
returns-in-Scan-clause-lends g c = lends_none c.args.self.now.next_file c.args.self.now.anchor.directory

pub returns-in-Alter-clause-answered : goal.returns-in-Alter-clause-answered
returns-in-Alter-clause-answered g c =
    subst (λ (command : Command). Answers c.args.self.now.table c.alter.new.self.table c.args.now command c.reply_to_change.result) (sym c.in-Alter.is)
    (subst (λ (answer : Reply). Answers c.args.self.now.table c.alter.new.self.table c.args.now (Alter c.in-Alter.change) answer) (sym c.reply_to_change.ensures) (c.alter.ensures.answered c.args.now))

pub returns-in-Alter-clause-kept : goal.returns-in-Alter-clause-kept
returns-in-Alter-clause-kept g c = λ told versions.
    stays_of g.V.Device.honest c.args.self.now.table c.alter.new.self.table told (Alter c.in-Alter.change) c.args.command c.reply_to_change.result c.args.self.now.anchor.directory c.alter.new.self.anchor.directory c.in-Alter.is
    (stays_as g.V.Device.honest c.args.self.now.table c.alter.new.self.table told c.in-Alter.change c.reply_to_change.result _ c.args.self.now.anchor.directory c.alter.new.self.anchor.directory c.reply_to_change.ensures
    (c.alter.ensures.kept told versions))

pub returns-in-Alter-clause-undamaged : goal.returns-in-Alter-clause-undamaged
returns-in-Alter-clause-undamaged g c = subst IsUndamaged (sym c.reply_to_change.ensures) c.alter.ensures.undamaged

pub returns-in-Alter-clause-spent : goal.returns-in-Alter-clause-spent
returns-in-Alter-clause-spent g c = λ asks spent. c.alter.ensures.spent (sym c.reply_to_change.ensures ∙ spent)

pub returns-in-Alter-clause-numbers : goal.returns-in-Alter-clause-numbers
returns-in-Alter-clause-numbers g c =
    let old = c.args.self.now.next_file in
    let new = c.alter.new.self.next_file in
    subst (λ (command : Command). new ≤ old + numbers_for command c.reply_to_change.result) (sym c.in-Alter.is)
    (subst (λ (answer : Reply). new ≤ old + number_weight answer) (sym c.reply_to_change.ensures) c.alter.ensures.numbers)

pub returns-in-Alter-clause-cause : goal.returns-in-Alter-clause-cause
returns-in-Alter-clause-cause g c =
    subst (λ (answer : Reply). Counts (g.V.Device.faults c.args.device.now) (g.V.Device.faults c.alter.new.device) (answer ≡ reply.Fault)) (sym c.reply_to_change.ensures) c.alter.ensures.cause
