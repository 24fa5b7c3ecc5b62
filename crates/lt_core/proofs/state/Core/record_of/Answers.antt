use Rattle.std.proofs.Common.{◌∙◌, ap, arith}
use Rattle.lt_schema.specs.Versions.{newest, newest_version}
use Rattle.lt_core.proofs.Recorded.{Made, made_from}
use Rattle.lt_core.proofs.state.Core.record_of.Goals as goal

pub returns-then-ts-since-clause-refusal : goal.returns-then-ts-since-clause-refusal
returns-then-ts-since-clause-refusal g c =
    let m : Made c.args.self.now c.args.row.now c.in_ok-rec.rec =
    made_from c.rows_are_read_back.ensures.back _ c.args.self.now c.newest-schema.result.now c.newest_version-ver.result c.min-seq.result c.args.row.now c.in_ok-rec.rec c.self.view_is
    (c.newest-schema.ensures.value ∙ ap newest c.deref.ensures) (c.newest_version-ver.ensures.value ∙ ap newest_version c.deref-2.ensures) (omega (arith, c.min-seq.ensures)) c.in_ok-rec.ensures.value
    c.check.ensures.lawful c.in_ok-check.ensures.exact c.in_ok-rec.ensures.words c.in_ok-rec.ensures.texts in
    record { passes = m.passes; bound_is = c.since-since.ensures; older = omega (arith, m.time_is, c.ts.ensures.value, c.if-ts-since.true) }

pub returns-clause-is : goal.returns-clause-is
returns-clause-is g c =
    let m : Made c.args.self.now c.args.row.now c.in_ok-rec.rec =
    made_from c.rows_are_read_back.ensures.back _ c.args.self.now c.newest-schema.result.now c.newest_version-ver.result c.min-seq.result c.args.row.now c.in_ok-rec.rec c.self.view_is
    (c.newest-schema.ensures.value ∙ ap newest c.deref.ensures) (c.newest_version-ver.ensures.value ∙ ap newest_version c.deref-2.ensures) (omega (arith, c.min-seq.ensures)) c.in_ok-rec.ensures.value
    c.check.ensures.lawful c.in_ok-check.ensures.exact c.in_ok-rec.ensures.words c.in_ok-rec.ensures.texts in
    m.is

pub returns-clause-timely : goal.returns-clause-timely
returns-clause-timely g c =
    let m : Made c.args.self.now c.args.row.now c.in_ok-rec.rec =
    made_from c.rows_are_read_back.ensures.back _ c.args.self.now c.newest-schema.result.now c.newest_version-ver.result c.min-seq.result c.args.row.now c.in_ok-rec.rec c.self.view_is
    (c.newest-schema.ensures.value ∙ ap newest c.deref.ensures) (c.newest_version-ver.ensures.value ∙ ap newest_version c.deref-2.ensures) (omega (arith, c.min-seq.ensures)) c.in_ok-rec.ensures.value
    c.check.ensures.lawful c.in_ok-check.ensures.exact c.in_ok-rec.ensures.words c.in_ok-rec.ensures.texts in
    omega (arith, m.time_is, c.ts.ensures.value, c.if-ts-since.false, c.since-since.ensures)
