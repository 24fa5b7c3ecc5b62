use Rattle.lt_tablet.proofs.Cut.{added_from}
use Rattle.lt_tablet.proofs.writer.TabletWriter.add.Goals as goal

pub returns-clause-added : goal.returns-clause-added
returns-clause-added g c = λ recs wrote. added_from g.V.Device.honest c.args.self.now c.fill.new.self c.note.new.self recs c.args.rec.now wrote (c.in_ok-fill.ensures.filled recs wrote) c.in_ok-fill.ensures.period
    (record { found = c.in_ok-note.ensures.found; last = c.in_ok-note.ensures.last; first = c.in_ok-note.ensures.first; same_first = c.in_ok-note.ensures.same_first; filling = c.in_ok-note.ensures.filling; keeps = c.in_ok-note.ensures.keeps }) c.ts-ts.ensures.lawful c.requires.above c.requires.in_period
