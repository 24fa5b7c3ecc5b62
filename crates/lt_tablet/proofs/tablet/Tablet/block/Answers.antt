use Rattle.lt_tablet.specs.Loaded.{Loaded}
use Rattle.lt_tablet.proofs.Places.{tablet_lies, tablet_block, tablet_never_bad}
use Rattle.lt_tablet.proofs.tablet.Tablet.block.Goals as goal

pub read_block-requires-clause-within : goal.read_block-requires-clause-within
read_block-requires-clause-within g c κs within =
    let t : Loaded = record { listed = c.self.inside.listed; index = c.self.inside.index.items; filter = c.self.inside.filter; bytes = g.V.Device.reader_bytes c.self.inside.reader } in
    (tablet_lies g.V.Device.honest (g.V.Device.reader_number c.self.inside.reader) (g.V.Device.reader_size c.self.inside.reader) t c.args.self.now c.args.i c.index-entry.result.now c.self.view_is c.self.invariant c.requires c.index-entry.ensures).within

pub read_block-requires-clause-in_range : goal.read_block-requires-clause-in_range
read_block-requires-clause-in_range g c κs within = c.self.invariant.in_range

pub read_block-requires-clause-short : goal.read_block-requires-clause-short
read_block-requires-clause-short g c κs within =
    let t : Loaded = record { listed = c.self.inside.listed; index = c.self.inside.index.items; filter = c.self.inside.filter; bytes = g.V.Device.reader_bytes c.self.inside.reader } in
    (tablet_lies g.V.Device.honest (g.V.Device.reader_number c.self.inside.reader) (g.V.Device.reader_size c.self.inside.reader) t c.args.self.now c.args.i c.index-entry.result.now c.self.view_is c.self.invariant c.requires c.index-entry.ensures).short

pub read_block-requires-clause-some : goal.read_block-requires-clause-some
read_block-requires-clause-some g c κs within =
    let t : Loaded = record { listed = c.self.inside.listed; index = c.self.inside.index.items; filter = c.self.inside.filter; bytes = g.V.Device.reader_bytes c.self.inside.reader } in
    (tablet_lies g.V.Device.honest (g.V.Device.reader_number c.self.inside.reader) (g.V.Device.reader_size c.self.inside.reader) t c.args.self.now c.args.i c.index-entry.result.now c.self.view_is c.self.invariant c.requires c.index-entry.ensures).some

pub returns-clause-value : goal.returns-clause-value
returns-clause-value g c = λ honest.
    let t : Loaded = record { listed = c.self.inside.listed; index = c.self.inside.index.items; filter = c.self.inside.filter; bytes = g.V.Device.reader_bytes c.self.inside.reader } in
    tablet_block g.V.Device.honest (g.V.Device.reader_number c.self.inside.reader) (g.V.Device.reader_size c.self.inside.reader) t c.args.self.now c.args.i c.index-entry.result.now c.read_block.result c.self.view_is c.self.invariant c.requires c.index-entry.ensures honest (c.read_block.ensures.exact honest)

pub returns-clause-never_bad : goal.returns-clause-never_bad
returns-clause-never_bad g c = λ honest.
    let t : Loaded = record { listed = c.self.inside.listed; index = c.self.inside.index.items; filter = c.self.inside.filter; bytes = g.V.Device.reader_bytes c.self.inside.reader } in
    tablet_never_bad g.V.Device.honest (g.V.Device.reader_number c.self.inside.reader) (g.V.Device.reader_size c.self.inside.reader) t c.args.self.now c.args.i c.index-entry.result.now c.read_block.result c.self.view_is c.self.invariant c.requires c.index-entry.ensures honest (c.read_block.ensures.exact honest)
