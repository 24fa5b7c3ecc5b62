use Rattle.std.proofs.Common.{◌≡◌, take, map, ap, sym, ◌∙◌}
use Rattle.std.proofs.lemmas.List.{take-map}
use Rattle.lt_schema.specs.Packing.{value_in}
use Rattle.lt_schema.proofs.packed.Packed.truncate.Goals as goal

pub returns : goal.returns
returns c = rw (c.truncate.ensures.items, ← c.self.view_is) (sym (take-map (value_in c.self.inside.bytes.items) c.args.len c.self.inside.slots.items))
