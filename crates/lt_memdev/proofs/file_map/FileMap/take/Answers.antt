use Rattle.std.proofs.Common.{None}
use Rattle.lt_memdev.proofs.Numbers.{puts}
use Rattle.lt_memdev.proofs.file_map.FileMap.take.Goals as goal

pub returns : goal.returns
returns c = rw (← c.self.view_is) (puts c.args.number None c.self.inside.files.entries c.remove.new.self.entries c.remove.ensures.updates.0)
