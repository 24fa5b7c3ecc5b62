use Rattle.std.proofs.Common.{Some}
use Rattle.lt_memdev.proofs.Numbers.{puts}
use Rattle.lt_memdev.proofs.file_map.FileMap.put.Goals as goal

pub returns-clause-ok : goal.returns-clause-ok
returns-clause-ok c = rw (← c.self.view_is) (puts c.args.number (Some c.args.content) c.self.inside.files.entries c.insert.new.self.entries c.in_ok-insert.ensures.updates.0)
