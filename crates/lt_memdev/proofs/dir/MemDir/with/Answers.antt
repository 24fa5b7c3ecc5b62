use Rattle.std.proofs.Common.{◌^◌}
use Rattle.lt_memdev.proofs.Numbers.{in_range}
use Rattle.lt_memdev.proofs.dir.MemDir.with.Goals as goal

pub holding-requires : goal.holding-requires
holding-requires c = in_range c.args.files.now c.in_ok-held.held (2 ^ 62) c.requires c.in_ok-held.ensures
