use Rattle.std.proofs.Common.{◌↔◌, Contains, IsSome, sym, subst}
use Rattle.lt_io.specs.Directory.{file_at}
use Rattle.lt_memdev.proofs.Kept.{listed, listed_below}
use Rattle.lt_memdev.proofs.device.MemDeviceDevice.list.Goals as goal

pub returns-clause-above : goal.returns-clause-above
returns-clause-above c =
    let directory = c.args.dir.now.directory in
    listed_below c.in_ok-files.files directory.seen directory.now c.ceiling-ceiling.result c.in_ok-files.ensures.numbers c.ceiling-ceiling.ensures.ceiling c.ceiling-ceiling.ensures.possible

pub returns-clause-files : goal.returns-clause-files
returns-clause-files c = λ number. subst (λ numbers. Contains numbers number ↔ IsSome (file_at c.args.dir.now.directory.seen.files number)) (sym c.in_ok-files.ensures.numbers) (listed c.args.dir.now.directory.seen.files number)
