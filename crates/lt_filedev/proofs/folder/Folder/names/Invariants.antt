use Rattle.std.proofs.Common.{◌<◌, ◌^◌, All}
use Rattle.lt_filedev.proofs.folder.Folder.names.Given as goal

abbrev pub invariant-loop-entry : goal.invariant-loop-entry
invariant-loop-entry g l = All (λ number. number < 2 ^ 62) l.numbers.items
