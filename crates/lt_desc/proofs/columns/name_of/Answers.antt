use Rattle.std.proofs.lemmas.Str.{IsUtf8-from_ascii}
use Rattle.lt_desc.proofs.Names.{name_ascii}
use Rattle.lt_desc.proofs.columns.name_of.Goals as goal

pub unreachable-requires : goal.unreachable-requires
unreachable-requires c = let h = c.in-Err.ensures.cases in h.0 (IsUtf8-from_ascii c.args.bytes.now (name_ascii c.args.bytes.now c.requires))
