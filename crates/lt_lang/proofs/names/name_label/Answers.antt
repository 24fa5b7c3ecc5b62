use Rattle.std.proofs.lemmas.Str.{IsUtf8-from_ascii}
use Rattle.lt_lang.proofs.NameBytes.{name_ascii}
use Rattle.lt_lang.proofs.names.name_label.Goals as goal

pub unreachable-requires : goal.unreachable-requires
unreachable-requires c = let h = c.in-Err.ensures.cases in h.0 (IsUtf8-from_ascii c.args.name.now (name_ascii c.args.name.now c.requires))
