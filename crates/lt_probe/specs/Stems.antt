-- Whole stems, and parts of stems.
use Rattle.std.specs.Prelude.{Bool, true, false}
use Rattle.lt_probe.specs.declared.stem.Stem.{Stem}
use Rattle.lt_probe.specs.declared.stem.Stem.TheVariants.{Whole, Part}

abbrev pub is_whole : Stem → Bool
is_whole Whole = true
is_whole Part = false
