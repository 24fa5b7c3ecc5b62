-- Refusals of look-ups.
use Rattle.std.specs.Prelude.{◌≡◌, List}
use Rattle.std.specs.List.{Any}
use Rattle.lt_tablet.specs.Loaded.{Loaded}
use Rattle.lt_tablet.specs.declared.errors.ReadError.{ReadError}
use Rattle.lt_tablet.specs.declared.errors.ReadError.TheVariants.{Bad, Fault, NoMemory}

-- a file that breaks a rule is that of one of the tablets
abbrev pub IsOfOne : List Loaded → ReadError → Type 0
IsOfOne tablets (Bad file at) = Any (λ t. file ≡ t.listed.file) tablets
IsOfOne tablets Fault = Unit {0}
IsOfOne tablets NoMemory = Unit {0}
