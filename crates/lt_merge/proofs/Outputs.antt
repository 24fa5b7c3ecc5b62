-- Outputs, one more at a time.
use Rattle.std.proofs.Common.{Bool, List, [], ◌∷◌, ◌++◌}
use Rattle.lt_merge.specs.Flushing.{Part, Output, IsOutput, AreOutputs}

pub outputs_push : (honest : Bool) (parts : List Part) (outputs : List Output) (part : Part) (output : Output) → AreOutputs honest parts outputs → IsOutput honest part output
    → AreOutputs honest (parts ++ part ∷ []) (outputs ++ output ∷ [])
outputs_push honest [] [] part output are is = (is, tt)
outputs_push honest [] (o ∷ os) part output are is = absurd are
outputs_push honest (p ∷ ps) [] part output are is = absurd are
outputs_push honest (p ∷ ps) (o ∷ os) part output are is = (are.0, outputs_push honest ps os part output are.1 is)
