use Rattle.std.proofs.Common.{List, ℕ, refl, ap}
use Rattle.std.specs.Prelude.{Some}
use Rattle.std.proofs.lemmas.Str.{is_utf8-from_IsUtf8}
use Rattle.lt_codec.proofs.Steps.{not_utf8}
use Rattle.lt_codec.proofs.taking.text_in.Goals as goal

pub returns-in-Ok : goal.returns-in-Ok
returns-in-Ok c = let is = is_utf8-from_IsUtf8 c.args.bytes.now c.in-Ok.ensures.cases.1 in rw is (ap (λ (s : List ℕ). Some s) c.in-Ok.ensures.cases.0)

pub returns-in-Err : goal.returns-in-Err
returns-in-Err c = let is = not_utf8 c.args.bytes.now c.in-Err.ensures.cases.0 in rw is refl
