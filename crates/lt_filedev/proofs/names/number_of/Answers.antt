use Rattle.std.proofs.Common.{rules, arith}
use Rattle.std.proofs.lemmas.Fmt.{parse-decimal}
use Rattle.lt_filedev.proofs.names.number_of.Goals as goal

pub returns-in-Ok-clause-found : goal.returns-in-Ok-clause-found
returns-in-Ok-clause-found c =
    λ number small is.
    let read = parse-decimal 64 number _ _ (omega (arith, small)) (omega (arith, small)) is c.parse.ensures.value.0 in
    search (rules, small, is, read)

pub returns-in-Err-clause-found : goal.returns-in-Err-clause-found
returns-in-Err-clause-found c =
    λ number small is.
    absurd (cc (parse-decimal 64 number _ _ (omega (arith, small)) (omega (arith, small)) is c.parse.ensures.value.0))
