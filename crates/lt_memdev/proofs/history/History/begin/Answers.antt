use Rattle.std.proofs.Common.{◌<◌, ◌≤◌, ◌^◌, [], ◌∷◌, ◌++◌, IsSome, subst, sym, refl}
use Rattle.lt_io.specs.Directory.{raised}
use Rattle.lt_memdev.specs.History.{AllBelow, past_of, last_of, started}
use Rattle.lt_memdev.proofs.Numbers.{above_each, above_least}
use Rattle.lt_memdev.proofs.history.History.begin.Goals as goal

pub invariant_of-result : goal.invariant_of-result
invariant_of-result c =
    let start = started c.args.first c.args.begun in
    subst (λ log. AllBelow (past_of start log ++ raised (last_of start log) c.above-ceiling.result ∷ [])) (sym c.new-log.ensures.items) (
      record {
        each = λ number bytes e. subst (λ ceiling. number < ceiling) (sym c.above-ceiling.ensures) (above_each c.args.first number (subst IsSome (sym e) refl));
        in_range = subst (λ ceiling. ceiling ≤ 2 ^ 62) (sym c.above-ceiling.ensures) (above_least c.args.first (2 ^ 62) c.requires);
      },
      tt,
    )
