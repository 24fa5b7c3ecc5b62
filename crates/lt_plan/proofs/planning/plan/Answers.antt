use Rattle.std.proofs.Common.{◌∙◌, List, ap, subst, drop, get_or}
use Rattle.lt_period.specs.Moments.{period_at}
use Rattle.lt_plan.specs.declared.tablets.Weigh.{Weigh}
use Rattle.lt_plan.specs.Merging.{IsLongest}
use Rattle.lt_plan.proofs.Pairs.{more_than_one}
use Rattle.lt_plan.proofs.planning.plan.Goals as goal

pub returns-clause-run : goal.returns-clause-run
returns-clause-run c =
    let begins = c.in_ok-first.ensures.begins in
    let none : Weigh = record { file = 0; low = 0; high = 0; bytes = 0 } in
    let home = c.period_of.result in
    let longest = subst (λ (ws : List Weigh). IsLongest c.args.now home ws c.longest-count.result) c.split_at.ensures.back c.longest-count.ensures in
    record {
      begins = begins;
      least = c.in_ok-first.ensures.least;
      home = home;
      longest = longest;
      more_than_one = more_than_one c.args.now home (drop c.in_ok-first.first c.args.list.now) c.longest-count.result none begins (c.period_of.ensures.exact ∙ ap (λ (ws : List Weigh). period_at (get_or ws 0 none).low c.args.now) c.split_at.ensures.back) longest;
    }
