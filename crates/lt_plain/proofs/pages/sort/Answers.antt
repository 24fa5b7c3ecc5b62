use Rattle.std.proofs.Common.{rules, is_lt}
use Rattle.std.proofs.lemmas.Fn.{always_returns_same}
use Rattle.lt_plain.specs.Table.{numbered_cmp}
use Rattle.lt_plain.proofs.Paging.{numbered_ranks}
use Rattle.lt_plain.proofs.pages.sort.Goals as goal

pub returns-clause-sorted : goal.returns-clause-sorted
returns-clause-sorted c =
    c.in_ok-sort_by.ensures.sorted (λ a b. is_lt (numbered_cmp c.args.schema.now c.args.down a.now b.now)) (numbered_ranks c.args.schema.now c.args.down) (always_returns_same _ _ _ (λ a r f k. search rules))
