use Rattle.std.proofs.Common.{◌≡◌, true, List, ℕ, subst}
use Rattle.lt_rec.specs.Closure.{has}
use Rattle.lt_memory.specs.Waiting.{is_due}
use Rattle.lt_memory.proofs.Numbers.{numbers_kept}
use Rattle.lt_memory.proofs.going.numbers_named.Goals as goal

pub returns-in_ok-due-in-Due-clause-held : goal.returns-in_ok-due-in-Due-clause-held
returns-in_ok-due-in-Due-clause-held c = λ n e.
    numbers_kept (is_due c.in-Due.now) c.args.tablets.now n (subst (λ (ns : List ℕ). has ns n ≡ true) c.in_ok-due-in-Due.ensures e)
