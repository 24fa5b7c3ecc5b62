use Rattle.std.proofs.Common.{◌≡◌, true, sym, subst, Bool}
use Rattle.std.specs.Ordering.{MatchOrdering}
use Rattle.lt_kway.specs.Heads.{is_before}
use Rattle.lt_kway.proofs.Order.{compared, compared_back}
use Rattle.lt_kway.proofs.place.order.Goals as goal

pub returns-then-down : goal.returns-then-down
returns-then-down c =
    let held = c.args.held.now in
    let key = c.args.key.now in
    subst (λ (d : Bool). MatchOrdering c.cmp.result (is_before d key held ≡ true) (held ≡ key) (is_before d held key ≡ true)) (sym c.if-down.true) (compared held key c.cmp.result c.cmp.ensures)

pub returns-else-down : goal.returns-else-down
returns-else-down c =
    let held = c.args.held.now in
    let key = c.args.key.now in
    subst (λ (d : Bool). MatchOrdering c.cmp-else-down.result (is_before d key held ≡ true) (held ≡ key) (is_before d held key ≡ true)) (sym c.if-down.false) (compared_back key held c.cmp-else-down.result c.cmp-else-down.ensures)
