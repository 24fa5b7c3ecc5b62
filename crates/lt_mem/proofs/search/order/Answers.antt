use Rattle.lt_mem.proofs.Order.{compared}
use Rattle.lt_mem.proofs.search.order.Goals as goal

pub returns : goal.returns
returns c = compared c.args.held.now c.args.key.now c.cmp.result c.cmp.ensures
