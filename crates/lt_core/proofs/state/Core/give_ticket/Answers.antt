use Rattle.std.proofs.Common.{arith}
use Rattle.lt_core.proofs.Given.{given_from, given_stands_from, given_table_from}
use Rattle.lt_core.proofs.state.Core.give_ticket.Goals as goal

pub invariant_of-self-2 : goal.invariant_of-self-2
invariant_of-self-2 g c = given_table_from _ _ g.V.Device.honest c.args.count _ _ c.lend_all-lents.new.anchor c.self.view_is c.self.invariant c.requires.room c.lend_all-lents.ensures.lent

pub returns-clause-given : goal.returns-clause-given
returns-clause-given g c = given_from _ _ c.args.count _ _ c.args.handed _ c.lend_all-lents.new.anchor c.self.view_is (omega (arith, c.in-Some.ensures)) c.in_ok-lent.ensures c.in_ok-push.ensures.items

pub returns-clause-stands : goal.returns-clause-stands
returns-clause-stands g c = given_stands_from g.V.Device.honest _ _ c.args.count _ _ c.args.handed _ c.lend_all-lents.new.anchor c.self.view_is (omega (arith, c.in-Some.ensures)) c.in_ok-lent.ensures c.in_ok-push.ensures.items c.requires.room c.lend_all-lents.ensures.lent
