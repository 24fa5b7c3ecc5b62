use Rattle.std.proofs.Common.{rules}
use Rattle.std.specs.Prelude.{not, nat_eq}
use Rattle.std.proofs.lemmas.Fn.{filter_same}
use Rattle.lt_state.specs.State.{Ticket}
use Rattle.lt_core.proofs.Released.{released_from, released_stands_from}
use Rattle.lt_core.proofs.state.Core.release.Goals as goal

pub returns-clause-released : goal.returns-clause-released
returns-clause-released g c = released_from _ _ c.args.ticket.number _ c.self.view_is (filter_same _ (λ (t : Ticket). not (nat_eq t.number c.args.ticket.number)) _ (λ x b f' k. search rules) _ _ c.retain.ensures.filtered)

pub returns-clause-stands : goal.returns-clause-stands
returns-clause-stands g c = released_stands_from g.V.Device.honest _ _ c.args.ticket.number _ c.self.view_is (filter_same _ (λ (t : Ticket). not (nat_eq t.number c.args.ticket.number)) _ (λ x b f' k. search rules) _ _ c.retain.ensures.filtered)
