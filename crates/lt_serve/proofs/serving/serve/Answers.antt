use Rattle.std.proofs.Common.{List, ℕ, Ok, Err, refl, subst}
use Rattle.lt_serve.specs.Ended.{OwesAnswer}
use Rattle.lt_serve.specs.Status.{IsToldAs}
use Rattle.lt_serve.specs.declared.status.Status.{Status}
use Rattle.lt_serve.proofs.serving.serve.Goals as goal

pub returns-in-Ok-clause-owes : goal.returns-in-Ok-clause-owes
returns-in-Ok-clause-owes g c =
    let said = c.in-Ok.ensures in
    record {
      read = Ok c.in-Ok.input;
      reads = record { whole = said.whole; within = said.within; to_the_end = said.to_the_end; too_long = said.too_long };
      answers = subst (λ (input : List ℕ). OwesAnswer g.V.Device.honest (g.C.Clock.shows c.args.clock.now) input (g.V.Device.directory c.args.dir) (g.V.Device.directory c.answer.result.1)
          (g.V.Device.faults c.args.device.now) (g.V.Device.faults c.answer.new.device) (g.K.Sink.held c.args.sink.now) (g.K.Sink.held c.answer.new.sink) (g.K.Sink.faults c.args.sink.now) (g.K.Sink.faults c.answer.new.sink) c.answer.result.0)
          c.as_slice.ensures c.answer.ensures.owes;
      unread = tt;
    }

pub returns-in-Err-clause-owes : goal.returns-in-Err-clause-owes
returns-in-Err-clause-owes g c =
    let said = c.in-Err.ensures in
    record {
      read = Err c.in-Err.why;
      reads = record { whole = said.whole; within = said.within; to_the_end = said.to_the_end; too_long = said.too_long };
      answers = tt;
      unread = (refl, subst (λ (status : Status). IsToldAs status c.refuse.result) c.from.ensures c.refuse.ensures.told);
    }
