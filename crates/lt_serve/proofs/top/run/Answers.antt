use Rattle.std.proofs.Common.{ℕ, List, Option, map, string_bytes, subst, inl, rules}
use Rattle.lt_serve.specs.Made.{OwesTable}
use Rattle.lt_serve.proofs.SeveralWords.{one_creation, either_form}
use Rattle.lt_serve.proofs.top.run.Goals as goal

pub returns-then-is_run-clause-usage : goal.returns-then-is_run-clause-usage
returns-then-is_run-clause-usage g c = (λ is form. absurd (c.serve.ensures.form is), λ no. absurd (no (inl (c.is_run.ensures.0 (search rules)))))

pub returns-then-is_run-clause-making : goal.returns-then-is_run-clause-making
returns-then-is_run-clause-making g c = λ text ttl asks. absurd (either_form (map string_bytes c.args.words.now) text ttl (c.is_run.ensures.0 (search rules)) asks)

pub returns-in-Some-clause-making : goal.returns-in-Some-clause-making
returns-in-Some-clause-making g c = λ text ttl asks.
    let same = one_creation (map string_bytes c.args.words.now) c.in-Some.asked.schema.now text c.in-Some.asked.ttl ttl c.in-Some.ensures.read asks in
    let owes : List ℕ → Option ℕ → Type 0 = λ text ttl. OwesTable g.V.Device.honest text ttl (g.V.Device.directory c.args.dir) (g.V.Device.directory c.create.result.1)
    (g.K.Sink.held c.args.sink.now) (g.K.Sink.held c.create.new.sink) (g.K.Sink.faults c.args.sink.now) (g.K.Sink.faults c.create.new.sink) c.create.result.0 in
    subst (λ (text : List ℕ). owes text ttl) same.0 (subst (owes c.in-Some.asked.schema.now) same.1 c.create.ensures.owes)
