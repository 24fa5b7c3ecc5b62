use Rattle.std.proofs.lemmas.List.Elements.{Contains-get_or}
use Rattle.lt_memory.proofs.held.Held.get.Goals as goal

pub returns-then-not-may_have-clause-none : goal.returns-then-not-may_have-clause-none
returns-then-not-may_have-clause-none c = λ k d h same.
    let here = Contains-get_or c.args.self.now.recs k d h in
    c.may_have.ensures c.if-not-may_have.true _ here (c.requires.timed _ here same)
