use Rattle.std.proofs.Common.{◌≡◌, List, ap, ◌∙◌}
use Rattle.std.proofs.lemmas.Result.{on_ok_weaker}
use Rattle.lt_schema.specs.declared.value.Value.{Value}
use Rattle.lt_schema.specs.Packing.{value_of}
use Rattle.lt_schema.specs.Placing.{so_far}
use Rattle.lt_schema.proofs.Buffers.{value_pushed}
use Rattle.lt_schema.proofs.rows.RowsBuilder.push.Goals as goal

pub returns-clause-pushed : goal.returns-clause-pushed
returns-clause-pushed c =
    let values = c.self.inside.values in
    let begin = c.self.inside.begin in
    let places = c.self.inside.places.items in
    let grown = value_pushed values (value_of c.args.value) begin places c.self.invariant.0 c.self.invariant.1 in
    on_ok_weaker c.push.result (λ pushed. rw (← c.self.view_is) (ap (λ (all : List Value). so_far all places begin) pushed ∙ grown)) c.push.ensures.pushed
