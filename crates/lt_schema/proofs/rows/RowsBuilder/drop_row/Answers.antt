use Rattle.std.proofs.Common.{◌≡◌, ◌≤◌, List, length, take, sym, subst, arith}
use Rattle.std.specs.List.{All}
use Rattle.std.proofs.lemmas.List.{length-take-le}
use Rattle.lt_schema.specs.declared.value.Value.{Value}
use Rattle.lt_schema.specs.Placing.{EndsBy}
use Rattle.lt_schema.proofs.Buffers.{row_dropped}
use Rattle.lt_schema.proofs.rows.RowsBuilder.drop_row.Goals as goal

pub invariant_of-self : goal.invariant_of-self
invariant_of-self c =
    let within : c.self.inside.begin ≤ length c.self.inside.values = c.self.invariant.1 in
    let kept : c.self.inside.begin ≤ length (take c.self.inside.begin c.self.inside.values) = rw (length-take-le c.self.inside.begin c.self.inside.values within) (omega arith) in
    (c.self.invariant.0, subst (λ (all : List Value). c.self.inside.begin ≤ length all) (sym c.truncate.ensures) kept)

pub returns : goal.returns
returns c = rw (c.truncate.ensures, ← c.self.view_is) (row_dropped c.self.inside.values c.self.inside.begin c.self.inside.places.items c.self.invariant.0 c.self.invariant.1)
