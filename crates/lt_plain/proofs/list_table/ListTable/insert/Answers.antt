use Rattle.std.proofs.Common.{◌≡◌, ◌≢◌, List, sym, ◌∙◌, ap, subst, arith}
use Rattle.std.specs.Prelude.{All}
use Rattle.lt_schema.specs.declared.value.Value.{Value}
use Rattle.lt_schema.specs.Shapes.{SchemaShape}
use Rattle.lt_schema.specs.Versions.{newest}
use Rattle.lt_schema.specs.Check.{Passes, row_fault, key_of, time_of}
use Rattle.lt_command.specs.declared.command.Command.TheVariants.{Insert}
use Rattle.lt_command.specs.declared.reply.Reply.TheVariants.{Inserted}
use Rattle.lt_model.specs.History.{Numbered, Opening}
use Rattle.lt_model.specs.Readings.{bound_at}
use Rattle.lt_plain.specs.Table.{Answers, MayAdd, with_row}
use Rattle.lt_plain.proofs.Steps.{answers_inserted}
use Rattle.lt_plain.proofs.list_table.ListTable.insert.Goals as goal

pub returns-clause-answered : goal.returns-clause-answered
returns-clause-answered c =
    let inside = c.self.inside in
    let held : Opening = record { schemas = inside.schemas; ttl = inside.ttl; low = inside.low; next = inside.next; kept = inside.kept; rows = inside.rows.items } in
    let row = c.args.row in
    let now = c.args.now in
    let passes : Passes (newest held.schemas) row = ap (λ (schema : SchemaShape). row_fault schema row) (sym c.newest.ensures.value) ∙ ap (row_fault c.newest.result.now) (sym c.as_slice.ensures) ∙ c.in_default.ensures.exact in
    let bound : c.since-since.result ≡ bound_at held.ttl held.low now = c.since-since.ensures ∙ ap (λ (o : Opening). bound_at o.ttl o.low now) (sym c.self.view_is) in
    let time : c.time.result ≡ time_of held.schemas.first row =
    c.time.ensures ∙ ap (λ (schema : SchemaShape). time_of schema c.as_slice-2.result.now) c.first-schema.ensures.value ∙ ap (time_of held.schemas.first) c.as_slice-2.ensures in
    let new_key : All (λ (other : Numbered). key_of held.schemas.first other.row ≢ key_of held.schemas.first row) held.rows =
    subst (λ (schema : SchemaShape). All (λ (other : Numbered). key_of schema other.row ≢ key_of schema row) held.rows) c.first-schema.ensures.value
    (subst (λ (own : List Value). All (λ (other : Numbered). key_of c.first-schema.result.now other.row ≢ key_of c.first-schema.result.now own) held.rows) c.as_slice-4.ensures
    (subst (λ (rows : List Numbered). All (λ (other : Numbered). key_of c.first-schema.result.now other.row ≢ key_of c.first-schema.result.now c.as_slice-4.result.now) rows) c.as_slice-3.ensures.value
    c.in_default-number_of.ensures.absent)) in
    let may : MayAdd held row now = record { passes = passes; unexpired = omega (arith, bound, time); new_key = new_key; room = omega arith } in
    subst (λ (o : Opening). Answers o c.push.new.self now (Insert row) (Inserted held.next)) c.self.view_is
    (subst (λ (new : Opening). Answers held new now (Insert row) (Inserted held.next)) (ap (λ (o : Opening). with_row o row) c.self.view_is ∙ sym c.in_ok-push.ensures.pushed) (answers_inserted held row now may))
