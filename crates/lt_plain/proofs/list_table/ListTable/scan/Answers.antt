use Rattle.std.proofs.Common.{◌≡◌, ℕ, IsTrue, List, None, sym, ◌∙◌, ap, subst, rules}
use Rattle.lt_schema.specs.Shapes.{SchemaShape}
use Rattle.lt_schema.specs.Versions.{newest}
use Rattle.lt_command.specs.declared.command.Command.TheVariants.{Scan}
use Rattle.lt_command.specs.declared.reply.Reply.TheVariants.{Rows}
use Rattle.lt_model.specs.History.{Numbered, Opening}
use Rattle.lt_model.specs.Readings.{bound_at}
use Rattle.lt_model.specs.Boxes.{is_limit, query_fault}
use Rattle.lt_plain.specs.Table.{Answers, IsPage}
use Rattle.lt_plain.proofs.Steps.{answers_rows}
use Rattle.lt_plain.proofs.list_table.ListTable.scan.Goals as goal

pub returns-clause-answered : goal.returns-clause-answered
returns-clause-answered c =
    let inside = c.self.inside in
    let held : Opening = record { schemas = inside.schemas; ttl = inside.ttl; low = inside.low; next = inside.next; kept = inside.kept; rows = inside.rows.items } in
    let query = c.args.query.now in
    let now = c.args.now in
    let page = c.in_ok-page.page in
    let right : IsTrue (is_limit query.limit) = search rules in
    let bounds : query_fault (newest held.schemas) query ≡ None = ap (λ (schema : SchemaShape). query_fault schema query) (sym c.newest.ensures.value) ∙ sym c.query_fault.ensures ∙ c.in_default.is in
    let bound : c.since-since.result ≡ bound_at held.ttl held.low now = c.since-since.ensures ∙ ap (λ (o : Opening). bound_at o.ttl o.low now) (sym c.self.view_is) in
    let shown : IsPage held.schemas query (bound_at held.ttl held.low now) held.rows page.rows page.more =
    subst (λ (rows : List Numbered). IsPage held.schemas query (bound_at held.ttl held.low now) rows page.rows page.more) c.as_slice.ensures.value
    (subst (λ (since : ℕ). IsPage held.schemas query since c.as_slice.result.now page.rows page.more) bound c.in_ok-page.ensures) in
    subst (λ (o : Opening). Answers o o now (Scan query) (Rows page.rows page.more held.next c.since-since.result)) c.self.view_is
    (subst (λ (since : ℕ). Answers held held now (Scan query) (Rows page.rows page.more held.next since)) (sym bound) (answers_rows held query now page.rows page.more right bounds shown))
