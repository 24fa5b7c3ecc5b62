use Rattle.std.proofs.Common.{◌≡◌, ℕ, ◌+◌, ◌++◌, ◌∷◌, [], length-append, sym, ◌∙◌, ap, subst}
use Rattle.lt_schema.specs.Versions.{newest_version}
use Rattle.lt_command.specs.declared.command.Command.TheVariants.{Alter}
use Rattle.lt_command.specs.declared.reply.Reply.TheVariants.{Version}
use Rattle.lt_model.specs.History.{Opening}
use Rattle.lt_plain.specs.Table.{Answers, with_change}
use Rattle.lt_plain.proofs.Steps.{answers_version}
use Rattle.lt_plain.proofs.list_table.ListTable.replace_schemas.Goals as goal

pub returns-clause-answered : goal.returns-clause-answered
returns-clause-answered c = λ change now admitted is.
    let held = c.args.self.now in
    let version : newest_version held.schemas + 1 ≡ c.from-version.result =
    sym (length-append held.schemas.changes (change ∷ [])) ∙ ap (λ (o : Opening). newest_version o.schemas) (sym is) ∙ sym c.newest_version.ensures.value ∙ sym c.from-version.ensures in
    subst (λ (o : Opening). Answers held o now (Alter change) (Version c.from-version.result)) (sym is)
    (subst (λ (number : ℕ). Answers held (with_change held change) now (Alter change) (Version number)) version (answers_version held change now admitted))
