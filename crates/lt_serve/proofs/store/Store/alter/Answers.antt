use Rattle.std.proofs.Common.{◌≡◌, ◌≤◌, ◌+◌, Some, Err, sym, ◌∙◌, ap, subst, rules}
use Rattle.lt_schema.specs.Versions.{SchemaVersions, newest, alter_refusal}
use Rattle.lt_command.specs.declared.reply.Reply.{Reply}
use Rattle.lt_command.specs.declared.reply.Reply.TheVariants as reply
use Rattle.lt_commit.specs.declared.errors.CommitError.{CommitError}
use Rattle.lt_model.specs.History.{Opening}
use Rattle.lt_plain.specs.Table.{IsUndamaged}
use Rattle.lt_plain.proofs.Steps.{answers_refused}
use Rattle.lt_serve.specs.Kept.{told_by_change, altered_reply, commit_reply, changed_by, StaysKept}
use Rattle.lt_serve.specs.Growing.{number_weight}
use Rattle.lt_serve.proofs.Replied.{unpublished_so}
use Rattle.lt_serve.proofs.Renewing.{stays_none, stays_refused, stays_made, stays_as}
use Rattle.lt_serve.proofs.store.Store.alter.Goals as goal

pub returns-in-Err-clause-answered : goal.returns-in-Err-clause-answered
returns-in-Err-clause-answered g c = λ now.
    let is : alter_refusal (newest c.args.self.now.table.schemas) c.args.change.now ≡ Some c.in-Err.why =
    subst (λ (v : SchemaVersions). alter_refusal (newest v) c.args.change.now ≡ Some c.in-Err.why) c.schemas.ensures c.in-Err.ensures.exact in
    answers_refused c.args.self.now.table c.args.change.now c.in-Err.why now is

pub returns-in-Err-clause-kept : goal.returns-in-Err-clause-kept
returns-in-Err-clause-kept g c = λ told versions. stays_none g.V.Device.honest c.args.self.now.table told c.args.self.now.anchor.directory versions

pub returns-in_err-schemas-clause-kept : goal.returns-in_err-schemas-clause-kept
returns-in_err-schemas-clause-kept g c = λ told versions.
    let is : altered_reply c.from_residual.result ≡ reply.NoMemory = search rules in
    stays_as g.V.Device.honest c.args.self.now.table c.args.self.now.table told c.args.change.now _ reply.NoMemory c.args.self.now.anchor.directory c.args.self.now.anchor.directory is
    (stays_none g.V.Device.honest c.args.self.now.table told c.args.self.now.anchor.directory versions)

pub returns-in_err-clone-clause-kept : goal.returns-in_err-clone-clause-kept
returns-in_err-clone-clause-kept g c = λ told versions.
    let is : altered_reply c.from_residual-in_err-clone.result ≡ reply.NoMemory = search rules in
    stays_as g.V.Device.honest c.args.self.now.table c.args.self.now.table told c.args.change.now _ reply.NoMemory c.args.self.now.anchor.directory c.args.self.now.anchor.directory is
    (stays_none g.V.Device.honest c.args.self.now.table told c.args.self.now.anchor.directory versions)

pub returns-in_err-publish-clause-answered : goal.returns-in_err-publish-clause-answered
returns-in_err-publish-clause-answered g c = λ now.
    let is : c.from_residual-in_err-publish.result ≡ Err c.in_err-publish.field-0.0 = search rules in
    unpublished_so c.args.self.now.table c.publish.new.self.table c.args.change.now now c.from_residual-in_err-publish.result c.in_err-publish.field-0.0 is c.publish.ensures.table

pub returns-in_err-publish-clause-kept : goal.returns-in_err-publish-clause-kept
returns-in_err-publish-clause-kept g c = λ told versions.
    let held = c.args.self.now.table in
    let why = c.in_err-publish.field-0.0 in
    let is : c.from_residual-in_err-publish.result ≡ Err why = search rules in
    let failed : c.publish.result ≡ Err why = search rules in
    let copied : c.in_ok-clone.field-0 ≡ c.in_ok-schemas.schemas = search rules in
    let changed : c.in_ok-schemas.schemas ≡ changed_by held.schemas c.args.change.now =
    c.in_ok-schemas.ensures.value ∙ ap (λ (v : SchemaVersions). changed_by v c.args.change.now) c.schemas-2.ensures in
    subst (λ (o : Opening). StaysKept g.V.Device.honest held o told (told_by_change c.args.change.now (altered_reply c.from_residual-in_err-publish.result) told) c.args.self.now.anchor.directory c.publish.new.self.anchor.directory) (sym c.publish.ensures.table)
    (stays_as g.V.Device.honest held held told c.args.change.now _ (commit_reply why) c.args.self.now.anchor.directory c.publish.new.self.anchor.directory (ap altered_reply is)
    (stays_refused g.V.Device.honest held told c.args.change.now c.in_ok-clone.field-0 why c.args.self.now.anchor.directory c.publish.new.self.anchor.directory c.args.self.now.next_file versions (copied ∙ changed)
    c.publish.ensures.any_moment
    (λ h none. c.publish.ensures.only_lent h (failed ∙ ap (λ (e : CommitError). Err e) none))
    (λ spent. c.publish.ensures.spent_none (failed ∙ ap (λ (e : CommitError). Err e) spent))))

pub returns-clause-kept : goal.returns-clause-kept
returns-clause-kept g c = λ told versions.
    let held = c.args.self.now.table in
    let copied : c.in_ok-clone.field-0 ≡ c.in_ok-schemas.schemas = search rules in
    let changed : c.in_ok-schemas.schemas ≡ changed_by held.schemas c.args.change.now =
    c.in_ok-schemas.ensures.value ∙ ap (λ (v : SchemaVersions). changed_by v c.args.change.now) c.schemas-2.ensures in
    let is : c.replace_schemas.new.self ≡ record held { schemas = c.in_ok-clone.field-0 } =
    c.replace_schemas.ensures.replaced ∙ ap (λ (o : Opening). record o { schemas = c.in_ok-schemas.schemas }) c.publish.ensures.table ∙ ap (λ (v : SchemaVersions). record held { schemas = v }) (sym copied) in
    stays_as g.V.Device.honest held c.replace_schemas.new.self told c.args.change.now c.replace_schemas.result _ c.args.self.now.anchor.directory c.publish.new.self.anchor.directory c.replace_schemas.ensures.version
    (stays_made g.V.Device.honest held c.replace_schemas.new.self told c.args.change.now c.in_ok-clone.field-0 c.args.self.now.anchor.directory c.publish.new.self.anchor.directory versions (copied ∙ changed) is
    c.publish.ensures.any_moment c.in_ok-publish.ensures.published)

pub returns-clause-undamaged : goal.returns-clause-undamaged
returns-clause-undamaged g c = subst IsUndamaged (sym c.replace_schemas.ensures.version) tt

pub returns-clause-numbers : goal.returns-clause-numbers
returns-clause-numbers g c =
    subst (λ (answer : Reply). c.publish.new.self.next_file ≤ c.args.self.now.next_file + number_weight answer) (sym c.replace_schemas.ensures.version) c.in_ok-publish.ensures.used
