use Rattle.std.proofs.Common.{◌≡◌, ◌<◌, ◌+◌, ◌^◌, ◌∙◌, None, Err, ap, sym, subst, arith, rules}
use Rattle.std.specs.Prelude.{ℕ, Result}
use Rattle.lt_schema.specs.Versions.{SchemaVersions, newest, alter_refusal}
use Rattle.lt_trace.specs.Elements.{grown}
use Rattle.lt_state.specs.State.{Core, listing}
use Rattle.lt_state.specs.Stands.{StandsFor}
use Rattle.lt_events.specs.Cores.{with_change, changed_stone}
use Rattle.lt_core.specs.Adds.{alter_adds}
use Rattle.lt_core.specs.Causes.{commit_refusal}
use Rattle.lt_core.specs.declared.errors.CoreAlterError.{CoreAlterError}
use Rattle.lt_core.specs.declared.errors.CoreAlterError.TheVariants as alter_errors
use Rattle.lt_core.proofs.Changed.{stands_still, changed_stands_from, failed_stands}
use Rattle.lt_core.proofs.state.Core.alter.Goals as goal

pub returns-in_err-schemas-2-clause-stands : goal.returns-in_err-schemas-2-clause-stands
returns-in_err-schemas-2-clause-stands g c = λ s stands.
    let is : c.from_residual-in_err-schemas-2.result ≡ Err alter_errors.NoMemory = search rules in
    subst (λ (r : Result ℕ CoreAlterError). StandsFor g.V.Device.honest c.args.self.now (grown s (alter_adds c.args.self.now c.args.change.now r))) (sym is) (stands_still g.V.Device.honest c.args.self.now s stands)

pub returns-in_err-publish-clause-stands : goal.returns-in_err-publish-clause-stands
returns-in_err-publish-clause-stands g c = λ s stands.
    let old = c.args.self.now in
    let copied : c.in_ok-clone.field-0 ≡ c.in_ok-schemas.schemas = search rules in
    let schemas_are : c.deref-2.result.now ≡ old.schemas = c.deref-2.ensures ∙ ap (λ (x : Core). x.schemas) c.self.view_is in
    let first_are : c.deref.result.now ≡ old.schemas = c.deref.ensures ∙ ap (λ (x : Core). x.schemas) c.self.view_is in
    let more_is : c.in_ok-schemas.schemas ≡ with_change old.schemas c.args.change.now = c.in_ok-schemas.ensures.value ∙ ap (λ (v : SchemaVersions). with_change v c.args.change.now) schemas_are in
    let stone_is : c.in_ok-stone.stone ≡ changed_stone old c.args.change.now =
    c.in_ok-stone.ensures.parts ∙ ap (λ (v : SchemaVersions). record { kept = old.kept; low = old.low; ttl = old.ttl; next_file = old.next_file + 1; schemas = v; tablets = listing old }) (copied ∙ more_is) in
    let admitted : alter_refusal (newest old.schemas) c.args.change.now ≡ None = subst (λ (v : SchemaVersions). alter_refusal (newest v) c.args.change.now ≡ None) first_are c.in_ok-admits.ensures.exact in
    let file : c.self.inside.next_file ≡ old.next_file = ap (λ (x : Core). x.next_file) c.self.view_is in
    let room : old.next_file < 2 ^ 62 = omega (arith, c.if-self-ge-MOST.false, file) in
    let is : c.from_residual-in_err-publish.result ≡ Err (commit_refusal c.in_err-publish.field-0.0) = search rules in
    subst (λ (r : Result ℕ CoreAlterError). StandsFor g.V.Device.honest c.publish.new.self (grown s (alter_adds old c.args.change.now r))) (sym is)
    (failed_stands g.V.Device.honest old c.args.change.now c.in_ok-stone.stone c.publish.new.self c.publish.ensures.table stone_is admitted c.in_ok-stone.ensures.lawful room c.in_err-publish.field-0.0 c.in_err-publish.ensures.published s stands)

pub returns-clause-stands : goal.returns-clause-stands
returns-clause-stands g c = λ s stands.
    let old = c.args.self.now in
    let copied : c.in_ok-clone.field-0 ≡ c.in_ok-schemas.schemas = search rules in
    let schemas_are : c.deref-2.result.now ≡ old.schemas = c.deref-2.ensures ∙ ap (λ (x : Core). x.schemas) c.self.view_is in
    let first_are : c.deref.result.now ≡ old.schemas = c.deref.ensures ∙ ap (λ (x : Core). x.schemas) c.self.view_is in
    let more_is : c.in_ok-schemas.schemas ≡ with_change old.schemas c.args.change.now = c.in_ok-schemas.ensures.value ∙ ap (λ (v : SchemaVersions). with_change v c.args.change.now) schemas_are in
    let stone_is : c.in_ok-stone.stone ≡ changed_stone old c.args.change.now =
    c.in_ok-stone.ensures.parts ∙ ap (λ (v : SchemaVersions). record { kept = old.kept; low = old.low; ttl = old.ttl; next_file = old.next_file + 1; schemas = v; tablets = listing old }) (copied ∙ more_is) in
    let admitted : alter_refusal (newest old.schemas) c.args.change.now ≡ None = subst (λ (v : SchemaVersions). alter_refusal (newest v) c.args.change.now ≡ None) first_are c.in_ok-admits.ensures.exact in
    let file : c.self.inside.next_file ≡ old.next_file = ap (λ (x : Core). x.next_file) c.self.view_is in
    let room : old.next_file < 2 ^ 62 = omega (arith, c.if-self-ge-MOST.false, file) in
    changed_stands_from g.V.Device.honest old c.args.change.now c.in_ok-stone.stone c.publish.new.self c.publish.ensures.table stone_is admitted c.in_ok-stone.ensures.lawful room
    _ c.self-2.view_is _ _ c.in_ok-publish.ensures.published (c.in_ok-schemas-2.ensures.ok ∙ more_is) c.saturating_add-self-inside.ensures s stands
