use Rattle.std.proofs.Common.{◌≡◌, ◌++◌, ◌∷◌, [], List, subst, sym, ap, ◌∙◌}
use Rattle.std.specs.Prelude.{IsTrue}
use Rattle.lt_schema.specs.declared.change.Change.{Change}
use Rattle.lt_schema.specs.Shapes.{SchemaShape}
use Rattle.lt_schema.specs.Versions.{SchemaVersions, has_lawful_name, is_versions, all_versions, newest, changed}
use Rattle.lt_schema.proofs.Growing.{is_versions-more, all_versions-more}
use Rattle.lt_schema.proofs.schemas.Schemas.with.Goals as goal

pub invariant_of-result : goal.invariant_of-result
invariant_of-result c =
    let v = c.args.self.now in
    let change = c.args.change.now in
    let lawful_name : IsTrue (has_lawful_name change) = c.in_ok-next.ensures.lawful_name in
    let copy = c.versions.view_is ∙ sym c.in_ok-versions.ensures.cases in
    let is : IsTrue (is_versions v) = subst (λ (w : SchemaVersions). IsTrue (is_versions w)) copy c.versions.invariant.1 in
    let next : c.in_ok-next.next ≡ changed (newest v) change = c.in_ok-next.ensures.value ∙ ap (λ (s : SchemaShape). changed s change) c.newest.ensures.value in
    let versions : c.push.new.self.items ≡ all_versions v ++ changed (newest v) change ∷ [] =
    c.in_ok-push.ensures.items ∙ ap (λ (xs : List SchemaShape). xs ++ c.in_ok-next.next ∷ []) (c.versions.invariant.0 ∙ ap all_versions copy)
    ∙ ap (λ (s : SchemaShape). all_versions v ++ s ∷ []) next in
    let changes : c.push-2.new.self.items ≡ v.changes ++ change ∷ [] =
    c.in_ok-push-2.ensures.items ∙ ap (λ (xs : List Change). xs ++ c.in_ok-clone.field-0 ∷ []) (ap (λ (w : SchemaVersions). w.changes) copy)
    ∙ ap (λ (x : Change). v.changes ++ x ∷ []) (sym c.in_ok-clone.ensures.cases) in
    rw (versions, changes) (all_versions-more v change, is_versions-more v change is c.requires.admitted lawful_name)
