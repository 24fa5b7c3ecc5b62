use Rattle.std.proofs.Common.{◌≡◌, None, sym, subst}
use Rattle.std.specs.Prelude.{IsTrue}
use Rattle.std.proofs.lemmas.Result.{err_from_is_err_and}
use Rattle.lt_schema.specs.Shapes.{SchemaShape}
use Rattle.lt_schema.specs.Lawful.{is_schema}
use Rattle.lt_schema.specs.Versions.{alter_refusal}
use Rattle.lt_desc.specs.Reading.{repeated, next_change}
use Rattle.lt_desc.proofs.Turns.{turn_next, turn_fails, turns_done, version_ok, version_fails}
use Rattle.lt_desc.proofs.ChangeText.{change_may, change_rest}
use Rattle.lt_desc.proofs.changes.changes_of.Goals as goal

pub returns-in_err-change : goal.returns-in_err-change
returns-in_err-change c =
    let p = err_from_is_err_and c.from_residual.result c.from_residual.ensures.1 in
    let whole = repeated (next_change c.args.total) c.args.count c.args.schemas c.args.bytes.now in
    record {
      exact = rw (p.1, p.2) (turn_fails (next_change c.args.total) c.in_err-change.field-0.0 c.args.count c.loop.counter c.loop.schemas c.loop.rest.now whole c.loop-test.true
          (version_fails c.args.total c.in_err-change.field-0.0 c.loop.schemas c.newest.result.now c.loop.rest.now c.newest.ensures.value c.in_err-change.ensures.exact) c.loop.invariant.read);
    }

pub with-requires : goal.with-requires
with-requires c =
    let lawful = subst (λ (s : SchemaShape). IsTrue (is_schema s)) (sym c.newest.ensures.value) c.newest.ensures.lawful in
    let may = change_may c.newest.result.now c.args.total c.loop.rest.now c.in_ok-change.change c.in_ok-change.after.now lawful c.loop.invariant.rest_fits c.in_ok-change.ensures.exact in
    record { admitted = subst (λ (s : SchemaShape). alter_refusal s c.in_ok-change.change ≡ None) c.newest.ensures.value may }

pub loop-preserved : goal.loop-preserved
loop-preserved c =
    let whole = repeated (next_change c.args.total) c.args.count c.args.schemas c.args.bytes.now in
    let lawful = subst (λ (s : SchemaShape). IsTrue (is_schema s)) (sym c.newest.ensures.value) c.newest.ensures.lawful in
    record {
      rest_fits = change_rest c.newest.result.now c.args.total c.loop.rest.now c.in_ok-change.change c.in_ok-change.after.now lawful c.loop.invariant.rest_fits c.in_ok-change.ensures.exact;
      read = turn_next (next_change c.args.total) c.args.count c.loop.counter c.loop.schemas c.loop.rest.now _ c.in_ok-change.after.now whole c.loop-test.true
          (version_ok c.args.total c.loop.schemas _ c.newest.result.now c.loop.rest.now c.in_ok-change.change c.in_ok-change.after.now c.newest.ensures.value c.in_ok-change.ensures.exact c.in_ok-schemas.ensures.value) c.loop.invariant.read;
    }

pub returns : goal.returns
returns c =
    let whole = repeated (next_change c.args.total) c.args.count c.args.schemas c.args.bytes.now in
    record { exact = turns_done (next_change c.args.total) c.args.count c.loop.counter c.loop.schemas c.loop.rest.now whole c.loop-test.false c.loop.invariant.read }
