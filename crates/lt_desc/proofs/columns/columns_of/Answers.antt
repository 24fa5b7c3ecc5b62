use Rattle.std.proofs.Common.{◌≡◌, [], length, ap, arith, ◌++◌, ◌∷◌}
use Rattle.std.proofs.lemmas.List.{length-append}
use Rattle.std.specs.Prelude.{None}
use Rattle.std.proofs.lemmas.Result.{err_from_is_err_and}
use Rattle.lt_desc.specs.Reading.{column_at, repeated, next_column}
use Rattle.lt_desc.proofs.Turns.{turn_next, turn_fails, turns_done, next_ok, next_fails}
use Rattle.lt_desc.proofs.columns.columns_of.Goals as goal

pub returns-in_err-column : goal.returns-in_err-column
returns-in_err-column c =
    let p = err_from_is_err_and c.from_residual-in_err-column.result c.from_residual-in_err-column.ensures.1 in
    let whole = repeated (next_column c.args.key_len c.args.total) c.args.count [] c.args.bytes.now in
    record {
      exact = rw (p.1, p.2) (turn_fails (next_column c.args.key_len c.args.total) c.in_err-column.field-0.0 c.args.count c.loop.counter c.loop.columns.items c.loop.rest.now whole c.loop-test.true
          (next_fails (λ xs. column_at None c.args.key_len xs c.args.total c.loop.rest.now) c.in_err-column.field-0.0 c.as_slice.result.now c.loop.columns.items c.as_slice.ensures.value c.in_err-column.ensures.exact) c.loop.invariant.read);
    }

pub loop-preserved : goal.loop-preserved
loop-preserved c =
    let whole = repeated (next_column c.args.key_len c.args.total) c.args.count [] c.args.bytes.now in
    let items : c.push.new.self.items ≡ c.loop.columns.items ++ c.in_ok-column.column ∷ [] = c.in_ok-push.ensures.items in
    record {
      few = omega (arith, c.loop.invariant.few, ap length items, length-append c.loop.columns.items (c.in_ok-column.column ∷ []));
      read = turn_next (next_column c.args.key_len c.args.total) c.args.count c.loop.counter c.loop.columns.items c.loop.rest.now c.push.new.self.items c.in_ok-column.after.now whole c.loop-test.true
          (next_ok (λ xs. column_at None c.args.key_len xs c.args.total c.loop.rest.now) c.as_slice.result.now c.loop.columns.items c.push.new.self.items c.in_ok-column.column c.in_ok-column.after.now c.as_slice.ensures.value c.in_ok-column.ensures.exact items) c.loop.invariant.read;
    }

pub returns : goal.returns
returns c =
    let whole = repeated (next_column c.args.key_len c.args.total) c.args.count [] c.args.bytes.now in
    record { exact = turns_done (next_column c.args.key_len c.args.total) c.args.count c.loop.counter c.loop.columns.items c.loop.rest.now whole c.loop-test.false c.loop.invariant.read }
