use Rattle.std.proofs.Common.{◌≡◌, ◌+◌, ◌-◌, ◌∷◌, [], ◌++◌, List, ℕ, true, false, length, drop, ap, sym, ◌∙◌, append-nil, arith, Bor}
use Rattle.std.specs.Prelude.{Some, None, option_map, Ok, Err, nat_eq}
use Rattle.lt_schema.specs.declared.kind.Kind.{Kind}
use Rattle.lt_schema.specs.declared.value.Value.{Value}
use Rattle.lt_schema.specs.Shapes.{ColumnShape}
use Rattle.lt_schema.specs.Placing.{RowsSoFar}
use Rattle.lt_codec.specs.declared.taking.Taken.{Taken}
use Rattle.lt_codec.specs.Reading.{reads_of, all_at, behind_values, taken_value}
use Rattle.lt_codec.proofs.Steps.{column_more, column_none, columns_end, columns_past, cut_column}
use Rattle.lt_codec.proofs.reading.read_part.Goals as goal

pub returns-in-None : goal.returns-in-None
returns-in-None c =
    let reads = reads_of c.args.part in
    let end = c.args.end in
    let i = c.loop-column.column-index in
    let left = c.loop-column.left.now in
    let before = c.loop-column.rows.row in
    let column = c.column-item.result in
    let rest = drop (i + 1) c.args.columns.now in
    let cut = cut_column c.args.columns.now i column c.loop-column-test.true c.column-item.is in
    let none : reads column.kind left ≡ None =
    ap (λ (k : Kind). reads k left) (sym c.kind.ensures) ∙ sym c.in_ok-take_value.ensures.exact ∙ ap (option_map (λ (x : Taken × Bor (List ℕ)). (taken_value x.0, x.1.now))) c.in-None.is in
    record {
      exact = sym c.loop-column.invariant.read ∙ ap (λ (cs : List ColumnShape). behind_values before (all_at reads end cs left)) cut ∙ column_none reads end column rest left before none;
      whole = c.loop-column.invariant.whole;
    }

pub loop-column-preserved : goal.loop-column-preserved
loop-column-preserved c =
    let reads = reads_of c.args.part in
    let end = c.args.end in
    let i = c.loop-column.column-index in
    let left = c.loop-column.left.now in
    let before = c.loop-column.rows.row in
    let column = c.column-item.result in
    let rest = drop (i + 1) c.args.columns.now in
    let cut = cut_column c.args.columns.now i column c.loop-column-test.true c.column-item.is in
    let value = taken_value c.in-Some.value in
    let some : reads column.kind left ≡ Some (value, c.in-Some.rest.now) =
    ap (λ (k : Kind). reads k left) (sym c.kind.ensures) ∙ sym c.in_ok-take_value.ensures.exact ∙ ap (option_map (λ (x : Taken × Bor (List ℕ)). (taken_value x.0, x.1.now))) c.in-Some.is in
    let pushed : c.push.new.self.row ≡ before ++ value ∷ [] = ap (λ (r : RowsSoFar). r.row) c.in_ok-push-in-Some.ensures.pushed ∙ ap (λ (v : Value). before ++ v ∷ []) c.view.ensures in
    record {
      read = ap (λ (l : List Value). behind_values l (all_at reads end rest c.in-Some.rest.now)) pushed
          ∙ sym (ap (λ (cs : List ColumnShape). behind_values before (all_at reads end cs left)) cut ∙ column_more reads end column rest left c.in-Some.rest.now before value some)
          ∙ c.loop-column.invariant.read;
      whole = ap (λ (r : RowsSoFar). r.rows) c.in_ok-push-in-Some.ensures.pushed ∙ c.loop-column.invariant.whole;
      within = let shorter = rw c.in-Some.is at c.in_ok-take_value.ensures.shorter in omega (arith, shorter, c.loop-column.invariant.within);
    }

pub returns-then-not-is_empty : goal.returns-then-not-is_empty
returns-then-not-is_empty c =
    let reads = reads_of c.args.part in
    let end = c.args.end in
    let left = c.loop-column.left.now in
    let before = c.loop-column.rows.row in
    let past = columns_past c.args.columns.now c.loop-column.column-index c.loop-column-test.false in
    let some : nat_eq (length left) 0 ≡ false = sym c.is_empty.ensures ∙ c.if-not-is_empty.true in
    record {
      exact = sym c.loop-column.invariant.read ∙ ap (λ (cs : List ColumnShape). behind_values before (all_at reads end cs left)) past ∙ columns_end reads end left before false some;
      whole = c.loop-column.invariant.whole;
    }

pub returns : goal.returns
returns c =
    let reads = reads_of c.args.part in
    let end = c.args.end in
    let left = c.loop-column.left.now in
    let before = c.loop-column.rows.row in
    let past = columns_past c.args.columns.now c.loop-column.column-index c.loop-column-test.false in
    let empty : nat_eq (length left) 0 ≡ true = sym c.is_empty.ensures ∙ c.if-not-is_empty.false in
    record {
      exact = sym c.loop-column.invariant.read ∙ ap (λ (cs : List ColumnShape). behind_values before (all_at reads end cs left)) past ∙ columns_end reads end left before true empty
          ∙ ap (λ (l : List Value). Ok l) (append-nil before);
      whole = c.loop-column.invariant.whole;
    }
