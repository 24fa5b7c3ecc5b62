use Rattle.std.proofs.Common.{ℕ, List, subst, sym, ◌∙◌}
use Rattle.std.specs.Prelude.{IsTrue}
use Rattle.serde_json.specs.View.{view}
use Rattle.lt_schema.specs.Names.{is_name}
use Rattle.lt_json.proofs.Items.{column_named}
use Rattle.lt_json.proofs.json.read_column.Goals as goal

pub new-requires : goal.new-requires
new-requires c = subst (λ (n : List ℕ). IsTrue (is_name n)) (sym c.name_in.ensures ∙ sym c.in_ok-name.ensures) (column_named (view c.args.column.now) c.requires)
