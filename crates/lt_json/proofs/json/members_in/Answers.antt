use Rattle.std.proofs.Common.{arith}
use Rattle.std.proofs.lemmas.Grind.{common_steps}
use Rattle.serde_json.specs.View.{view}
use Rattle.lt_json.proofs.Items.{count_view}
use Rattle.lt_json.proofs.json.members_in.Goals as goal

pub returns-in-Some : goal.returns-in-Some
returns-in-Some c = grind (arith, common_steps, count_view (view c.args.json.now) c.in-Some.members.now.entries c.in-Some.ensures)
