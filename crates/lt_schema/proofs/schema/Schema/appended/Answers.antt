use Rattle.std.proofs.Common.{◌≡◌, ◌++◌, ◌∷◌, [], arith}
use Rattle.std.proofs.lemmas.Grind.{common_steps}
use Rattle.lt_schema.proofs.Growing.{is_schema-appended}
use Rattle.lt_schema.proofs.schema.Schema.appended.Goals as goal

pub new-requires-2 : goal.new-requires-2
new-requires-2 c =
    let s = c.args.self.now in
    let columns : c.from_vec.result ≡ s.columns ++ c.args.column.now ∷ [] = grind (arith, common_steps) in
    let is = is_schema-appended s c.args.column.now c.columns.ensures.lawful c.name.ensures.lawful c.requires.admitted in
    rw (columns, c.key_len.ensures) is
