use Rattle.std.proofs.Common.{◌≡◌, map, arith}
use Rattle.std.proofs.lemmas.Grind.{common_steps}
use Rattle.lt_schema.specs.Versions.{widened}
use Rattle.lt_schema.proofs.Growing.{is_schema-widened}
use Rattle.lt_schema.proofs.schema.Schema.widened.Goals as goal

pub new-requires : goal.new-requires
new-requires c =
    let s = c.args.self.now in
    let columns : c.from_vec.result ≡ map (widened c.args.name.now) s.columns = grind (arith, common_steps) in
    let is = is_schema-widened s c.args.name.now c.columns.ensures.lawful c.requires.admitted in
    rw (columns, c.key_len.ensures) is
