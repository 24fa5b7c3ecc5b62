use Rattle.serde_json.specs.View.{view}
use Rattle.lt_json.specs.FromJson.{IsText}
use Rattle.lt_json.proofs.Reading.{causes_of}
use Rattle.lt_json.proofs.json.schema_from_json.Goals as goal

pub returns-in-Ok-clause-cause : goal.returns-in-Ok-clause-cause
returns-in-Ok-clause-cause c =
    let text : IsText c.args.bytes.now (view c.in-Ok.json) = record { utf8 = c.in-Ok.ensures.ok.0; value = c.in-Ok.ensures.ok.1 } in
    causes_of c.args.bytes.now (view c.in-Ok.json) text c.schema_of.result c.schema_of.ensures.cause
