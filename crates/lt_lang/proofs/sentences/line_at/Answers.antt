use Rattle.lt_lang.proofs.NameBytes.{read_client}
use Rattle.lt_lang.proofs.sentences.line_at.Goals as goal

pub name_label-requires : goal.name_label-requires
name_label-requires c = read_client c.split_word.result.0.now c.in-Some.name.now c.in-Some.ensures
