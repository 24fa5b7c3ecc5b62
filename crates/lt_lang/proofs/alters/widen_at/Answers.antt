use Rattle.lt_lang.proofs.NameBytes.{name_bytes, read_name}
use Rattle.lt_lang.proofs.alters.widen_at.Goals as goal

pub name_label-requires : goal.name_label-requires
name_label-requires c = name_bytes c.in_ok-name.name.now (read_name c.args.bytes.now c.in_ok-name.name.now c.in_ok-name.rest.now c.in_ok-name.ensures)
