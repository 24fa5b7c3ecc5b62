use Rattle.lt_desc.proofs.Whole.{stone_takes, stone_again}
use Rattle.lt_desc.proofs.laws.descriptor_laws.Goals as goal

pub returns-clause-read_is_spelled : goal.returns-clause-read_is_spelled
returns-clause-read_is_spelled c = λ bytes s fits e. let found = stone_takes bytes s fits e in (found.lawful, found.fits, found.spelled)

pub returns-clause-spelled_is_read : goal.returns-clause-spelled_is_read
returns-clause-spelled_is_read c = λ s is fits. stone_again s is fits
