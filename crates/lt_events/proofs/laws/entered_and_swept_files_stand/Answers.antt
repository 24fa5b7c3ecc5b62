use Rattle.lt_events.proofs.Entering.{spare_stands}
use Rattle.lt_events.proofs.laws.entered_and_swept_files_stand.Goals as goal

pub returns : goal.returns
returns c = spare_stands
