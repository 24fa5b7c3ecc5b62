use Rattle.lt_state.proofs.Images.{present_opens}
use Rattle.lt_state.proofs.Past.{publish_keeps_past}
use Rattle.lt_state.proofs.Sparing.{sparing_keeps_facts}
use Rattle.lt_state.proofs.laws.possible_images_open.Goals as goal

pub returns-clause-now : goal.returns-clause-now
returns-clause-now c = present_opens

pub returns-clause-publishing : goal.returns-clause-publishing
returns-clause-publishing c = publish_keeps_past

pub returns-clause-sparing : goal.returns-clause-sparing
returns-clause-sparing c = sparing_keeps_facts
