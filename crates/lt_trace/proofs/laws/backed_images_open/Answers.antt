use Rattle.lt_trace.proofs.Images.{backed_opens}
use Rattle.lt_trace.proofs.laws.backed_images_open.Goals as goal

pub returns : goal.returns
returns c = backed_opens
