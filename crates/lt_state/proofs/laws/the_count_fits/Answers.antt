use Rattle.lt_state.proofs.Counts.{count_fits}
use Rattle.lt_state.proofs.laws.the_count_fits.Goals as goal

pub returns : goal.returns
returns c = count_fits
