use Rattle.expressions.proofs.Fits.{value_fits}
use Rattle.expressions.proofs.laws.width_law.Goals as goal

pub returns : goal.returns
returns c = value_fits
