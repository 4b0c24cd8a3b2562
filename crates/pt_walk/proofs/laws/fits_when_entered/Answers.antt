use Rattle.pt_walk.proofs.TrailSteps.{fits_entered}
use Rattle.pt_walk.proofs.laws.fits_when_entered.Goals as goal

pub returns : goal.returns
returns c = fits_entered
