use Rattle.pt_walk.proofs.TrailSteps.{fits_moved}
use Rattle.pt_walk.proofs.laws.fits_when_moved.Goals as goal

pub returns : goal.returns
returns c = fits_moved
