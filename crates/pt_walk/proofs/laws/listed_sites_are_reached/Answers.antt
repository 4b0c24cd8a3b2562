use Rattle.pt_walk.proofs.Reached.{listed_reached}
use Rattle.pt_walk.proofs.laws.listed_sites_are_reached.Goals as goal

pub returns : goal.returns
returns c = listed_reached
