use Rattle.pt_walk.proofs.Reached.{reached_listed}
use Rattle.pt_walk.proofs.laws.reached_sites_are_listed.Goals as goal

pub returns : goal.returns
returns c = reached_listed
