use Rattle.pt_walk.proofs.FilePaths.{gathered_proper}
use Rattle.pt_walk.proofs.laws.gathered_is_proper.Goals as goal

pub returns : goal.returns
returns c = gathered_proper
