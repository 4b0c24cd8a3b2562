use Rattle.pt_walk.proofs.Paths.{reads_below}
use Rattle.pt_walk.proofs.laws.reads_below_a_directory.Goals as goal

pub returns : goal.returns
returns c = reads_below
