use Rattle.pt_walk.proofs.ObjectSteps.{reads}
use Rattle.pt_walk.proofs.laws.reads_the_next_file.Goals as goal

pub returns : goal.returns
returns c = reads
