use Rattle.pt_walk.proofs.FilePaths.{files_part}
use Rattle.pt_walk.proofs.laws.files_part_in_order.Goals as goal

pub returns : goal.returns
returns c = files_part
