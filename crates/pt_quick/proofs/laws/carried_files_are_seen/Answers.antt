use Rattle.pt_quick.proofs.CarriedFiles.{carried_files}
use Rattle.pt_quick.proofs.laws.carried_files_are_seen.Goals as goal

pub returns : goal.returns
returns c = carried_files
