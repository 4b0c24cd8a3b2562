use Rattle.pt_plan.proofs.SharedRoots.{shares_meet_in_folders}
use Rattle.pt_plan.proofs.laws.shares_meet_in_folders.Goals as goal

pub returns : goal.returns
returns c = shares_meet_in_folders
