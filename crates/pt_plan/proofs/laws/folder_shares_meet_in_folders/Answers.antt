use Rattle.pt_plan.proofs.FolderRoots.{folder_shares_meet_in_folders}
use Rattle.pt_plan.proofs.laws.folder_shares_meet_in_folders.Goals as goal

pub returns : goal.returns
returns c = folder_shares_meet_in_folders
