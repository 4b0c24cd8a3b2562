use Rattle.pt_plan.proofs.FolderRoots.{folder_shares_leave_the_whole}
use Rattle.pt_plan.proofs.laws.folder_shares_leave_the_whole.Goals as goal

pub returns : goal.returns
returns c = folder_shares_leave_the_whole
