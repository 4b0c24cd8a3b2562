use Rattle.pt_plan.proofs.OwnPlaces.{folder_shares_tell_the_whole}
use Rattle.pt_plan.proofs.laws.folder_shares_tell_the_whole.Goals as goal

pub returns : goal.returns
returns c = folder_shares_tell_the_whole
