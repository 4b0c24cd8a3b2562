use Rattle.pt_extra.proofs.SharedFindings.{folder_shares_find_the_whole}
use Rattle.pt_extra.proofs.laws.folder_shares_find_the_whole.Goals as goal

pub returns : goal.returns
returns c = folder_shares_find_the_whole
