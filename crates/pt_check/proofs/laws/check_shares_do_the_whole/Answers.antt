use Rattle.pt_check.proofs.SharedSteps.{check_shares_do_the_whole}
use Rattle.pt_check.proofs.laws.check_shares_do_the_whole.Goals as goal

pub returns : goal.returns
returns c = check_shares_do_the_whole
