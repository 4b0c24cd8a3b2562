use Rattle.pt_check.proofs.SharedNumbers.{check_shares_add_up}
use Rattle.pt_check.proofs.laws.check_shares_add_up.Goals as goal

pub returns : goal.returns
returns c = check_shares_add_up
