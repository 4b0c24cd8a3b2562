-- What the functions of the crate are proved by.
use Rattle.pt_state.proofs.Asking.{answering, counting}
use Rattle.pt_state.proofs.Failing.{failing}
use Rattle.pt_state.proofs.Fronts.{fronts}
use Rattle.pt_state.proofs.Together.{together}

pub ruleset state_rules = (together, fronts, answering, counting, failing)
