-- What the functions of the crate are proved by.
use Rattle.pt_move.proofs.Answering.{making_turn, stepping}
use Rattle.pt_move.proofs.Ending.{starting}
use Rattle.pt_move.proofs.Keeping.{answered, outcomes}
use Rattle.pt_move.proofs.Needs.{standing}

pub ruleset move_rules = (stepping, answered, starting, making_turn, outcomes, standing)
