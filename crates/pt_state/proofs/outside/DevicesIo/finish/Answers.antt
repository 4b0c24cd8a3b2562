use Rattle.std.proofs.Common.{arith}
use Rattle.pt_state.proofs.StateRules.{state_rules}
use Rattle.pt_state.proofs.outside.DevicesIo.finish.Goals as goal

pub returns : goal.returns
returns g c = grind (arith, state_rules) steps 1000000
