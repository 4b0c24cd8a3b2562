use Rattle.std.proofs.Common.{arith}
use Rattle.std.specs.Prelude.{Ok}
use Rattle.pt_state.proofs.Failing.{fails_list}
use Rattle.pt_state.proofs.StateRules.{state_rules}
use Rattle.pt_state.proofs.outside.DevicesIo.list.Goals as goal

pub returns-in-Ok : goal.returns-in-Ok
returns-in-Ok g c =
    let made = c.in-Ok.ensures in
    let fails = fails_list _ _ _ _ _ _ _ (Ok c.in-Ok.listing) c.requires.listed c.requires.asked_for made.fails made.same made.failures in
    search (arith, state_rules, fails)

pub returns-in-Err : goal.returns-in-Err
returns-in-Err g c = grind (arith, state_rules) steps 1000000
