use Rattle.std.proofs.Common.{arith, rules}
use Rattle.pt_guard.proofs.guard.begin.Goals as goal

pub returns-in-Taken : goal.returns-in-Taken
returns-in-Taken g c = grind arith steps 100000

pub returns-in-Root : goal.returns-in-Root
returns-in-Root g c = grind arith steps 100000

pub returns-in-Wanting : goal.returns-in-Wanting
returns-in-Wanting g c = search rules

pub returns-in-Unknown-hold : goal.returns-in-Unknown-hold
returns-in-Unknown-hold g c = search rules
