-- How a turn ends: the run goes on at a phase, or halts before its end.
use Rattle.std.specs.Prelude.{Result, Ok, Err}
use Rattle.pt_plan.specs.declared.fault.Fault.{Fault}
use Rattle.pt_plan.specs.declared.phase.Phase.{Phase}
use Rattle.pt_plan.specs.declared.phase.Phase.TheVariants as phase

-- the next phase, or why the run halts
abbrev pub Answer : Type 0
Answer = Result Phase Fault

-- the phase at which the run stands after it
abbrev pub phase_after : Answer → Phase
phase_after (Ok next) = next
phase_after (Err why) = phase.Ended
