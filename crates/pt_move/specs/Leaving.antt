-- What a turn leaves, in one record: which device failed, what the log got and how it is counted, and what changed of what is held.
use Rattle.std.specs.Prelude.{◌≡◌, ℕ, ◌+◌, ◌≤◌, List, Option, Ok, Err, ⊤}
use Rattle.pt_plan.specs.Answer.{Answer}
use Rattle.pt_plan.specs.Turn.{HasFailed}
use Rattle.pt_plan.specs.DeviceStates.{Failures}
use Rattle.pt_plan.specs.declared.fault.Fault.{Fault}
use Rattle.pt_plan.specs.declared.fault.Fault.TheVariants as fault
use Rattle.pt_plan.specs.declared.phase.Phase.{Phase}
use Rattle.pt_plan.specs.declared.phase.Phase.TheVariants as phase
use Rattle.pt_state.specs.States.{counts_of}
use Rattle.pt_state.specs.declared.job.Report.{Report}
use Rattle.pt_state.specs.declared.state.State.{State}
use Rattle.pt_move.specs.Bounds.{lines_put}
use Rattle.pt_move.specs.Held.{Gains, Moves}
use Rattle.pt_move.specs.Lines.{TellsEnd, TellsFront, TellsLine}

-- the device that is blamed has failed and no other, and for what isn't a device's fault none has
abbrev pub Blames : Fault → Failures → Failures → Type 0
Blames fault.Source old new = HasFailed fault.Source old new
Blames fault.Dest old new = HasFailed fault.Dest old new
Blames fault.Log old new = HasFailed fault.Log old new
Blames _ old new = new ≡ old

-- by the answer
abbrev pub BlamesBy : Answer → Failures → Failures → Type 0
BlamesBy (Ok next) old new = new ≡ old
BlamesBy (Err why) old new = Blames why old new

-- what the log got
abbrev pub TellsBy : Answer → Option (List ℕ) → Option (List ℕ) → Report → Report → Type 0
TellsBy (Ok next) before after old new = TellsLine before after old new
TellsBy (Err why) before after old new = TellsFront before after old new

-- at the end it got the end line
abbrev pub EndsBy : Phase → Option (List ℕ) → Option (List ℕ) → Report → Report → Type 0
EndsBy phase.Ended before after old new = TellsEnd before after old new
EndsBy _ before after old new = ⊤

-- where the run ended, what the log got is its end line
abbrev pub EndsTold : Answer → Option (List ℕ) → Option (List ℕ) → Report → Report → Type 0
EndsTold (Ok next) before after old new = EndsBy next before after old new
EndsTold (Err why) before after old new = ⊤

-- which device is blamed, what the log got, and what changed of what is held
pub record TurnLeaves (s s' : State) (before after : Option (List ℕ)) (old new : Failures)
    (answer : Answer) : Type 0 where
  pub failures : BlamesBy answer old new
  pub told : TellsBy answer before after s.counts s'.counts
  pub ended : EndsTold answer before after s.counts s'.counts
  pub turns : s'.counts.turns ≡ s.counts.turns + 1
  pub lines : lines_put (counts_of s'.counts) ≤ lines_put (counts_of s.counts) + 1
  pub trail : Moves s.trail s'.trail
  pub rows : Gains s.rows s'.rows
  pub contents : Gains s.contents s'.contents
