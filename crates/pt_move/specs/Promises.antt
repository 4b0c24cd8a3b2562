-- What holds of a run after each of its steps, against the start at which it began. Each fact says itself which devices have to tell.
use Rattle.std.specs.Prelude.{◌≡◌, Result, Ok, Err, ⊤}
use Rattle.pt_plan.specs.Answer.{Answer, phase_after}
use Rattle.pt_plan.specs.DeviceStates.{DeviceStates}
use Rattle.pt_tree.specs.Source.{tree_in}
use Rattle.pt_plan.specs.declared.phase.Phase.TheVariants as phase
use Rattle.pt_invariant.specs.RunInvariant.{Start}
use Rattle.pt_state.specs.Fields.{HoldsNothingElse}
use Rattle.pt_state.specs.declared.state.State.{State}
use Rattle.pt_move.specs.Outcome.{
  EndsWhole,
  FaultStateTold,
  HoldsWithinBound,
  IfEarly,
  IfLog,
  LeavesAll,
  LeavesNoStaging,
  MadeWithinWork,
  SaysRightly,
  StandsStillIn,
  StatesAreFiles,
  WantsMemory,
}
use Rattle.pt_move.specs.Running.{HasBegun, IsBegun, DestFaultStateTold, Running}
use Rattle.pt_move.specs.Stepping.{Steps}
use Rattle.pt_plan.specs.declared.fault.Fault.{Fault}
use Rattle.pt_plan.specs.declared.fault.Fault.TheVariants as fault
use Rattle.pt_move.specs.declared.mover.Turn.{Turn}
use Rattle.pt_move.specs.declared.mover.Turn.TheVariants as turn

-- ---- by the answer

-- where the step was the last one
abbrev pub IfFinished : Result Turn Fault → Type 0 → Type 0
IfFinished (Ok turn.Finished) P = P
IfFinished (Ok turn.More) P = ⊤
IfFinished (Err f) P = ⊤

-- where it met a fault, and the run had not ended before
abbrev pub IfHalted : Result Turn Fault → (Fault → Type 0) → Type 0
IfHalted (Ok t) P = ⊤
IfHalted (Err fault.Ended) P = ⊤
IfHalted (Err f) P = P f

-- unless the run had ended before
abbrev pub UnlessEnded : Result Turn Fault → Type 0 → Type 0
UnlessEnded (Ok t) P = P
UnlessEnded (Err fault.Ended) P = ⊤
UnlessEnded (Err f) P = P

-- ---- a step

-- what holds after a step, whatever it answers
pub record StepPromises (start : Start) (old new : DeviceStates) (before after : Running)
    (answer : Result Turn Fault) : Type 0 where
  -- the run is in progress still, or has ended, and began at that start
  pub begun : IsBegun start new after
  -- the destination holds only whole objects at places where nothing stood, and a part of one more in `staging`
  pub leaves : DestFaultStateTold before.state.job start.dest new.dest
  -- and what stood in it stands
  pub stands : StandsStillIn start.dest new.dest
  -- no more turns were made than the work
  pub work : MadeWithinWork before.state.job (tree_in old.source) start.dest after.state.counts
  -- no more is held than the source's bound
  pub bound : UnlessEnded answer (HoldsWithinBound before.state.job (tree_in old.source) after.state)
  -- and beside the phase the fields of a state are held, and nothing else
  pub holds : HoldsNothingElse after.state
  -- at the end the root holds all objects that are carried, nothing else is changed, and the log has all lines with their numbers
  pub ends : IfFinished answer
      (EndsWhole before.state.job
      (tree_in old.source) start new.dest new.log after.state.counts)
  -- and the state of the version of each object that is carried is its files
  pub states : IfFinished answer
      (StatesAreFiles before.state.job (tree_in old.source) start new.dest new.log)
  -- destination and log are such as a fault may leave
  pub left : FaultStateTold before.state.job (tree_in old.source) start new.dest new.log
  -- and as they were at the start after an early fault
  pub early : IfHalted answer (λ f. IfEarly f (LeavesAll start new.dest new.log))
  -- and with nothing at `staging` where the log failed
  pub unstaged : IfHalted answer (λ f. IfLog f (LeavesNoStaging new.dest))
  -- a source or destination is refused only for what it is
  pub says : IfHalted answer (SaysRightly before.state.job (tree_in old.source) start.dest)
  -- and over a good start none is
  pub good : IfHalted answer
      (WantsMemory before.state.job (tree_in old.source) start.dest old.failures new.failures)

-- the run keeps its promises in this step
unfoldable pub Keeps : Start → DeviceStates → DeviceStates → Running → Running → Result Turn Fault → Type 0
Keeps start old new before after answer = StepPromises start old new before after answer

-- a step of a run in progress, or of one that is to begin
pub record TakesStep (old new : DeviceStates) (before after : Running) (answer : Result Turn Fault) : Type 0 where
  -- it keeps the promises of the run so far, against whatever start that began at
  pub keeps : (start : Start) → IsBegun start old before → Keeps start old new before after answer
  -- the run is in progress still, or has ended
  pub goes_on : HasBegun new after
  -- when each answer comes, which device it blames, what one step leaves, and the turn that it made
  pub steps : Steps old new before after answer

-- ---- the turn in it

-- what a turn leaves that was the last one
pub record EndPromises (start : Start) (old new : DeviceStates) (s s' : State) : Type 0 where
  pub ends : EndsWhole s.job (tree_in old.source) start new.dest new.log s'.counts
  pub states : StatesAreFiles s.job (tree_in old.source) start new.dest new.log

-- what one leaves and says that halted the run
pub record HaltPromises (start : Start) (old new : DeviceStates) (s : State) (f : Fault) : Type 0 where
  pub early : IfEarly f (LeavesAll start new.dest new.log)
  pub unstaged : IfLog f (LeavesNoStaging new.dest)
  pub says : SaysRightly s.job (tree_in old.source) start.dest f
  pub good : WantsMemory s.job (tree_in old.source) start.dest old.failures new.failures f

-- what holds besides, by the answer: where the run ended, or where it was halted
abbrev pub AnswerSays : DeviceStates → Start → DeviceStates → State → State → Answer → Type 0
AnswerSays old start new s s' (Ok next) = next ≡ phase.Ended → EndPromises start old new s s'
AnswerSays old start new s s' (Err why) = HaltPromises start old new s why

-- what holds after a turn
pub record TurnPromises (start : Start) (old new : DeviceStates) (s s' : State) (answer : Answer) : Type 0 where
  pub begun : IsBegun start new (record { phase = phase_after answer; state = s' })
  pub leaves : DestFaultStateTold s.job start.dest new.dest
  pub stands : StandsStillIn start.dest new.dest
  pub work : MadeWithinWork s.job (tree_in old.source) start.dest s'.counts
  pub bound : HoldsWithinBound s.job (tree_in old.source) s'
  pub left : FaultStateTold s.job (tree_in old.source) start new.dest new.log
  pub says : AnswerSays old start new s s' answer

-- the run keeps its promises in this turn
unfoldable pub TurnKeeps : Start → DeviceStates → DeviceStates → State → State → Answer → Type 0
TurnKeeps start old new s s' answer = TurnPromises start old new s s' answer
