-- What one step answers, and what it leaves.
use Rattle.std.specs.Prelude.{◌≡◌, ◌≢◌, ◌+◌, ◌<◌, ◌==◌, ◌≤◌, ℕ, IfOk, OnOk, Result, Ok, Err, cond, ⊤}
use Rattle.pt_plan.specs.DeviceStates.{DeviceStates}
use Rattle.pt_tree.specs.Source.{tree_in}
use Rattle.pt_plan.specs.declared.fault.Fault.{Fault}
use Rattle.pt_plan.specs.declared.phase.Phase.TheVariants as phase
use Rattle.pt_state.specs.States.{IsUnmetAfter, counts_of}
use Rattle.pt_move.specs.Bounds.{lines_put}
use Rattle.pt_move.specs.Turning.{CountedTurn}
use Rattle.pt_move.specs.Counting.{Counts}
use Rattle.pt_move.specs.Held.{Gains, Moves}
use Rattle.pt_move.specs.Lines.{FinishTold, Tells}
use Rattle.pt_move.specs.Running.{Running}
use Rattle.pt_plan.specs.declared.fault.Fault.TheVariants as fault
use Rattle.pt_move.specs.declared.mover.Turn.{Turn}
use Rattle.pt_move.specs.declared.mover.Turn.TheVariants as turn

-- the run had not ended, and its limit of turns was not made
pub record IsTurn (old : Running) : Type 0 where
  pub going : old.phase ≢ phase.Ended
  pub within : old.state.counts.turns < old.state.job.limits.turns

-- the answer is given in its states alone: Ended after the end, Turns where the limit of turns was made before it, and any other after a turn; unless
-- there is more to do, the run has ended
abbrev pub EndsAs : Running → Running → Result Turn Fault → Type 0
EndsAs old new (Ok turn.More) = IsTurn old × (new.phase ≢ phase.Ended)
EndsAs old new (Ok turn.Finished) = IsTurn old × (new.phase ≡ phase.Ended)
EndsAs old new (Err fault.Ended) = (old.phase ≡ phase.Ended) × (new ≡ old)
EndsAs old new (Err fault.Turns) = (old.phase ≢ phase.Ended)
    × ((old.state.job.limits.turns ≤ old.state.counts.turns) × (new.phase ≡ phase.Ended))
EndsAs old new (Err f) = IsTurn old × (new.phase ≡ phase.Ended)

-- a turn is counted, a faulty one too, and at most one line with it
abbrev pub IsCounted : Running → Running → Result Turn Fault → Type 0
IsCounted old new (Err fault.Ended) = new.state.counts ≡ old.state.counts
IsCounted old new (Err fault.Turns) = new.state.counts ≡ old.state.counts
IsCounted old new r = (new.state.counts.turns ≡ old.state.counts.turns + 1)
    × (lines_put (counts_of new.state.counts) ≤ lines_put (counts_of old.state.counts) + 1)

-- where no turn was made, the device is the very value that it was; else it is the same device, as its calls left it
abbrev pub SameDevice : {X : Type 0} → (X → X → Type 0) → Result Turn Fault → X → X → Type 0
SameDevice keeps (Err fault.Ended) old new = new ≡ old
SameDevice keeps (Err fault.Turns) old new = new ≡ old
SameDevice keeps r old new = keeps old new

-- what is kept of the devices as one is said with their calls
abbrev pub Any : {X : Type 0} → X → X → Type 0
Any old new = ⊤

-- how often a step calls the source at most: three times in the first turn, which looks whether it is a store, twice in the second, which reads the
-- prefix, and else once
abbrev pub most_calls_at : Running → ℕ
most_calls_at r = cond (r.state.counts.turns == 0) 3 (cond (r.state.counts.turns == 1) 2 1)

-- ---- the turn

-- by the answer it is one of the definitions' turns. After the end, and where exactly as many as the limit were made, it is none: what the run holds
-- and the devices are as they were
unfoldable pub MakesTurn : DeviceStates → DeviceStates → Running → Running → Result Turn Fault → Type 0
MakesTurn old new before after (Ok turn.More) =
    CountedTurn before.phase before.state after.state old new (Ok after.phase)
MakesTurn old new before after (Ok turn.Finished) =
    CountedTurn before.phase before.state after.state old new (Ok phase.Ended)
MakesTurn old new before after (Err fault.Ended) = (after ≡ before) × (new ≡ old)
MakesTurn old new before after (Err fault.Turns) = (after.state ≡ before.state) × (new ≡ old)
    × (before.state.counts.turns ≡ before.state.job.limits.turns)
MakesTurn old new before after (Err f) =
    CountedTurn before.phase before.state after.state old new (Err f)

-- ---- what it leaves

-- each device is blamed only where it failed
pub record Blamed {T : Type 0} (old new : DeviceStates) (result : Result T Fault) : Type 0 where
  pub source : Counts 1 old.failures.source new.failures.source result
  pub dest : Counts 2 old.failures.dest new.failures.dest result
  pub log : Counts 3 old.failures.log new.failures.log result

-- a device is blamed only where its count of failures rose, and else its count stayed
unfoldable pub BlamesRightly : {T : Type 0} → DeviceStates → DeviceStates → Result T Fault → Type 0
BlamesRightly old new result = Blamed old new result

-- what a step leaves, over any devices
pub record Left (old new : DeviceStates) (before after : Running) (result : Result Turn Fault) : Type 0 where
  -- the source's tree stays, and so does the job
  pub tree : tree_in new.source ≡ tree_in old.source
  pub job : after.state.job ≡ before.state.job
  -- the turn is counted, and its line told
  pub turns : IsCounted before after result
  pub told : Tells old.log new.log before.state.counts after.state.counts result
  pub finished : IfOk result (λ t. FinishTold t old.log new.log before.state.counts after.state.counts)
  -- what is held grows by one at most
  pub trail : Moves before.state.trail after.state.trail
  pub rows : Gains before.state.rows after.state.rows
  pub contents : Gains before.state.contents after.state.contents

-- what one step leaves outside, and of what is held
unfoldable pub StepLeaves : DeviceStates → DeviceStates → Running → Running → Result Turn Fault → Type 0
StepLeaves old new before after result = Left old new before after result

-- ---- a step over three devices

-- what a step answers, whom it blames, what it leaves, that it made a turn, and what is unmet after it
pub record Steps (old new : DeviceStates) (before after : Running) (result : Result Turn Fault) : Type 0 where
  pub answer : EndsAs before after result
  pub blames : BlamesRightly old new result
  pub leaves : StepLeaves old new before after result
  pub turn : MakesTurn old new before after result
  pub unmet : OnOk result (IsUnmetAfter before.phase before.state after.state)
