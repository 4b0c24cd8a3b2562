-- What the functions of a run promise over the devices as one, `of` which are the words of their trait. Numbers and calls come as pairs: how
-- often the source is called and the destination looked at, at most; and what is held, with the devices.
use Rattle.std.specs.Prelude.{◌≡◌, ℕ, IfErr, OnErr, OnOk, Result}
use Rattle.pt_plan.specs.Answer.{Answer}
use Rattle.pt_plan.specs.Lines.{Line}
use Rattle.pt_plan.specs.Turn.{Did, FailsPartway}
use Rattle.pt_plan.specs.DeviceStates.{Calls, DeviceStates, tells}
use Rattle.pt_plan.specs.declared.fault.Fault.{Fault}
use Rattle.pt_plan.specs.declared.phase.Phase.{Phase}
use Rattle.pt_state.specs.Lines.{with_line}
use Rattle.pt_state.specs.Outside.{Turned, Wrote}
use Rattle.pt_state.specs.States.{IsUnmetAfter}
use Rattle.pt_state.specs.declared.job.Report.{Report}
use Rattle.pt_state.specs.declared.outside.Io.{Ghosts as OfOutside}
use Rattle.pt_state.specs.declared.state.State.{State}

-- a change, or a line: it did this, or failed and left a part; nothing was called that is counted
abbrev pub WroteBy : {O T : Type 0} → OfOutside O → Calls → O → O → Result T Fault → Type 0
WroteBy of calls old new result = Wrote of.states (of.within 0 0) calls old new result

-- a line: it was put and counted, or a front of it was put, and it isn't counted
pub record Told {O T : Type 0} (of : OfOutside O) (line : Line) (old new : Report × O)
    (result : Result T Fault) : Type 0 where
  pub did : OnOk result (Did (tells line) (of.states old.1) (of.states new.1))
  pub counted : OnOk result (new.0 ≡ with_line line old.0)
  pub left : IfErr result (λ why. FailsPartway (tells line) why (of.states old.1) (of.states new.1))
  pub same : OnErr result (new.0 ≡ old.0)
  pub few : of.within 0 0 old.1 new.1

-- a turn at this phase
pub record TakesTurn {O : Type 0} (of : OfOutside O) (most : ℕ × ℕ) (here : Phase)
    (old new : State × O) (answer : Answer) : Type 0 where
  pub turn : Turned here old.0 new.0 (of.states old.1) (of.states new.1) answer
  pub few : of.within most.0 most.1 old.1 new.1
  pub unmet : OnOk answer (IsUnmetAfter here old.0 new.0)

-- a turn at each phase of which this holds, none of which meets an identifier
pub record TakesTurnAt {O : Type 0} (of : OfOutside O) (most : ℕ × ℕ) (At : Phase → Type 0)
    (old new : State × O) (answer : Answer) : Type 0 where
  pub turn : (here : Phase) → At here → Turned here old.0 new.0 (of.states old.1) (of.states new.1) answer
  pub few : of.within most.0 most.1 old.1 new.1
  pub unmet : OnOk answer (new.0.unmet ≡ old.0.unmet)

-- the rest of a turn at this phase, after these calls; it makes none that is counted
pub record EndsTurn {O : Type 0} (of : OfOutside O) (calls : Calls) (here : Phase)
    (old new : State × O) (answer : Answer) : Type 0 where
  pub turn : (before : DeviceStates) → Did calls before (of.states old.1)
      → Turned here old.0 new.0 before (of.states new.1) answer
  pub few : of.within 0 0 old.1 new.1
  pub unmet : OnOk answer (new.0.unmet ≡ old.0.unmet)
