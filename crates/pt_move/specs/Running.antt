-- A run under way: where it stands, and what it holds.
use Rattle.std.specs.Bool.{OnFalse}
use Rattle.std.specs.Prelude.{◌≡◌, ◌⊎◌, ℕ, List, Option, []}
use Rattle.pt_object.specs.Hasher.{HasBeenFed}
use Rattle.pt_object.specs.declared.algorithm.Algorithm.{Algorithm}
use Rattle.pt_object.specs.declared.hasher.Hasher.{Hasher}
use Rattle.pt_tree.specs.Dest.{Writing}
use Rattle.pt_tree.specs.Tree.{Tree}
use Rattle.pt_plan.specs.Run.{Kept, Run}
use Rattle.pt_plan.specs.declared.phase.Phase.{Phase}
use Rattle.pt_plan.specs.declared.phase.Opening.TheVariants as opening
use Rattle.pt_plan.specs.declared.phase.Phase.TheVariants as phase
use Rattle.pt_invariant.specs.RunInvariant.{Start, TellsAsBefore}
use Rattle.pt_invariant.specs.EndLaws.{is_ended}
use Rattle.pt_invariant.specs.DestInvariant.{DestFaultStateOfRun}
use Rattle.pt_plan.specs.DeviceStates.{DeviceStates, dest_tree}
use Rattle.pt_invariant.specs.WorkLaws.{InvariantWithinWork}
use Rattle.pt_state.specs.States.{job_of, kept_of}
use Rattle.pt_state.specs.declared.job.Job.{Job}
use Rattle.pt_state.specs.declared.job.Report.{Report}
use Rattle.pt_state.specs.declared.state.State.{State}
use Rattle.pt_move.specs.Bounds.{IsBounded}

-- a mover, as contracts see it
pub record Running : Type 0 where
  pub phase : Phase
  pub state : State

-- nothing is done yet
abbrev pub no_lines : Report
no_lines = record { done = 0; present = 0; skipped = 0; turns = 0 }

-- what a run keeps that is to begin
abbrev pub fresh_kept : Kept
fresh_kept = record {
  prefix = [];
  held = record { trail = []; rows = []; contents = []; fed = [] };
  counts = record { done = 0; present = 0; skipped = 0; turns = 0 };
}

-- a run of this job that is to begin, and holds nothing
pub record IsNew (job : Job) (r : Running) : Type 0 where
  pub phase : r.phase ≡ phase.Opening opening.Begin
  pub job_is : r.state.job ≡ job
  pub kept : kept_of r.state [] ≡ fresh_kept
  pub counts : r.state.counts ≡ no_lines
  pub unmet : r.state.unmet ≡ []
  pub fed : HasBeenFed job.algorithm r.state.hasher []

-- it holds nothing, and its hasher was fed nothing
pub record IsFresh (s : State) : Type 0 where
  pub kept : kept_of s [] ≡ fresh_kept
  pub fed : HasBeenFed s.job.algorithm s.hasher []

-- what always holds of a run: its numbers are within their bounds, and one that is to begin holds nothing
pub record TypeInvariant (r : Running) : Type 0 where
  pub bounded : IsBounded (job_of r.state.job) r.phase (kept_of r.state [])
  pub fresh : r.phase ≡ phase.Opening opening.Begin → IsFresh r.state

-- the run as the definitions see it, where the hasher was fed this
abbrev pub run_of : Running → List ℕ → Run
run_of r fed = record { phase = r.phase; kept = kept_of r.state fed }

-- until the run has ended, the hasher was fed this
abbrev pub FedUntilEnd : Phase → Algorithm → Hasher → List ℕ → Type 0
FedUntilEnd here algorithm hasher fed = OnFalse (is_ended here) (HasBeenFed algorithm hasher fed)

-- the start where the devices tell this
abbrev pub start_with : Option Writing → Option (List ℕ) → Start
start_with dest log = record { dest = dest_tree dest; log = log }

-- the run began at this start, and these are the states that it is in progress in, within its work, or has left
pub record InProgress (start : Start) (states : DeviceStates) (r : Running) : Type 0 where
  pub fed : List ℕ
  pub was : FedUntilEnd r.phase r.state.job.algorithm r.state.hasher fed
  pub begun : InvariantWithinWork (job_of r.state.job) start states (run_of r fed)

-- what the devices tell; how often they failed has no part in it, so a device that tells nothing may be another one
abbrev pub as_told : DeviceStates → DeviceStates
as_told states = record states { failures = record { source = 0; dest = 0; log = 0 } }

-- this run is in progress, or has ended, and began at this start
unfoldable pub IsBegun : Start → DeviceStates → Running → Type 0
IsBegun start states r = InProgress start (as_told states) r

-- it is to begin, or it began at some start
unfoldable pub HasBegun : DeviceStates → Running → Type 0
HasBegun states r = (r.phase ≡ phase.Opening opening.Begin) ⊎ ((start : Start) × IsBegun start states r)

-- it began at some start
unfoldable pub BeganSomewhere : DeviceStates → Running → Type 0
BeganSomewhere states r = (start : Start) × IsBegun start states r

-- where the destination tells: what a run leaves whatever its source gives (only whole objects at places where nothing stood, and a part of one more
-- in `staging`), and all as it was where something stood at `staging` at the start
unfoldable pub DestFaultStateTold : Job → Option Tree → Option Writing → Type 0
DestFaultStateTold job start now = TellsAsBefore start now (DestFaultStateOfRun (job_of job))
