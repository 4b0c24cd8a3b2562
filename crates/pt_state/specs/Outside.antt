-- One turn, as the functions of a run make it: that it is a turn of the run's definitions, over the states of its devices.
use Rattle.std.specs.Prelude.{◌≡◌, ℕ, List, [], ◌∷◌, Option, Result, Ok, Err, IfErr, IfOk, OnOk, ⊤}
use Rattle.pt_object.specs.Hasher.{HasBeenFed}
use Rattle.pt_object.specs.declared.algorithm.Algorithm.{Algorithm}
use Rattle.pt_object.specs.declared.hasher.Hasher.{Hasher}
use Rattle.pt_tree.specs.Dest.{Writing}
use Rattle.pt_tree.specs.Listing.{Item as Entry}
use Rattle.pt_tree.specs.Path.{Path}
use Rattle.pt_tree.specs.Source.{Reading}
use Rattle.pt_tree.specs.declared.dest.Dest.{Ghosts as OfDest}
use Rattle.pt_tree.specs.declared.kind.Kind.{Kind}
use Rattle.pt_tree.specs.declared.log.Log.{Ghosts as OfLog}
use Rattle.pt_tree.specs.declared.source.Source.{Ghosts as OfSource}
use Rattle.pt_plan.specs.Answer.{Answer}
use Rattle.pt_plan.specs.Turn.{Did, FailsPartway, FailsUnchanged, Turn}
use Rattle.pt_plan.specs.DeviceStates.{Calls, Finds, Lists, Looks, DeviceStates, asks, does}
use Rattle.pt_plan.specs.declared.fault.Fault.{Fault}
use Rattle.pt_plan.specs.declared.phase.Phase.{Phase}
use Rattle.pt_state.specs.States.{job_of, kept_of}
use Rattle.pt_state.specs.declared.state.State.{State}

-- the states of devices that tell this and failed so often
abbrev pub states : Option Reading → Option Writing → Option (List ℕ) → ℕ → ℕ → ℕ → DeviceStates
states source dest log s d l =
    record { source = source; dest = dest; log = log; failures = record { source = s; dest = d; log = l } }

-- the states of three devices, by the words of their traits: what each tells, and how often it failed
abbrev pub states_of : {S D L : Type 0} → OfSource S → OfDest D → OfLog L → S → D → L → DeviceStates
states_of s d l source dest log =
    states (s.told source) (d.told dest) (l.told log) (s.failed source) (d.failed dest) (l.failed log)

-- where the run goes on the hasher was fed this
abbrev pub FedAfter : Answer → Algorithm → Hasher → List ℕ → Type 0
FedAfter (Ok next) algorithm hasher fed = HasBeenFed algorithm hasher fed
FedAfter (Err why) algorithm hasher fed = ⊤

-- of what was held at a phase, and what is held after it; the job stays
unfoldable pub Turned : Phase → State → State → DeviceStates → DeviceStates → Answer → Type 0
Turned here s s' old new answer =
    (s'.job ≡ s.job)
    × ((fed : List ℕ) → HasBeenFed s.job.algorithm s.hasher fed
    → (fed' : List ℕ)
    × (FedAfter answer s.job.algorithm s'.hasher fed'
    × Turn (job_of s.job) here (kept_of s fed) (kept_of s' fed') old new answer))

-- ---- what the functions of a run promise of the devices as one

-- a call: it did this, or failed and changed nothing; source and destination were called no more often than that
pub record Called {O T : Type 0} (states : O → DeviceStates) (within : O → O → Type 0) (calls : Calls) (old new : O)
    (result : Result T Fault) : Type 0 where
  pub did : OnOk result (Did calls (states old) (states new))
  pub failed : IfErr result (λ why. FailsUnchanged why (states old) (states new))
  pub few : within old new

-- a listing: so it is with these entries
pub record Listed {O : Type 0} (states : O → DeviceStates) (within : O → O → Type 0) (path : Path) (old new : O)
    (result : Result (List Entry) Fault) : Type 0 where
  pub did : IfOk result (λ entries. Did (asks (Lists path entries)) (states old) (states new))
  pub failed : IfErr result (λ why. FailsUnchanged why (states old) (states new))
  pub few : within old new

-- a look at a path of the source: so it is with what stands there
pub record Looked {O : Type 0} (states : O → DeviceStates) (within : O → O → Type 0) (path : Path) (old new : O)
    (result : Result (Option Kind) Fault) : Type 0 where
  pub did : IfOk result (λ here. Did (asks (Looks ((path, here) ∷ []))) (states old) (states new))
  pub failed : IfErr result (λ why. FailsUnchanged why (states old) (states new))
  pub few : within old new

-- a look at a path of the destination: so it is with what stands there
pub record Found {O : Type 0} (states : O → DeviceStates) (within : O → O → Type 0) (path : Path) (old new : O)
    (result : Result (Option Kind) Fault) : Type 0 where
  pub did : IfOk result (λ here. Did (does (Finds path here)) (states old) (states new))
  pub failed : IfErr result (λ why. FailsUnchanged why (states old) (states new))
  pub few : within old new

-- a change: it did this, or failed and left a part
pub record Wrote {O T : Type 0} (states : O → DeviceStates) (within : O → O → Type 0) (calls : Calls) (old new : O)
    (result : Result T Fault) : Type 0 where
  pub did : OnOk result (Did calls (states old) (states new))
  pub left : IfErr result (λ why. FailsPartway calls why (states old) (states new))
  pub few : within old new
