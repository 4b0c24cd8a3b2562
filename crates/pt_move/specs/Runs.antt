-- What a run is: turns of the definitions, one after another.
use Rattle.std.specs.Prelude.{◌≡◌, ◌+◌, ◌<◌, ℕ, List, [], Option, Result, Ok, Err, false}
use Rattle.pt_plan.specs.Job as plan
use Rattle.pt_plan.specs.Met.{unmet_after}
use Rattle.pt_plan.specs.Run.{Kept, Run, new_run, turning}
use Rattle.pt_plan.specs.Turn.{Turn}
use Rattle.pt_plan.specs.DeviceStates.{DeviceStates}
use Rattle.pt_plan.specs.declared.fault.Fault.{Fault}
use Rattle.pt_plan.specs.declared.phase.Phase.{Phase}
use Rattle.pt_plan.specs.declared.phase.Phase.TheVariants as phase
use Rattle.pt_invariant.specs.EndLaws.{is_ended}
use Rattle.pt_state.specs.States.{counts_of, job_of}
use Rattle.pt_state.specs.declared.job.Job.{Job}
use Rattle.pt_state.specs.declared.job.Report.{Report}
use Rattle.pt_plan.specs.declared.fault.Fault.TheVariants as fault

-- so many turns lead from a run that is to begin, over these states, to this run over those, and leave these identifiers of the list unmet
pub data Turns (job : plan.Job) (first : DeviceStates) : ℕ → Run → DeviceStates
    → List (Option (List ℕ)) → Type 0 where
  NoTurn : Turns job first 0 new_run first []
  OneMore : (n : ℕ) (run : Run) (old new : DeviceStates) (unmet : List (Option (List ℕ)))
      (after : Kept) (next : Phase)
      → Turns job first n run old unmet → Turn job run.phase (turning run.kept) after old new (Ok next)
      → Turns job first (n + 1) (record { phase = next; kept = after }) new
      (unmet_after job run.phase run.kept.prefix run.kept.held.trail unmet)

-- the run came to its end by as many turns as it reports, which leave these unmet
pub record Finished (job : Job) (old new : DeviceStates) (report : Report)
    (unmet : List (Option (List ℕ))) : Type 0 where
  pub kept : Kept
  pub counts : kept.counts ≡ counts_of report
  pub turns : Turns (job_of job) old report.turns (record { phase = phase.Ended; kept = kept }) new unmet

-- it was halted by this turn, after fewer turns than the limit
pub record Halted (job : Job) (old new : DeviceStates) (f : Fault) : Type 0 where
  pub count : ℕ
  pub run : Run
  pub states : DeviceStates
  pub unmet : List (Option (List ℕ))
  pub after : Kept
  pub turns : Turns (job_of job) old count run states unmet
  pub within : count < job.limits.turns
  pub turn : Turn (job_of job) run.phase (turning run.kept) after states new (Err f)

-- exactly as many turns as the limit were made, and it hadn't ended
pub record AtLimit (job : Job) (old new : DeviceStates) : Type 0 where
  pub run : Run
  pub unmet : List (Option (List ℕ))
  pub going : is_ended run.phase ≡ false
  pub turns : Turns (job_of job) old job.limits.turns run new unmet

-- by the answer, which turns a whole run made: after Ok as many as are reported, after `Turns` as many as the limit, after any other fault fewer, and
-- the one that halted it
unfoldable pub IsRun : Job → DeviceStates → DeviceStates → Result Report Fault → Type 0
IsRun job old new (Ok report) = (unmet : List (Option (List ℕ))) × Finished job old new report unmet
IsRun job old new (Err fault.Turns) = AtLimit job old new
IsRun job old new (Err fault.Ended) = ⊥
IsRun job old new (Err f) = Halted job old new f
