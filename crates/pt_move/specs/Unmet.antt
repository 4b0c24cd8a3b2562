-- Which identifiers of a list a run leaves unmet.
use Rattle.std.specs.Prelude.{◌≡◌, ℕ, suc, List, Option, Result, Ok, Err, take, ⊤}
use Rattle.std.specs.Option.{ForSome}
use Rattle.pt_plan.specs.DeviceStates.{DeviceStates}
use Rattle.pt_plan.specs.Job as plan
use Rattle.pt_plan.specs.Met.{unmet_among, unmet_in_store}
use Rattle.pt_plan.specs.Store.{prefix_of, sites_of}
use Rattle.pt_plan.specs.declared.phase.Phase.{Phase}
use Rattle.pt_plan.specs.declared.phase.Opening.TheVariants as opening
use Rattle.pt_plan.specs.declared.phase.Phase.TheVariants as phase
use Rattle.pt_plan.specs.declared.fault.Fault.{Fault}
use Rattle.pt_state.specs.States.{job_of}
use Rattle.pt_state.specs.declared.job.Job.{Job}
use Rattle.pt_state.specs.declared.job.Report.{Report}
use Rattle.pt_move.specs.Runs.{Finished}
use Rattle.pt_move.specs.declared.migration.Completion.{Completion}
use Rattle.pt_tree.specs.Forest.{Forest}
use Rattle.pt_tree.specs.Source.{tree_in}

-- those that none of the first so many sites reads
abbrev pub unmet_before : plan.Job → Forest → ℕ → List (Option (List ℕ))
unmet_before job source count =
    unmet_among job (prefix_of source) (take count (sites_of (plan.reach_of job) source))

-- those that are unmet at a phase, of a run or a survey, where so many items of the source are done: while an object is under way its site was
-- judged too, and behind the end there is no site left
abbrev pub AreUnmet : plan.Job → Forest → Phase → ℕ → List (Option (List ℕ)) → Type 0
AreUnmet job source (phase.Opening opening.Begin) count unmet = ⊤
AreUnmet job source (phase.Carrying object stage) count unmet = unmet ≡ unmet_before job source (suc count)
AreUnmet job source phase.Ended count unmet = unmet ≡ unmet_in_store job source
AreUnmet job source _ count unmet = unmet ≡ unmet_before job source count

-- the report of a run that came to its end
abbrev pub report_of : Result Completion Fault → Result Report Fault
report_of (Ok completion) = Ok completion.report
report_of (Err fault) = Err fault

-- a run that came to its end leaves those unmet that its turns leave; where the source tells, they are those that are met nowhere in it
pub record LeavesUnmet (job : Job) (old new : DeviceStates) (completion : Completion) : Type 0 where
  pub turns : Finished job old new completion.report completion.unmet
  pub store : ForSome (tree_in old.source) (λ s. completion.unmet ≡ unmet_in_store (job_of job) s)
