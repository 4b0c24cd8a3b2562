-- A run that is in progress over a source that tells.
use Rattle.std.specs.Prelude.{◌≡◌, ◌≤◌, ℕ, Some}
use Rattle.pt_invariant.specs.RunInvariant.{Start}
use Rattle.pt_move.specs.Running.{IsBegun, Running}
use Rattle.pt_plan.specs.Bound.{bound}
use Rattle.pt_plan.specs.Roots.{root_in}
use Rattle.pt_plan.specs.Work.{work}
use Rattle.pt_plan.specs.DeviceStates.{DeviceStates}
use Rattle.pt_tree.specs.Source.{tree_in}
use Rattle.pt_state.specs.States.{job_of}
use Rattle.pt_state.specs.declared.job.Job.{Job}
use Rattle.pt_tree.specs.Forest.{Forest}
use Rattle.pt_tree.specs.Tree.{Tree}

-- it began at this start, over this source, with this job
pub record GoesOn (start : Start) (source : Forest) (job : Job) (states : DeviceStates) (r : Running) : Type 0 where
  pub begun : IsBegun start states r
  pub tree : tree_in states.source ≡ Some source
  pub job_is : r.state.job ≡ job

-- so many records are within the source's bound, and so many turns within the work, where the destination told at the start
pub record IsMost (job : Job) (start : Start) (source : Forest) (records turns : ℕ) : Type 0 where
  pub records_within : records ≤ bound (job_of job) source
  pub turns_within : (t : Tree) → start.dest ≡ Some t → turns ≤ work (job_of job) source (root_in t)
