-- What is held after each step.
use Rattle.std.proofs.Common.{◌≡◌, ◌≤◌, ◌+◌, ℕ, max, Ok, Some, length, arith, ◌∙◌, ap, subst, sym}
use Rattle.pt_invariant.specs.RunInvariant.{Start}
use Rattle.pt_move.specs.Outcome.{HoldsWithinBound, MadeWithinWork}
use Rattle.pt_move.specs.Promises.{Keeps}
use Rattle.pt_move.specs.Running.{Running}
use Rattle.pt_move.specs.Stepping.{StepLeaves}
use Rattle.pt_move.specs.declared.mover.Turn.{Turn}
use Rattle.pt_plan.specs.Bound.{bound}
use Rattle.pt_plan.specs.Roots.{root_in}
use Rattle.pt_plan.specs.Work.{work}
use Rattle.pt_plan.specs.DeviceStates.{DeviceStates}
use Rattle.pt_state.specs.States.{job_of}
use Rattle.pt_state.specs.declared.job.Job.{Job}
use Rattle.pt_state.specs.declared.job.Report.{Report}
use Rattle.pt_tree.specs.Forest.{Forest}
use Rattle.pt_tree.specs.Tree.{Tree}
use Rattle.pt_walk.specs.Trail.{entries_held}
use Rattle.pt_move.specs.Holding.{GoesOn, IsMost}

-- it goes on, and holds no more than the bound
pub goes_on : (start : Start) (source : Forest) (job : Job) (old new : DeviceStates) (a b : Running) (t : Turn) → GoesOn start source job old a
    → Keeps start old new a b (Ok t) → StepLeaves old new a b (Ok t) → GoesOn start source job new b
unfolding Keeps StepLeaves
goes_on start source job old new a b t is keeps leaves = record { begun = keeps.begun; tree = leaves.tree ∙ is.tree; job_is = leaves.job ∙ is.job_is }

pub held_within : (start : Start) (source : Forest) (job : Job) (old new : DeviceStates) (a b : Running) (t : Turn) → GoesOn start source job old a
    → Keeps start old new a b (Ok t)
    → entries_held b.state.trail + length b.state.rows + length b.state.contents ≤ bound (job_of job) source
unfolding Keeps HoldsWithinBound
held_within start source job old new a b t is keeps =
    subst (λ (j : Job). entries_held b.state.trail + length b.state.rows + length b.state.contents ≤ bound (job_of j) source) is.job_is
    (keeps.bound source is.tree)

pub most_within : (most records limit : ℕ) → most ≤ limit → records ≤ limit → max most records ≤ limit
most_within most records limit a b = omega arith

pub made_within : (start : Start) (source : Forest) (job : Job) (old new : DeviceStates) (a b : Running) (t : Turn) → GoesOn start source job old a
    → Keeps start old new a b (Ok t)
    → (d : Tree) → start.dest ≡ Some d → b.state.counts.turns ≤ work (job_of job) source (root_in d)
unfolding Keeps MadeWithinWork
made_within start source job old new a b t is keeps d told = subst (λ (j : Job). b.state.counts.turns ≤ work (job_of j) source (root_in d)) is.job_is
    (keeps.work source d is.tree told)

-- the most after one more turn
pub most_after : (start : Start) (source : Forest) (job : Job) (old new : DeviceStates) (a b : Running) (t : Turn) (most held records turns : ℕ)
    (counts : Report) → GoesOn start source job old a → Keeps start old new a b (Ok t)
    → most ≤ bound (job_of job) source → held ≡ entries_held b.state.trail + length b.state.rows + length b.state.contents → records ≡ max most held
    → counts ≡ b.state.counts → turns ≡ counts.turns
    → IsMost job start source records turns
most_after start source job old new a b t most held records turns counts is keeps within held_is records_is counts_is turns_is = record {
  records_within =
      let limit = bound (job_of job) source in
      subst (λ (n : ℕ). n ≤ limit) (sym records_is) (most_within most held limit within
      (subst (λ (n : ℕ). n ≤ limit) (sym held_is) (held_within start source job old new a b t is keeps)));
  turns_within = λ d told. subst (λ (n : ℕ). n ≤ work (job_of job) source (root_in d)) (sym (turns_is ∙ ap (λ (c : Report). c.turns) counts_is))
      (made_within start source job old new a b t is keeps d told);
}
