-- A run after a fault, once `staging` is taken away, leaves what one undisturbed run leaves.
use Rattle.std.specs.Prelude.{◌≡◌, ◌⊎◌, List, [], ℕ}
use Rattle.pt_object.specs.Holding.{IsFree}
use Rattle.pt_object.specs.Scripts.{staging}
use Rattle.pt_tree.specs.Forest.{Forest}
use Rattle.pt_tree.specs.Tree.{IsTree, Tree, without}
use Rattle.pt_plan.specs.Carried.{IsStart, IsUsable, after_all}
use Rattle.pt_plan.specs.Faults.{FaultState}
use Rattle.pt_plan.specs.Job.{Job}
use Rattle.pt_plan.specs.Lines.{all_lines}
use Rattle.pt_plan.specs.PlaceLaws.{IsRooted}
use Rattle.pt_plan.specs.Roots.{root_in, with_root}

-- no root, or a usable one
abbrev pub IsTarget : Job → Forest → Tree → Type 0
IsTarget job source root = IsFree root [] ⊎ IsUsable job source root

-- over the later root a run can end where one over the first can, and leaves what it leaves over the first
pub record EndsAlike (job : Job) (source : Forest) (first later : Tree) : Type 0 where
  pub rooted : IsRooted later
  pub target : IsTarget job source later
  pub same : after_all job source later ≡ after_all job source first

-- so it is with the root that any fault leaves
abbrev pub RerunEndsAlike : Type 0
RerunEndsAlike =
    (job : Job) (source : Forest) (start now : Tree) (log : List ℕ) → IsRooted (root_in start)
    → IsTarget job source (root_in start) → FaultState job source start now log
    → EndsAlike job source (root_in start) (root_in now)

-- a run over what is left, once `staging` is taken away: it may end well, nothing stands at `staging`, and what it then leaves is what one
-- undisturbed run leaves
pub record RerunEnds (job : Job) (source : Forest) (start now : Tree) : Type 0 where
  pub begins : IsStart job source (root_in (without now staging))
  pub free : IsFree (without now staging) staging
  pub same : with_root (without now staging) (after_all job source (root_in (without now staging)))
      ≡ with_root (without start staging) (after_all job source (root_in start))

-- so it is with what any fault leaves of a run that might have ended well
abbrev pub RerunLeavesTheSame : Type 0
RerunLeavesTheSame =
    (job : Job) (source : Forest) (start now : Tree) (log : List ℕ) → IsTree start
    → IsStart job source (root_in start) → FaultState job source start now log
    → RerunEnds job source start now

-- taking `staging` away leaves the root
abbrev pub RootStaysWithoutStaging : Type 0
RootStaysWithoutStaging = (t : Tree) → root_in (without t staging) ≡ root_in t

-- a job with another limit of turns
abbrev pub with_turns : Job → ℕ → Job
with_turns job turns = record job { limits = record job.limits { turns = turns } }

-- the limit of turns has no part in what is carried and told
abbrev pub TurnsHaveNoPart : Type 0
TurnsHaveNoPart =
    (job : Job) (turns : ℕ) (source : Forest) (root : Tree)
    → (after_all (with_turns job turns) source root ≡ after_all job source root)
    × (all_lines (with_turns job turns) source root ≡ all_lines job source root)
    × (IsTarget job source root → IsTarget (with_turns job turns) source root)
