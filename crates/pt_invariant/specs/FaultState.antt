-- What a fault leaves of the destination and the log together.
use Rattle.std.specs.Prelude.{◌≡◌, ℕ, List, ◌++◌}
use Rattle.pt_tree.specs.Forest.{Forest}
use Rattle.pt_tree.specs.Tree.{Tree}
use Rattle.pt_plan.specs.Faults.{FaultState}
use Rattle.pt_plan.specs.Job.{Job}

-- the log begins with what it held at the start, and what was told since and what stands in the destination is such as any fault may leave of this source
pub record FaultStateAndLog (job : Job) (source : Forest) (start now : Tree) (first last : List ℕ) : Type 0 where
  pub told : List ℕ
  pub log : last ≡ first ++ told
  pub left : FaultState job source start now told
