-- Runs that are made anew after a fault, once `staging` is taken away.
use Rattle.std.specs.Prelude.{◌≡◌, IsSome, Option, Some}
use Rattle.std.specs.Option.{option_map}
use Rattle.pt_object.specs.Scripts.{staging}
use Rattle.pt_plan.specs.Carried.{IsStart, after_all}
use Rattle.pt_plan.specs.Job.{Job}
use Rattle.pt_plan.specs.Roots.{root_in, with_root}
use Rattle.pt_plan.specs.DeviceStates.{DeviceStates, dest_tree}
use Rattle.pt_tree.specs.Source.{tree_in}
use Rattle.pt_tree.specs.Dest.{Writing}
use Rattle.pt_tree.specs.Forest.{Forest}
use Rattle.pt_tree.specs.Tree.{IsTree, Tree, without}

-- what one undisturbed run leaves
abbrev pub undisturbed : Job → Forest → Tree → Tree
undisturbed job source start = with_root (without start staging) (after_all job source (root_in start))

-- `staging` is taken away, where the destination tells
abbrev pub TakesStaging : Option Writing → Option Writing → Type 0
TakesStaging old new = dest_tree new ≡ option_map (λ t. without t staging) (dest_tree old)

-- all three tell, a run may end well, and then it leaves what one undisturbed run leaves of this start
pub record MayEndAs (job : Job) (source : Forest) (start : Tree) (states : DeviceStates) : Type 0 where
  pub tells : tree_in states.source ≡ Some source
  pub now : Tree
  pub stands : dest_tree states.dest ≡ Some now
  pub tree : IsTree now
  pub begins : IsStart job source (root_in now)
  pub same : undisturbed job source now ≡ undisturbed job source start
  pub log : IsSome states.log
