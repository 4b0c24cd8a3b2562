-- From a good start nothing is refused.
use Rattle.std.specs.Prelude.{◌≡◌, Some, Err}
use Rattle.pt_object.specs.Holding.{IsFree}
use Rattle.pt_object.specs.Scripts.{staging}
use Rattle.pt_tree.specs.Failures.{HasRisen}
use Rattle.pt_tree.specs.Source.{Reading}
use Rattle.pt_tree.specs.Tree.{Tree}
use Rattle.pt_plan.specs.Carried.{IsStart}
use Rattle.pt_plan.specs.Job.{Job}
use Rattle.pt_plan.specs.Roots.{root_in}
use Rattle.pt_plan.specs.Run.{Kept, Run, turning}
use Rattle.pt_plan.specs.Turn.{Turn}
use Rattle.pt_plan.specs.DeviceStates.{Failures, DeviceStates}
use Rattle.pt_plan.specs.declared.fault.Fault.{Fault}
use Rattle.pt_plan.specs.declared.fault.Fault.TheVariants as fault
use Rattle.pt_invariant.specs.RunInvariant.{RunInvariant, Start}

-- of no device the count of failures rose, or stood at its greatest value
pub record NoneRose (old new : Failures) : Type 0 where
  pub source : HasRisen old.source new.source → ⊥
  pub dest : HasRisen old.dest new.dest → ⊥
  pub log : HasRisen old.log new.log → ⊥

-- then a turn halts a run for want of memory alone, where source and destination tell, the start was a good one and nothing stood at `staging`
abbrev pub NothingIsRefused : Type 0
NothingIsRefused =
    (job : Job) (start : Start) (old new : DeviceStates) (run : Run) (after : Kept) (why : Fault)
    (s : Reading) (t : Tree) → RunInvariant job start old run
    → Turn job run.phase (turning run.kept) after old new (Err why) → old.source ≡ Some s
    → start.dest ≡ Some t
    → IsStart job s.tree (root_in t) → IsFree t staging → NoneRose old.failures new.failures
    → why ≡ fault.Memory
