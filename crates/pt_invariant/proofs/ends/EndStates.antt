-- What the versions say of the objects that a run leaves that ends well.
use Rattle.std.proofs.Common.{◌≡◌, true}
use Rattle.std.specs.Prelude.{Some}
use Rattle.pt_tree.specs.Forest.{is_proper}
use Rattle.pt_tree.specs.Source.{Reading}
use Rattle.pt_tree.specs.Tree.{IsTree, Tree}
use Rattle.pt_plan.proofs.WholeObjects.{carried_have_their_files}
use Rattle.pt_plan.specs.Job.{Job}
use Rattle.pt_plan.specs.Run.{Run}
use Rattle.pt_plan.specs.DeviceStates.{DeviceStates}
use Rattle.pt_invariant.specs.RunInvariant.{RunInvariant, Start}
use Rattle.pt_invariant.specs.DestInvariant.{DestPart}
use Rattle.pt_invariant.specs.EndLaws.{EndsWithStates}
use Rattle.pt_invariant.proofs.ends.Ending.{ends_well}
use Rattle.pt_invariant.proofs.items.Telling.{both_tell}

-- what told at the start was a tree, and the names in the source rise
well_told : (job : Job) (start : Start) (states : DeviceStates) (run : Run) {s : Reading} {t : Tree} → RunInvariant job start states run
    → states.source ≡ Some s → start.dest ≡ Some t → (is_proper s.tree ≡ true) × IsTree t
unfolding RunInvariant
well_told job start states run {s} (past, is) source_is start_is =
    ((is.source s source_is).proper, (both_tell (DestPart job past run.phase run.kept.held) start.dest states.dest start_is is.dest).2.started)

pub ends_with_states : EndsWithStates
ends_with_states job start old new run after s t now first last begun turn source_is start_is dest_is first_is last_is =
    let well = well_told job start old run begun source_is start_is in
    let ends = ends_well job start old new run after s t now first last begun turn source_is start_is dest_is first_is last_is in
    rw ends.0.2.tree (carried_have_their_files job s.tree t well.0 well.1)
