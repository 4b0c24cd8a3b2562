-- A new run is in progress.
use Rattle.std.proofs.Common.{◌≡◌, ℕ, true, List, [], refl, sym, append-nil, arith}
use Rattle.std.specs.Prelude.{Option, None, Some}
use Rattle.std.specs.Option.{ForSome}
use Rattle.pt_name.specs.Tuples.{IsLayout}
use Rattle.pt_tree.specs.Dest.{Writing}
use Rattle.pt_tree.specs.Forest.{Forest, is_proper}
use Rattle.pt_tree.specs.Source.{Reading}
use Rattle.pt_tree.specs.Tree.{IsTree, Tree}
use Rattle.pt_invariant.specs.RunInvariant.{RunInvariant, HasTold, IsHistory, IsQuiet, AreStates, TellsAsBefore, TellsStill, start_of}
use Rattle.pt_invariant.specs.DestInvariant.{DestPart}
use Rattle.pt_invariant.specs.SourceInvariant.{SourcePart}
use Rattle.pt_plan.specs.Roots.{root_in}
use Rattle.pt_invariant.specs.HeldInvariant.{HeldAt}
use Rattle.pt_invariant.specs.InvariantLaws.{NewRunHoldsInvariant}
use Rattle.pt_plan.specs.Job.{Job}
use Rattle.pt_invariant.specs.History.{no_history}
use Rattle.pt_plan.specs.Run.{new_run, nothing_held}
use Rattle.pt_plan.specs.DeviceStates.{DeviceStates, dest_tree}
use Rattle.pt_plan.specs.declared.phase.Opening.TheVariants as opening
use Rattle.pt_plan.specs.declared.phase.Phase.TheVariants as phase

held_new : (job : Job) → HeldAt job no_history (phase.Opening opening.Begin) nothing_held
held_new _ = record {
  trail = record { is_one = refl; none = refl; entry = tt };
  ends = tt;
  rows = record { rows = refl; contents = refl };
  behind = tt;
  numbers = tt;
  fed = tt;
}

source_new : (job : Job) {s : Reading} → is_proper s.tree ≡ true → SourcePart job no_history (phase.Opening opening.Begin) [] nothing_held s
source_new job proper = record {
  proper = proper;
  at = (record { trail = refl; rows = refl; contents = refl }, refl, refl);
  bytes = tt;
  few = omega arith;
}

dest_new : (job : Job) (dest : Option Writing) → ForSome dest (λ now. IsTree now.tree)
    → TellsAsBefore (dest_tree dest) dest (DestPart job no_history (phase.Opening opening.Begin) nothing_held)
dest_new _ None _ = tt
dest_new _ (Some now) tree = record { started = tree now refl; tree = tree now refl; at = record { tree = refl } }

log_new : (job : Job) (source : Forest) (root : Tree) (log : Option (List ℕ))
    → TellsStill log log (HasTold job source root no_history (phase.Opening opening.Begin))
log_new _ _ _ None = tt
log_new _ _ _ (Some bytes) = sym (append-nil bytes)

quiet_new : (log : Option (List ℕ)) → TellsStill log log (IsQuiet (phase.Opening opening.Begin))
quiet_new None = tt
quiet_new (Some _) = refl

-- nothing is behind it
pub new_past : {job : Job} {states : DeviceStates} → IsLayout job.tuples → AreStates states → IsHistory job (start_of states) states new_run no_history
new_past {job} {states} layout is = record {
  layout = layout;
  held = held_new job;
  source = λ s e. source_new job (is.source s e);
  dest = dest_new job states.dest is.dest;
  items = λ s e old f. record { places = record { placed = refl; next = tt }; lines_are = record { done = refl; present = refl; skipped = refl } };
  log = λ s e old f. log_new job s.tree (root_in old) states.log;
  quiet = quiet_new states.log;
  left = λ s e old f now g first h last i. tt;
}

pub new_run_holds_invariant : NewRunHoldsInvariant
unfolding RunInvariant
new_run_holds_invariant _ _ layout is = (no_history, new_past layout is)
