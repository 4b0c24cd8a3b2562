-- A run in progress has nothing to do with how often its devices failed.
use Rattle.pt_invariant.specs.RunInvariant.{Start}
use Rattle.pt_state.proofs.Words.{Job, Run, DeviceStates}
use Rattle.pt_invariant.specs.WorkLaws.{InvariantWithinWork}
use Rattle.pt_move.specs.Running.{as_told}

pub to_told : (job : Job) (start : Start) (states : DeviceStates) (run : Run) → InvariantWithinWork job start states run
    → InvariantWithinWork job start (as_told states) run
unfolding InvariantWithinWork
to_told job start states run (past, is, within) = (
  past,
  record {
    layout = is.layout;
    held = is.held;
    source = is.source;
    dest = is.dest;
    items = is.items;
    log = is.log;
    quiet = is.quiet;
    left = is.left;
  },
  within,
)

pub of_told : (job : Job) (start : Start) (states : DeviceStates) (run : Run) → InvariantWithinWork job start (as_told states) run
    → InvariantWithinWork job start states run
unfolding InvariantWithinWork
of_told job start states run (past, is, within) = (
  past,
  record {
    layout = is.layout;
    held = is.held;
    source = is.source;
    dest = is.dest;
    items = is.items;
    log = is.log;
    quiet = is.quiet;
    left = is.left;
  },
  within,
)
