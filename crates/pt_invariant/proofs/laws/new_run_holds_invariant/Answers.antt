use Rattle.pt_invariant.proofs.ends.NewRun.{new_run_holds_invariant}
use Rattle.pt_invariant.proofs.laws.new_run_holds_invariant.Goals as goal

pub returns : goal.returns
returns c = new_run_holds_invariant
