use Rattle.pt_invariant.proofs.held.ScansHold.{scans_hold}
use Rattle.pt_invariant.proofs.laws.scanning_keeps_held.Goals as goal

pub returns : goal.returns
returns c = scans_hold
