use Rattle.pt_invariant.proofs.turns_left.ScansLower.{scans_lower}
use Rattle.pt_invariant.proofs.work_laws.scanning_decreases_rank.Goals as goal

pub returns : goal.returns
returns c = scans_lower
