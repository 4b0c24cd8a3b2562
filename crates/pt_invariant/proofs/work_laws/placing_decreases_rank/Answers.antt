use Rattle.pt_invariant.proofs.turns_left.PlacesLower.{places_lower}
use Rattle.pt_invariant.proofs.work_laws.placing_decreases_rank.Goals as goal

pub returns : goal.returns
returns c = places_lower
