use Rattle.pt_plan.proofs.TakenPlaces.{next_place_stands_where_taken}
use Rattle.pt_plan.proofs.laws.next_place_stands_where_taken.Goals as goal

pub returns : goal.returns
returns c = next_place_stands_where_taken
