use Rattle.pt_plan.proofs.TakenPlaces.{place_stands_where_taken}
use Rattle.pt_plan.proofs.laws.place_stands_where_taken.Goals as goal

pub returns : goal.returns
returns c = place_stands_where_taken
