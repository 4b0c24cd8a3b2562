use Rattle.pt_plan.proofs.Growing.{all_items_are_all}
use Rattle.pt_plan.proofs.laws.all_items_are_all.Goals as goal

pub returns : goal.returns
returns c = all_items_are_all
