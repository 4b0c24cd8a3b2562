use Rattle.pt_object.proofs.ObjectScripts as scripts
use Rattle.pt_object.proofs.laws.paths_in_order_are_apart.Goals as goal

pub returns : goal.returns
returns c = scripts.in_order_apart
