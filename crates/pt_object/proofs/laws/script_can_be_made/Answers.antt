use Rattle.pt_object.proofs.ObjectScripts as scripts
use Rattle.pt_object.proofs.laws.script_can_be_made.Goals as goal

pub returns : goal.returns
returns c = scripts.script_can_be_made
