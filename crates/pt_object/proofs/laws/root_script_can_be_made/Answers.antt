use Rattle.pt_object.proofs.RootScripts as scripts
use Rattle.pt_object.proofs.laws.root_script_can_be_made.Goals as goal

pub returns : goal.returns
returns c = scripts.root_script_can_be_made
