use Rattle.pt_object.proofs.RootScripts as scripts
use Rattle.pt_object.proofs.laws.root_script_makes_the_root.Goals as goal

pub returns : goal.returns
returns c = scripts.root_script_makes_the_root
