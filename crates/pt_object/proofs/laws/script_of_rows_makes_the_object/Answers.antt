use Rattle.pt_object.proofs.ObjectScripts as scripts
use Rattle.pt_object.proofs.laws.script_of_rows_makes_the_object.Goals as goal

pub returns : goal.returns
returns c = scripts.script_of_rows_makes_the_object
