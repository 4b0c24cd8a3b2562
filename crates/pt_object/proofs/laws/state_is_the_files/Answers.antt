use Rattle.pt_object.proofs.VersionStates as states
use Rattle.pt_object.proofs.laws.state_is_the_files.Goals as goal

pub returns : goal.returns
returns c = states.state_is_the_files
