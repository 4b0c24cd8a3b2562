use Rattle.pt_object.proofs.Moved as moved
use Rattle.pt_object.proofs.laws.last_file_tells_folders.Goals as goal

pub returns : goal.returns
returns c = moved.last_file_tells_folders
