use Rattle.pt_quick.proofs.HeldLengths.{alike_files_are_as_long}
use Rattle.pt_quick.proofs.laws.alike_files_are_as_long.Goals as goal

pub returns : goal.returns
returns c = alike_files_are_as_long
