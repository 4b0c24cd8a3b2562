use Rattle.std.proofs.Common.{rules}
use Rattle.pt_folder.proofs.failure.Last.keep.Goals as goal

pub returns : goal.returns
returns c = search rules
