use Rattle.std.proofs.Common.{rules}
use Rattle.pt_folder.proofs.moving.holder.Goals as goal

pub returns : goal.returns
returns c = search rules
