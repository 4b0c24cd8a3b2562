use Rattle.std.proofs.Common.{rules}
use Rattle.pt_move.proofs.mover.Mover.fresh.Goals as goal

pub returns : goal.returns
returns c = search rules
