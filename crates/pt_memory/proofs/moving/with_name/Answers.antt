use Rattle.std.proofs.Common.{rules}
use Rattle.pt_memory.proofs.moving.with_name.Goals as goal

pub returns : goal.returns
returns c = search rules
