use Rattle.std.proofs.Common.{rules}
use Rattle.pt_state.proofs.telling.as_told.Goals as goal

pub returns : goal.returns
returns c = search rules
