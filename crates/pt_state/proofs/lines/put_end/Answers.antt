use Rattle.std.proofs.Common.{rules}
use Rattle.pt_state.proofs.lines.put_end.Goals as goal

pub returns : goal.returns
returns g c = search rules
