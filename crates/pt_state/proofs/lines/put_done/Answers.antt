use Rattle.std.proofs.Common.{rules}
use Rattle.pt_state.proofs.lines.put_done.Goals as goal

pub returns : goal.returns
returns g c = search rules

pub returns-in_err-put : goal.returns-in_err-put
returns-in_err-put g c = search rules
