use Rattle.std.proofs.Common.{rules}
use Rattle.pt_machine.proofs.system.making.Goals as goal

pub returns : goal.returns
returns c = search rules
