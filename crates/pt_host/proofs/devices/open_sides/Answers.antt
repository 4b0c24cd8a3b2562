use Rattle.std.proofs.Common.{rules}
use Rattle.pt_host.proofs.devices.open_sides.Goals as goal

pub returns-clause-left_out : goal.returns-clause-left_out
returns-clause-left_out g c = search rules

pub returns-clause-folder : goal.returns-clause-folder
returns-clause-folder g c = search rules
