use Rattle.std.proofs.Common.{rules}
use Rattle.pt_cli.proofs.faults.refusal.Goals as goal

pub returns-in-DisplayHelp-Ok : goal.returns-in-DisplayHelp-Ok
returns-in-DisplayHelp-Ok g c = search rules
