use Rattle.std.proofs.Common.{arith, rules}
use Rattle.pt_host.proofs.event.EventPaths.replace.Goals as goal

pub returns : goal.returns
returns g c = search rules

pub returns-in_err-make_new : goal.returns-in_err-make_new
returns-in_err-make_new g c = grind arith steps 100000
