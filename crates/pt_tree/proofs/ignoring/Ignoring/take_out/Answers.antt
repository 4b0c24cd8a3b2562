use Rattle.std.proofs.Common.{rules}
use Rattle.pt_tree.proofs.ignoring.Ignoring.take_out.Goals as goal

pub returns-clause-left : goal.returns-clause-left
returns-clause-left g c = search rules

pub returns-clause-counted : goal.returns-clause-counted
returns-clause-counted g c = search rules
