use Rattle.std.proofs.Common.{rules}
use Rattle.pt_object.proofs.rows.Rows.push.Goals as goal

pub returns-clause-ok : goal.returns-clause-ok
returns-clause-ok c = search rules
