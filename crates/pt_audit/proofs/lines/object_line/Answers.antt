use Rattle.std.proofs.Common.{rules}
use Rattle.pt_audit.proofs.lines.object_line.Goals as goal

pub returns-in-Absent : goal.returns-in-Absent
returns-in-Absent c = search rules
