use Rattle.std.proofs.Common.{rules}
use Rattle.pt_audit.proofs.counts.Counts.with.Goals as goal

pub returns-in-Absent : goal.returns-in-Absent
returns-in-Absent c = search rules
