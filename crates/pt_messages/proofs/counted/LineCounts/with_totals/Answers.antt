use Rattle.std.proofs.Common.{rules}
use Rattle.pt_messages.proofs.counted.LineCounts.with_totals.Goals as goal

pub returns-in-Run : goal.returns-in-Run
returns-in-Run c = search rules

pub returns-in-Audit : goal.returns-in-Audit
returns-in-Audit c = search rules

pub returns-in-Check : goal.returns-in-Check
returns-in-Check c = search rules
