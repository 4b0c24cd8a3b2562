use Rattle.std.proofs.Common.{rules}
use Rattle.pt_audit.proofs.counts.Counts.with_skipped.Goals as goal

pub returns : goal.returns
returns c = search rules
