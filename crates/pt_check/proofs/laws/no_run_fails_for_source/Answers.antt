use Rattle.pt_check.proofs.Readable.{no_run_fails}
use Rattle.pt_check.proofs.laws.no_run_fails_for_source.Goals as goal

pub returns : goal.returns
returns c = no_run_fails
