use Rattle.pt_check.proofs.Readable.{readable_store}
use Rattle.pt_check.proofs.laws.quiet_check_means_readable_store.Goals as goal

pub returns : goal.returns
returns c = readable_store
