use Rattle.pt_check.proofs.Readable.{clean_store}
use Rattle.pt_check.proofs.laws.quiet_check_means_clean_store.Goals as goal

pub returns : goal.returns
returns c = clean_store
