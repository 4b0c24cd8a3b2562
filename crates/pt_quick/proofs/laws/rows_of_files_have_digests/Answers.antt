use Rattle.pt_quick.proofs.Digests.{rows_have_digests}
use Rattle.pt_quick.proofs.laws.rows_of_files_have_digests.Goals as goal

pub returns : goal.returns
returns c = rows_have_digests
