use Rattle.std.proofs.Common.{refl}
use Rattle.pt_folder.proofs.failure.Last.record_unsynced.Goals as goal

pub returns-clause-fault : goal.returns-clause-fault
returns-clause-fault c = refl
