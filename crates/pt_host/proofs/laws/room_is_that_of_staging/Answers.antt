use Rattle.pt_host.proofs.Roomy.{is_that}
use Rattle.pt_host.proofs.laws.room_is_that_of_staging.Goals as goal

pub returns : goal.returns
returns c = is_that
