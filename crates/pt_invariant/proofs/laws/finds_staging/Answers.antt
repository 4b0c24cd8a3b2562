use Rattle.pt_invariant.proofs.refusals.StagingFound.{finds_staging}
use Rattle.pt_invariant.proofs.laws.finds_staging.Goals as goal

pub returns : goal.returns
returns c = finds_staging
