use Rattle.pt_plan.proofs.StagingKeeps.{root_stays_without_staging}
use Rattle.pt_plan.proofs.laws.root_stays_without_staging.Goals as goal

pub returns : goal.returns
returns c = root_stays_without_staging
