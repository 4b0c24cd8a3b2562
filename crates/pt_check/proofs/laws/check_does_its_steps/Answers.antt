use Rattle.pt_check.proofs.StepsOfStore.{check_does_its_steps}
use Rattle.pt_check.proofs.laws.check_does_its_steps.Goals as goal

pub returns : goal.returns
returns c = check_does_its_steps
