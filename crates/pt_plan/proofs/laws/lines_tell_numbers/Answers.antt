use Rattle.pt_plan.proofs.Counts.{lines_tell_numbers}
use Rattle.pt_plan.proofs.laws.lines_tell_numbers.Goals as goal

pub returns : goal.returns
returns c = lines_tell_numbers
