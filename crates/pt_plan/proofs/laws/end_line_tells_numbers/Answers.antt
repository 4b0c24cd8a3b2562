use Rattle.pt_plan.proofs.Counts.{end_line_tells_numbers}
use Rattle.pt_plan.proofs.laws.end_line_tells_numbers.Goals as goal

pub returns : goal.returns
returns c = end_line_tells_numbers
