use Rattle.pt_plan.proofs.Counts.{each_line_is_counted}
use Rattle.pt_plan.proofs.laws.each_line_is_counted.Goals as goal

pub returns : goal.returns
returns c = each_line_is_counted
