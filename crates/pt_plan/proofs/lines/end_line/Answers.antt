use Rattle.pt_plan.proofs.lines.end_line.Goals as goal

pub returns : goal.returns
returns c = c.line_with.ensures
