use Rattle.pt_walk.proofs.Findings.{last_name_says}
use Rattle.pt_walk.proofs.laws.last_name_says_where.Goals as goal

pub returns : goal.returns
returns c = last_name_says
