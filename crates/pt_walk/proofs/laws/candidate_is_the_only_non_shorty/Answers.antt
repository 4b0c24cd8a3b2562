use Rattle.pt_walk.proofs.Findings.{candidate}
use Rattle.pt_walk.proofs.laws.candidate_is_the_only_non_shorty.Goals as goal

pub returns : goal.returns
returns c = candidate
