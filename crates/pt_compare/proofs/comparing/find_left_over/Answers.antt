use Rattle.std.proofs.Common.{refl}
use Rattle.pt_compare.proofs.comparing.find_left_over.Goals as goal

pub returns-in-Some-clause-left : goal.returns-in-Some-clause-left
returns-in-Some-clause-left c = (refl, rw c.in-Some.is at c.in_ok-path.ensures.noted)
