use Rattle.pt_object.proofs.Noting as noting
use Rattle.pt_object.proofs.laws.noting_gives_distinct.Goals as goal

pub returns : goal.returns
returns c = noting.noting_gives_distinct
