use Rattle.pt_quick.proofs.LengthTexts.{same_length}
use Rattle.pt_quick.proofs.laws.lengths_are_told.Goals as goal

pub returns : goal.returns
returns c = same_length
