use Rattle.pt_quick.proofs.LengthTexts.{text_of_carried}
use Rattle.pt_quick.proofs.laws.long_files_are_marked.Goals as goal

pub returns : goal.returns
returns c = text_of_carried
