use Rattle.std.proofs.Common.{rules}
use Rattle.pt_folder.proofs.folder.Folder.text_to_make.Goals as goal

pub returns-clause-fits : goal.returns-clause-fits
returns-clause-fits c = search rules
