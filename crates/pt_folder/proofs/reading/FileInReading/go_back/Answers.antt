use Rattle.std.proofs.Common.{rules}
use Rattle.pt_folder.proofs.reading.FileInReading.go_back.Goals as goal

pub returns-in_ok-seek-clause-gone : goal.returns-in_ok-seek-clause-gone
returns-in_ok-seek-clause-gone g c = search rules
