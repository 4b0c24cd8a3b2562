use Rattle.std.proofs.Common.{rules}
use Rattle.pt_folder.proofs.writing.close_within.Goals as goal

pub returns-then-is_within : goal.returns-then-is_within
returns-then-is_within g c = search rules

pub returns-else-is_within : goal.returns-else-is_within
returns-else-is_within g c = search rules
