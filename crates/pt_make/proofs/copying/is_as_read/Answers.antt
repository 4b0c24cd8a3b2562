use Rattle.std.proofs.Common.{rules}
use Rattle.pt_make.proofs.copying.is_as_read.Goals as goal

pub returns-then-left-eq0 : goal.returns-then-left-eq0
returns-then-left-eq0 c = search rules
