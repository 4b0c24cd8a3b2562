use Rattle.std.proofs.Common.{rules}
use Rattle.pt_name.proofs.identifying.with_place.Goals as goal

pub returns-then-not-takes : goal.returns-then-not-takes
returns-then-not-takes c = search rules
