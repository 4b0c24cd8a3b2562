use Rattle.std.proofs.Common.{rules}
use Rattle.pt_object.proofs.files.sidecar.Goals as goal

pub returns : goal.returns
returns c = search rules
