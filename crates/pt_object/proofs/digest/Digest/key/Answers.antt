use Rattle.std.proofs.Common.{arith}
use Rattle.pt_object.proofs.digest.Digest.key.Goals as goal

pub returns : goal.returns
returns c = grind arith steps 100000
