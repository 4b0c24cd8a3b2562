use Rattle.std.proofs.Common.{arith}
use Rattle.pt_object.proofs.digest.DigestPartialEq.eq.Goals as goal

pub returns : goal.returns
returns c = grind arith steps 100000
