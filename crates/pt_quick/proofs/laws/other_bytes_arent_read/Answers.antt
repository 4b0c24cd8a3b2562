use Rattle.pt_quick.proofs.Agree.{other_bytes}
use Rattle.pt_quick.proofs.laws.other_bytes_arent_read.Goals as goal

pub returns : goal.returns
returns c = other_bytes
