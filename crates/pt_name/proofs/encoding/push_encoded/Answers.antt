use Rattle.std.proofs.Common.{rules}
use Rattle.pt_name.proofs.encoding.push_encoded.Goals as goal

pub returns-in_ok-extend_from_slice-in_default : goal.returns-in_ok-extend_from_slice-in_default
returns-in_ok-extend_from_slice-in_default c = search rules
