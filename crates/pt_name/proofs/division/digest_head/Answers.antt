use Rattle.std.proofs.Common.{◌∙◌, ap}
use Rattle.std.specs.Int.{from_be_bytes, w32}
use Rattle.pt_name.specs.Share.{digest_number}
use Rattle.pt_name.proofs.division.digest_head.Goals as goal

pub returns : goal.returns
unfolding digest_number
returns c = c.head_of.ensures ∙ ap (from_be_bytes w32) c.digest.ensures
