use Rattle.pt_object.proofs.HexLanes.{computed}
use Rattle.pt_object.proofs.digits.digits_of.Goals as goal

pub returns : goal.returns
returns c = computed c.args.numbers c.fits-numbers.0 c.requires
