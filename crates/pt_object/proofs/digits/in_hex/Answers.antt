use Rattle.pt_object.proofs.HexLanes.{high_ok, low_ok, sixteen_in_hex}
use Rattle.pt_object.proofs.digits.in_hex.Goals as goal

pub digits_of-upper-requires : goal.digits_of-upper-requires
digits_of-upper-requires c = high_ok c.args.bytes c.fits-bytes

pub digits_of-lower-requires : goal.digits_of-lower-requires
digits_of-lower-requires c = low_ok c.args.bytes c.fits-bytes

pub returns : goal.returns
returns c = sixteen_in_hex c.args.bytes c.digits_of-upper.result c.digits_of-lower.result c.fits-bytes c.digits_of-upper.ensures c.digits_of-lower.ensures
