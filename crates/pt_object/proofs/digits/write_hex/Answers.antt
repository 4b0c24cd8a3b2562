use Rattle.std.proofs.Common.{arith, refl}
use Rattle.hex.specs.Hex.{encode_with, lower_digits}
use Rattle.pt_object.proofs.HexLanes.{one_more}
use Rattle.pt_object.proofs.digits.write_hex.Goals as goal

pub loop-i-init : goal.loop-i-init
unfolding encode_with
loop-i-init c = refl

pub loop-i-preserved : goal.loop-i-preserved
loop-i-preserved c =
    one_more lower_digits c.args.bytes.now c.loop-i.room c.in_hex.result c.loop-i.i _ (omega arith) (omega (arith, c.loop-i-test.true, c.requires.fits))
    (omega (arith, c.loop-i-test.true, c.requires.fits))
    (omega (arith, c.loop-i-test.true)) c.loop-i.invariant c.in_hex.ensures
