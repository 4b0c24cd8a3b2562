use Rattle.pt_name.specs.Place.{encoded_spelling}
use Rattle.pt_name.proofs.ByteByByte.{all_bytes, one_more}
use Rattle.pt_name.proofs.encoding.encoded.Goals as goal

pub loop-byte-preserved : goal.loop-byte-preserved
loop-byte-preserved c = one_more encoded_spelling c.args.id.now c.loop-byte.byte-index _ _ c.loop-byte-test.true c.loop-byte.invariant
    c.in_ok-push_encoded.ensures

pub returns : goal.returns
returns c = all_bytes encoded_spelling c.args.id.now c.loop-byte.byte-index _ c.loop-byte-test.false c.loop-byte.invariant
