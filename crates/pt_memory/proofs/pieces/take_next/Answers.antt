use Rattle.std.proofs.Common.{◌-◌, ap, arith, drop, length, take}
use Rattle.std.proofs.lemmas.List.{length-drop, take_rest}
use Rattle.pt_memory.proofs.Taken.{piece}
use Rattle.pt_memory.proofs.pieces.take_next.Goals as goal

pub returns-clause-taken : goal.returns-clause-taken
returns-clause-taken c =
    let bytes = c.args.bytes.now in
    let place = c.args.place.now in
    let rest = take (length bytes - place) (drop place bytes) in
    piece bytes rest c.copy_from_slice.new.self c.args.buffer.now place c.args.count (take_rest bytes place) c.copy_from_slice.ensures.after
    (omega (arith, c.requires.left, length-drop place bytes, ap length (take_rest bytes place)))
