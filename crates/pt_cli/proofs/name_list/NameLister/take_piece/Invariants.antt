use Rattle.std.proofs.Common.{◌≡◌, Ok, take}
use Rattle.pt_cli.specs.Feeding.{fed}
use Rattle.pt_cli.proofs.name_list.NameLister.take_piece.Given as goal

-- the bytes before were read
abbrev pub invariant-loop-byte : goal.invariant-loop-byte
invariant-loop-byte l = fed l.asked (Ok l.fn.self) (take l.byte-index l.piece) ≡ Ok l.self
