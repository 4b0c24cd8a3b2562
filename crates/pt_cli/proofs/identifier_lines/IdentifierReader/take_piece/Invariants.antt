use Rattle.pt_cli.proofs.IdentifierLines.{IsWithin}
use Rattle.pt_cli.proofs.identifier_lines.IdentifierReader.take_piece.Given as goal

-- the bytes before were read
abbrev pub invariant-loop-byte : goal.invariant-loop-byte
invariant-loop-byte l = IsWithin l.fn.self l.piece l.byte-index l.self
