use Rattle.std.proofs.Common.{◌≡◌, length}
use Rattle.pt_cli.proofs.IdentifierLines.{SoFar}
use Rattle.pt_cli.proofs.identifier_lines.read_identifiers.Given as goal

-- what was read of the file comes to what the reading comes to, and there is room for a block
abbrev pub invariant-loop : goal.invariant-loop
invariant-loop g l = record {
  whole : length l.block ≡ 8192;
  so_far : SoFar g.F.Input.reads l.fn.file l.file l.reader;
}
