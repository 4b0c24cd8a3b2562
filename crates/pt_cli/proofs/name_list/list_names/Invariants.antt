use Rattle.std.proofs.Common.{◌<◌, length}
use Rattle.pt_cli.proofs.SoFar.{SoFar}
use Rattle.pt_cli.proofs.name_list.list_names.Given as goal

-- the names of what was read were written, and there is room for a piece
abbrev pub invariant-loop : goal.invariant-loop
invariant-loop g l =
    SoFar l.asked (g.I.Read.remaining l.fn.input) (g.I.Read.remaining l.input) (g.W.Write.contents l.fn.out) (g.W.Write.contents l.out) l.listing
    × (0 < length l.room)
