use Rattle.std.proofs.Common.{◌≡◌, length}
use Rattle.pt_guard.proofs.ReadThrough.{HasRead}
use Rattle.pt_guard.proofs.declared.is_declared.Given as goal

abbrev pub invariant-loop : goal.invariant-loop
invariant-loop g l = record {
  read : HasRead (g.D.Read.remaining l.fn.dir) (g.D.Read.remaining l.dir) l.names.items;
  piece : length l.piece ≡ 8192;
}
