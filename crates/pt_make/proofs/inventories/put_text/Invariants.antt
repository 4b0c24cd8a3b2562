use Rattle.std.proofs.Common.{length}
use Rattle.pt_make.proofs.Pieces.{HasPut}
use Rattle.pt_make.proofs.inventories.put_text.Given as goal

-- what was made so far was put, and fed to the hasher
abbrev pub invariant-loop-text : goal.invariant-loop-text
invariant-loop-text g l = record {
  put : HasPut l.path l.fn.text.rest l.text.rest l.fn.hasher l.hasher (g.O.Io.states l.fn.out) (g.O.Io.states l.out);
  few : g.O.Io.within 0 0 l.fn.out l.out;
}

abbrev pub decreases-loop-text : goal.decreases-loop-text
decreases-loop-text g l = length l.text.rest
