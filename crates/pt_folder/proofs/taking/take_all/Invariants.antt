use Rattle.std.proofs.Common.{◌≡◌, List, ℕ, length}
use Rattle.std.specs.Io.KnownBytes.{Consumes}
use Rattle.pt_folder.specs.Names.{GivesNames}
use Rattle.pt_folder.proofs.Turns.{Got}
use Rattle.pt_folder.proofs.taking.take_all.Given as goal

-- what was read so far was taken
abbrev pub invariant-loop : goal.invariant-loop
invariant-loop g l = record {
  piece : length l.piece ≡ 8192;
  taken : (all : List (List ℕ)) × g.T.Takes.has l.taken all × ((read : List ℕ) × Consumes (g.D.Input.left l.fn.dir) (g.D.Input.left l.dir) read
      × GivesNames read all) × Got g.D.Input.reads l.fn.dir l.dir all l.counter;
}
