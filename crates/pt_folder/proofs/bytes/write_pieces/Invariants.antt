use Rattle.std.proofs.Common.{◌-◌, ◌≤◌, List, ℕ, length, drop}
use Rattle.std.specs.List.{FoldsTo}
use Rattle.pt_folder.specs.Runs.{WritesMore, on_pairs}
use Rattle.pt_folder.proofs.bytes.write_pieces.Given as goal

-- what is done was written
abbrev pub invariant-loop-done : goal.invariant-loop-done
invariant-loop-done g l = record {
  within : l.done ≤ length l.bytes;
  writes : (counts : List ℕ) × FoldsTo (WritesMore (on_pairs g.S.System.writes)) ((l.fn.system, l.fn.file), l.bytes) counts
      ((l.system, l.file), drop l.done l.bytes);
}

abbrev pub decreases-loop-done : goal.decreases-loop-done
decreases-loop-done g l = length l.bytes - l.done
