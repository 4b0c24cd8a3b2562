use Rattle.std.proofs.Common.{◌≡◌, ◌-◌, ◌≤◌, List, ℕ, [], length, take}
use Rattle.std.specs.Io.KnownBytes.{Consumes}
use Rattle.std.specs.List.{FoldsTo}
use Rattle.pt_folder.specs.Runs.{ReadsMore}
use Rattle.pt_folder.proofs.bytes.fill.Given as goal

-- what is done was read
abbrev pub invariant-loop-done : goal.invariant-loop-done
invariant-loop-done g l = record {
  within : l.done ≤ length l.buffer;
  taken : Consumes (g.F.Input.left l.fn.file) (g.F.Input.left l.file) (take l.done l.buffer);
  same : g.F.Input.bytes l.file ≡ g.F.Input.bytes l.fn.file;
  read : (pieces : List (List ℕ)) × FoldsTo (ReadsMore g.F.Input.reads (length l.fn.buffer)) (l.fn.file, []) pieces (l.file, take l.done l.buffer);
}

abbrev pub decreases-loop-done : goal.decreases-loop-done
decreases-loop-done g l = length l.buffer - l.done
