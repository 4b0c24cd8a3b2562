use Rattle.std.proofs.Common.{◌≡◌, ◌++◌, length, min, take}
use Rattle.pt_folder.specs.Settings.{greatest_length}
use Rattle.pt_folder.proofs.Slashes.{slashed}
use Rattle.pt_folder.proofs.folder.text_len.Given as goal

-- the names so far are counted
abbrev pub invariant-loop-name : goal.invariant-loop-name
invariant-loop-name l = l.len ≡ min (length (l.folder ++ slashed (take l.name-index l.name-items))) greatest_length
