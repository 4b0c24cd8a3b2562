use Rattle.std.proofs.Common.{◌≡◌, ◌++◌, take, string_bytes}
use Rattle.pt_folder.proofs.Slashes.{slashed}
use Rattle.pt_folder.proofs.folder.kept_text.Given as goal

-- the names so far follow the folder
abbrev pub invariant-loop-name : goal.invariant-loop-name
invariant-loop-name l = string_bytes l.text ≡ l.folder ++ slashed (take l.name-index l.name-items)
