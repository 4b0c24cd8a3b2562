-- The folders on the way to a file.
use Rattle.std.proofs.Common.{◌≡◌, List, ℕ, [], ◌∷◌, refl}
use Rattle.std.specs.Prelude.{None, Some}
use Rattle.pt_tree.proofs.Paths.{split_parts}
use Rattle.pt_tree.specs.Path.{Path, parent, split_path}

pub folders_above : (path folders : Path) (name : List ℕ) → Some (folders, name) ≡ split_path path → folders ≡ parent path
folders_above path folders name is = (split_parts path folders name is).0

pub no_folders : (path : Path) → None ≡ split_path path → [] ≡ parent path
no_folders [] is = refl
no_folders (x ∷ path) is = absurd (cc)

pub ruleset standing = (folders_above, no_folders)
