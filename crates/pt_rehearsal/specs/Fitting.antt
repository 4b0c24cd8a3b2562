-- What is remembered fits the tree that a rehearsal plays over the folder's own.
use Rattle.std.specs.Prelude.{◌≡◌, ℕ, Bool, true, false, List, [], ◌∷◌, Option, None, Some}
use Rattle.std.specs.Option.{option_map, ForSome}
use Rattle.pt_rehearsal.specs.Steps.{Step, played}
use Rattle.pt_tree.specs.Dest.{Writing}
use Rattle.pt_tree.specs.Name.{AreNames}
use Rattle.pt_tree.specs.Path.{Path, joined}
use Rattle.pt_tree.specs.Tree.{Folder, IsTree, Tree}
use Rattle.pt_rehearsal.specs.Seeing.{View, Within, is_folder, is_hidden}

-- the directory that is being filled stands in the tree that is played alone, nothing is in it but what was made there,
-- and its inside isn't remembered otherwise
pub record FitsWithin (folder : List ℕ → Bool) (base now : Tree) (w : Within) : Type 0 where
  pub named : AreNames (w.name ∷ [])
  pub fresh : base (w.name ∷ []) ≡ None
  pub unmade : (n : List ℕ) → w.made n ≡ false → now (w.name ∷ n ∷ []) ≡ None
  pub apart : (rest : Path) → AreNames (w.name ∷ rest) → folder (joined (w.name ∷ rest)) ≡ false

-- base is the folder's own tree, which stays; each directory that is remembered stands, all that isn't hidden is as it is in the
-- folder, and an open file is hidden
pub record Fits (v : View) (base : Tree) (now : Writing) : Type 0 where
  pub own : IsTree base
  pub tree : IsTree now.tree
  pub folders : (p : Path) → AreNames p → is_folder v p ≡ true → now.tree p ≡ Some Folder
  pub stands : (p : Path) → AreNames p → is_folder v p ≡ false → is_hidden v p ≡ false
      → now.tree p ≡ base p
  pub within : ForSome v.filling (FitsWithin v.folder base now.tree)
  pub opened : (p : Path) → now.writing ≡ Some p → is_hidden v p ≡ true

-- what is told over a tree that is told, after steps, the last one first
abbrev pub told_over : Option Writing → List Step → Option Writing
told_over told steps = option_map (λ w. played steps w.tree) told

-- where the folder tells, what is remembered fits
abbrev pub FitsTold : Option Writing → View → List Step → Type 0
FitsTold told v steps = ForSome told (λ w. Fits v w.tree (played steps w.tree))
