-- What looks at a directory's entries show.
use Rattle.std.specs.Prelude.{◌≡◌, ℕ, List, [], ◌∷◌, ◌++◌, Option, Some, IsSome}
use Rattle.std.specs.Option.{option_map, ForSome}
use Rattle.std.specs.List.{All}
use Rattle.pt_tree.specs.Forest.{Forest, Dir, dir_at, kind_of, node_at}
use Rattle.pt_tree.specs.Listing.{Item}
use Rattle.pt_tree.specs.Path.{Path}
use Rattle.pt_folder.specs.Laws.{IsPath}
use Rattle.pt_folder.specs.Listing.{dir_front}

-- an entry of this name and kind stands in the directory at p
abbrev pub IsItem : Forest → Path → Item → Type 0
IsItem f p item = option_map kind_of (node_at (Dir f) (p ++ item.0 ∷ [])) ≡ Some item.1

-- what is kept of a folder stays, and these are entries in a directory of it
pub record Sees (old new : Option Forest) (p : Path) (items : List Item) : Type 0 where
  pub same : new ≡ old
  pub seen : ForSome old (λ f. All (IsItem f p) items)

-- the same of each folder and directory whose entries' paths begin so
abbrev pub SeesAt : {S : Type 0} → (S → List ℕ → Option Forest) → List ℕ → S → S → List Item → Type 0
SeesAt kept front old new items = (folder : List ℕ) (p : Path) → IsPath p
    → front ≡ dir_front folder p → ForSome (kept old folder) (λ f. IsSome (dir_at f p))
    → Sees (kept old folder) (kept new folder) p items
