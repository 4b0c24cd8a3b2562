-- The paths of an object's files.
use Rattle.std.specs.Prelude.{◌≡◌, ℕ, true, List, [], ◌∷◌}
use Rattle.std.specs.List.{list_all}
use Rattle.pt_tree.specs.Forest.{Forest, is_proper}
use Rattle.pt_tree.specs.Path.{Path}
use Rattle.pt_tree.specs.PathOrder.{is_logical, part_in_order}
use Rattle.pt_walk.specs.Object.{entries, files, without_shorties}

-- the paths of these files
abbrev pub paths_of : List (Path × List ℕ) → List Path
paths_of [] = []
paths_of (held ∷ others) = held.0 ∷ paths_of others

-- the files of a proper directory have such paths, and they part in order
abbrev pub FilesPartInOrder : Type 0
FilesPartInOrder =
    (object : Forest) → is_proper object ≡ true
    → (part_in_order (paths_of (files (entries object))) ≡ true)
    × (list_all is_logical (paths_of (files (entries object))) ≡ true)

-- what a proper site holds beside its shorties is proper
abbrev pub GatheredIsProper : Type 0
GatheredIsProper = (site : Forest) → is_proper site ≡ true → is_proper (without_shorties site) ≡ true
