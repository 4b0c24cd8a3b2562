-- The files of a source's objects are such as objects of a storage root may have.
use Rattle.std.specs.Prelude.{◌≡◌, ℕ, Bool, true, ◌&&◌, List}
use Rattle.std.specs.List.{list_all}
use Rattle.pt_object.specs.FilePaths.{File, paths_of}
use Rattle.pt_tree.specs.PathOrder.{is_logical, part_in_order}
use Rattle.pt_tree.specs.Forest.{Forest, is_proper}
use Rattle.pt_tree.specs.Tree.{Tree}
use Rattle.pt_walk.specs.Object.{entries, files}
use Rattle.pt_plan.specs.Carried.{carried_among}
use Rattle.pt_plan.specs.Job.{Job}

-- in the order of the walk the files of a proper directory have logical paths that come in order, none leading to another
abbrev pub FilesComeInOrder : Type 0
FilesComeInOrder =
    (inside : Forest) → is_proper inside ≡ true
    → (part_in_order (paths_of (files (entries inside))) ≡ true)
    × (list_all is_logical (paths_of (files (entries inside))) ≡ true)

-- these files have logical paths that come in order, none leading to another
abbrev pub comes_in_order : List File → Bool
comes_in_order held = part_in_order (paths_of held) && list_all is_logical (paths_of held)

-- so it is with each object that is carried from a proper source, whatever root stands
abbrev pub CarriedFilesComeInOrder : Type 0
CarriedFilesComeInOrder =
    (job : Job) (source : Forest) (root : Tree) (k : ℕ) → is_proper source ≡ true
    → list_all (λ object. comes_in_order object.files) (carried_among job source root k) ≡ true
