-- The objects that are carried stand whole in the root that a run leaves, and their versions are their files.
use Rattle.std.specs.Prelude.{◌≡◌, ◌++◌, ℕ, true, All, Some}
use Rattle.pt_object.specs.Object.{object_of}
use Rattle.pt_object.specs.VersionLaws.{DigestsTellApart}
use Rattle.pt_object.specs.VersionState.{v1_state}
use Rattle.pt_tree.specs.Forest.{Forest, is_proper}
use Rattle.pt_tree.specs.Path.{Path}
use Rattle.pt_tree.specs.Tree.{IsTree, Tree}
use Rattle.pt_plan.specs.Carried.{Carried, after, after_all, all_carried, carried_among, place_of_carried}
use Rattle.pt_plan.specs.GrowthLaws.{HasNoGaps}
use Rattle.pt_plan.specs.Job.{Job}
use Rattle.pt_plan.specs.Roots.{root_in, storage_root, with_root}

-- at the object's place and below it stands its OCFL object, path by path, and nothing else
abbrev pub StandsWhole : Job → Tree → Carried → Type 0
StandsWhole job root object = (q : Path)
    → root (place_of_carried job object ++ q)
    ≡ object_of object.id object.files job.meta job.algorithm q

-- so it is with each object that is carried of the first items
abbrev pub CarriedStandWhole : Type 0
CarriedStandWhole = (job : Job) (source : Forest) (root : Tree) (k : ℕ) → HasNoGaps root
    → All (StandsWhole job (after job source root k)) (carried_among job source root k)

-- the state of the object's version is its files, each at its logical path with its bytes, where no two of them whose bytes differ have one digest
-- (OCFL 1.1, "Version Block")
abbrev pub HasItsFiles : Job → Tree → Carried → Type 0
HasItsFiles job now object =
    DigestsTellApart job.algorithm object.files
    → v1_state now (storage_root ++ place_of_carried job object) ≡ Some object.files

-- so it is with each object that is carried, in the destination that a run leaves that ends well
abbrev pub CarriedHaveTheirFiles : Type 0
CarriedHaveTheirFiles =
    (job : Job) (source : Forest) (start : Tree) → is_proper source ≡ true → IsTree start
    → All (HasItsFiles job (with_root start (after_all job source (root_in start))))
    (all_carried job source (root_in start))
