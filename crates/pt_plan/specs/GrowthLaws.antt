-- How the root grows by one object: its tuple directories, and the object moved in from `staging`.
use Rattle.std.specs.Prelude.{◌≡◌, ◌++◌, ℕ, suc, List, [], None, Some, slice_get, take}
use Rattle.pt_object.specs.Holding.{IsFree, placed}
use Rattle.pt_object.specs.Object.{object_of}
use Rattle.pt_object.specs.Scripts.{staging}
use Rattle.pt_tree.specs.Forest.{Forest}
use Rattle.pt_tree.specs.Path.{Path}
use Rattle.pt_tree.specs.Tree.{Entry, Folder, IsTree, Tree, moved, put}
use Rattle.pt_plan.specs.Carried.{Carried, Marked, after, carried_by, marked, place_of_carried}
use Rattle.pt_plan.specs.Faults.{IsCarriedAs}
use Rattle.pt_plan.specs.Job.{Job}
use Rattle.pt_plan.specs.PlaceLaws.{IsRooted}
use Rattle.pt_plan.specs.Roots.{root_in, storage_root, tuple_folders, with_folders, with_root}

-- below a path where nothing stands, nothing stands
abbrev pub HasNoGaps : Tree → Type 0
HasNoGaps root = (path : Path) → root path ≡ None → IsFree root path

-- the root of a destination is such
abbrev pub RootsHaveNoGaps : Type 0
RootsHaveNoGaps = (t : Tree) → IsTree t → HasNoGaps (root_in t) × IsRooted (root_in t)

-- with one item more, if it is carried, the root has its tuple directories, where they didn't stand, and its object at its place
abbrev pub AfterGrows : Type 0
AfterGrows =
    (job : Job) (source : Forest) (root : Tree) (k : ℕ) (object : Carried) → HasNoGaps root
    → IsCarriedAs job source root k object
    → after job source root (suc k)
    ≡ placed (with_folders (tuple_folders job object) (after job source root k))
    (place_of_carried job object) (object_of object.id object.files job.meta job.algorithm)

-- if it isn't carried, the root stays
abbrev pub AfterStays : Type 0
AfterStays =
    (job : Job) (source : Forest) (root : Tree) (k : ℕ) (m : Marked)
    → slice_get (marked job source root) k ≡ Some m → carried_by job m.1 m.0.verdict ≡ []
    → after job source root (suc k) ≡ after job source root k

-- one tuple directory more is made where nothing stands, and is there where a folder stands
abbrev pub FoldersGrow : Type 0
FoldersGrow =
    (folders : List Path) (t : Tree) (n : ℕ) (folder : Path) → slice_get folders n ≡ Some folder
    → (with_folders (take n folders) t folder ≡ None
    → with_folders (take (suc n) folders) t ≡ put (with_folders (take n folders) t) folder Folder)
    × (with_folders (take n folders) t folder ≡ Some Folder
    → with_folders (take (suc n) folders) t ≡ with_folders (take n folders) t)

-- what is made in the root of a destination is made at its path in the destination
abbrev pub RootIsMadeInPlace : Type 0
RootIsMadeInPlace = (t root : Tree) (path : Path) (entry : Entry)
    → put (with_root t root) (storage_root ++ path) entry ≡ with_root t (put root path entry)

-- what stands in `staging`, moved to a place of the root, stands in the root at that place
abbrev pub ObjectIsMovedIn : Type 0
ObjectIsMovedIn =
    (t root inside : Tree) (place : Path) → IsFree t staging
    → moved (placed (with_root t root) staging inside) staging (storage_root ++ place)
    ≡ with_root t (placed root place inside)

-- a new root, moved out of `staging`, is the destination's
abbrev pub RootIsMovedIn : Type 0
RootIsMovedIn = (t root : Tree) → IsFree t staging
    → moved (placed t staging root) staging storage_root ≡ with_root t root

-- a destination with its own root is itself
abbrev pub RootIsItsOwn : Type 0
RootIsItsOwn = (t : Tree) → with_root t (root_in t) ≡ t
