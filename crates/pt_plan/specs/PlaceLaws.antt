-- Something stands at the place of an item exactly where the place is taken.
use Rattle.std.specs.Prelude.{◌≡◌, ℕ, false, List, [], None, Some, is_some, slice_get, take}
use Rattle.pt_name.specs.Place.{place_of}
use Rattle.pt_object.specs.Holding.{IsFree}
use Rattle.pt_tree.specs.Forest.{Forest}
use Rattle.pt_tree.specs.Tree.{Tree}
use Rattle.pt_plan.specs.Carried.{Carried, Marked, after, is_taken_place, is_way_free, marked}
use Rattle.pt_plan.specs.Items.{Item, Named, PairtreeObject, is_reserved, items}
use Rattle.pt_plan.specs.Job.{Job}

-- where nothing stands at the top, nothing stands below it
abbrev pub IsRooted : Tree → Type 0
IsRooted root = root [] ≡ None → IsFree root []

-- the place of a named item isn't reserved
abbrev pub NamedIsNotReserved : Type 0
NamedIsNotReserved =
    (job : Job) (source : Forest) (k : ℕ) (item : Item) (id : List ℕ) (object : PairtreeObject)
    → slice_get (items job source) k ≡ Some item → item.verdict ≡ Named id object
    → is_reserved job id ≡ false

-- At a place that isn't reserved something stands after the first items exactly where it stood in the root, or one of them against whose object there
-- is no cause has that place: so no place is a root file, a folder above one, a tuple directory, or inside another object.
abbrev pub PlaceStandsWhereTaken : Type 0
PlaceStandsWhereTaken =
    (job : Job) (source : Forest) (root : Tree) (k : ℕ) (id : List ℕ) → IsRooted root
    → is_reserved job id ≡ false
    → is_some (after job source root k (place_of job.tuples id))
    ≡ is_taken_place job root (take k (items job source)) (place_of job.tuples id)

-- so it is at the place of the next item
abbrev pub NextPlaceStandsWhereTaken : Type 0
NextPlaceStandsWhereTaken =
    (job : Job) (source : Forest) (root : Tree) (k : ℕ) (m : Marked) (id : List ℕ) (object : PairtreeObject)
    → IsRooted root → slice_get (marked job source root) k ≡ Some m → m.0.verdict ≡ Named id object
    → is_some (after job source root k (place_of job.tuples id)) ≡ m.1

-- the way to a place is as free after the first items as it was: no object and no root file comes to stand in it
abbrev pub WayStaysFree : Type 0
WayStaysFree =
    (job : Job) (source : Forest) (root : Tree) (k : ℕ) (object : Carried) → IsRooted root
    → is_way_free job (after job source root k) object ≡ is_way_free job root object
