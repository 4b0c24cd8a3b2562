-- Which objects are carried into a storage root, and the root with them. A root is seen from its own top on; where nothing stands there, there is no root.
use Rattle.std.specs.Prelude.{◌≡◌, ◌⊎◌, ℕ, Bool, true, false, ◌&&◌, ◌||◌, All, cond, List, [], ◌∷◌, ◌++◌, flat_map, is_none, is_some, take, Option, None, Some}
use Rattle.std.specs.List.{list_all, list_any}
use Rattle.std.specs.Option.{option_and_then, option_or}
use Rattle.pt_name.specs.Place.{place_of}
use Rattle.pt_object.specs.FilePaths.{File}
use Rattle.pt_object.specs.Holding.{IsFree}
use Rattle.pt_object.specs.Object.{object_of}
use Rattle.pt_object.specs.Root.{base}
use Rattle.pt_object.specs.RootFiles.{root_files_of}
use Rattle.pt_object.specs.Script.{folders_above}
use Rattle.pt_tree.specs.Forest.{Forest}
use Rattle.pt_tree.specs.Path.{Path, rest_below, same_path}
use Rattle.pt_tree.specs.Tree.{Entry, Bytes, Folder, Special, Tree}
use Rattle.pt_plan.specs.Items.{Item, Interior, Named, Outcome, Fails, Holds, Skip, Verdict, cause_of, items, outcome}
use Rattle.pt_plan.specs.Job.{Job}
use Rattle.pt_plan.specs.Store.{has_prefix, is_store}

-- ---- what is taken

-- it is named, there is no cause against its object, and its place is this
abbrev pub has_place : Job → Path → Verdict → Bool
has_place job place Interior = false
has_place job place (Skip why) = false
has_place job place (Named id object) =
    is_none (cause_of job.limits object) && same_path (place_of job.tuples id) place

-- something stands in the root at the place, or an earlier item against whose object there is no cause has it
abbrev pub is_taken_place : Job → Tree → List Item → Path → Bool
is_taken_place job root earlier place =
    is_some (root place) || list_any (λ item. has_place job place item.verdict) earlier

-- the item is named, and its place is taken: something stands there in the root, or an earlier item against whose object there is no cause has it
abbrev pub is_taken : Job → Tree → List Item → Verdict → Bool
is_taken job root earlier Interior = false
is_taken job root earlier (Skip why) = false
is_taken job root earlier (Named id object) = is_taken_place job root earlier (place_of job.tuples id)

-- an item, and whether its place is taken
abbrev pub Marked : Type 0
Marked = Item × Bool

-- these items, where others came before them
abbrev pub marked_after : Job → Tree → List Item → List Item → List Marked
marked_after job root earlier [] = []
marked_after job root earlier (item ∷ others) = (item, is_taken job root earlier item.verdict)
    ∷ marked_after job root (earlier ++ item ∷ []) others

-- the items of a source against a root
abbrev pub marked : Job → Forest → Tree → List Marked
marked job source root = marked_after job root [] (items job source)

-- ---- what is carried

-- an object that is carried: its identifier and its files
pub record Carried : Type 0 where
  pub id : List ℕ
  pub files : List File

-- the object, if there is no cause against it; it may have no files
abbrev pub carried_by_outcome : List ℕ → Outcome → List Carried
carried_by_outcome id (Fails why) = []
carried_by_outcome id (Holds files) = record { id = id; files = files } ∷ []

-- the item's object, if it is carried
abbrev pub carried_by : Job → Bool → Verdict → List Carried
carried_by job taken Interior = []
carried_by job taken (Skip why) = []
carried_by job taken (Named id object) = cond taken [] (carried_by_outcome id (outcome job.limits object))

-- of some items, the objects with no cause against them and a place that isn't taken
abbrev pub carried : Job → List Marked → List Carried
carried job = flat_map (λ m. carried_by job m.1 m.0.verdict)

-- of a source, the objects of the first k items against which there is no cause and whose place isn't taken
abbrev pub carried_among : Job → Forest → Tree → ℕ → List Carried
carried_among job source root k = carried job (take k (marked job source root))

-- of a source, those of all items
abbrev pub all_carried : Job → Forest → Tree → List Carried
all_carried job source root = carried job (marked job source root)

-- its place in the root (extension 0003)
abbrev pub place_of_carried : Job → Carried → Path
place_of_carried job object = place_of job.tuples object.id

-- ---- the root with them

-- what the object has at a path of the root: nothing, unless that is its place or below it (OCFL 1.1, "Object Structure")
abbrev pub entry_of_object : Job → Path → Carried → Option Entry
entry_of_object job path object =
    option_and_then (object_of object.id object.files job.meta job.algorithm)
    (rest_below (place_of_carried job object) path)

-- what one of these objects has at a path
abbrev pub entry_of_objects : Job → List Carried → Path → Option Entry
entry_of_objects job [] path = None
entry_of_objects job (object ∷ others) path =
    option_or (entry_of_object job path object) (entry_of_objects job others path)

-- the path is on the way to the place of one of them
abbrev pub is_on_the_way : Job → List Carried → Path → Bool
is_on_the_way job objects path =
    list_any (λ object. is_some (rest_below path (place_of_carried job object))) objects

-- a folder, where one is needed
abbrev pub folder_where : Bool → Option Entry
folder_where true = Some Folder
folder_where false = None

-- a tree with these objects at their places, and folders on the way to them; what stands in it stays
abbrev pub with_objects : Job → List Carried → Tree → Tree
with_objects job objects t =
    λ path. option_or (t path)
    (option_or (entry_of_objects job objects path) (folder_where (is_on_the_way job objects path)))

-- the root after the first k items: the one that stands, or else a new one, with the objects that are carried of them
abbrev pub after : Job → Forest → Tree → ℕ → Tree
after job source root k = with_objects job (carried_among job source root k) (base job.tuples root)

-- the root after all items
abbrev pub after_all : Job → Forest → Tree → Tree
after_all job source root = with_objects job (all_carried job source root) (base job.tuples root)

-- ---- which roots a run goes on with

-- what stands there, if anything, is a folder
abbrev pub is_folder_or_free : Option Entry → Bool
is_folder_or_free None = true
is_folder_or_free (Some Folder) = true
is_folder_or_free (Some (Bytes bytes)) = false
is_folder_or_free (Some Special) = false

-- nothing that stands is in the way to the object's place
abbrev pub is_way_free : Job → Tree → Carried → Bool
is_way_free job root object =
    list_all (λ folder. is_folder_or_free (root folder))
    (folders_above (place_of_carried job object))

-- the root has the layout's three files with their bytes, and nothing but folders is on the way to the place of each object that is carried
pub record IsUsable (job : Job) (source : Forest) (root : Tree) : Type 0 where
  pub files : All (λ file. root file.0 ≡ Some (Bytes file.1)) (root_files_of job.tuples)
  pub ways : list_all (is_way_free job root) (all_carried job source root) ≡ true

-- where a run can end well: from a store whose prefix is good, over no root or a usable one
pub record IsStart (job : Job) (source : Forest) (root : Tree) : Type 0 where
  pub store : is_store source ≡ true
  pub prefix : has_prefix source ≡ true
  pub target : IsFree root [] ⊎ IsUsable job source root
