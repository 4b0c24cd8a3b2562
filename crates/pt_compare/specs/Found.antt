-- What is found of an object at its place.
use Rattle.std.specs.Prelude.{◌≡◌, ◌≢◌, ◌⊎◌, ℕ, List, [], ◌∷◌, ◌++◌, All, None, Some, IsSome, Result, Ok, Err, ⊤}
use Rattle.pt_compare.specs.Described.{IsMade}
use Rattle.pt_compare.specs.declared.scanned.ScannedObject.{ScannedObject}
use Rattle.pt_compare.specs.declared.difference.Comparison.{Comparison}
use Rattle.pt_compare.specs.declared.difference.Comparison.TheVariants.{Absent, Differs, Same}
use Rattle.pt_compare.specs.Marks.{Marks, all_met}
use Rattle.pt_compare.specs.Meeting.{IsWrongInventory, StandsSo, StopsAt}
use Rattle.pt_compare.specs.Parts.{early_items, last_items}
use Rattle.pt_compare.specs.declared.difference.Why.{Why}
use Rattle.pt_compare.specs.declared.stop.Stop.{Stop}
use Rattle.pt_compare.specs.declared.stop.Stop.TheVariants as stop
use Rattle.pt_plan.specs.Turn.{HasFailed}
use Rattle.pt_plan.specs.DeviceStates.{Failures}
use Rattle.pt_plan.specs.declared.fault.Fault.{Fault}
use Rattle.pt_object.specs.Script.{Item, MakeFile, item_path}
use Rattle.pt_object.specs.Scripts.{object_items}
use Rattle.pt_compare.specs.declared.difference.Why.TheVariants as why
use Rattle.pt_object.specs.FilePaths.{File}
use Rattle.pt_object.specs.Holding.{holding}
use Rattle.pt_object.specs.Inventory.{inventory_text}
use Rattle.pt_object.specs.MetaParts.{MetaParts}
use Rattle.pt_object.specs.Object.{inventory_name, object_files, stored_files, version_folder}
use Rattle.pt_object.specs.declared.algorithm.Algorithm.{Algorithm}
use Rattle.pt_tree.specs.Forest.{Forest}
use Rattle.pt_tree.specs.Path.{Path}
use Rattle.pt_tree.specs.Tree.{Entry, Bytes, Tree, kind_of_entry}
use Rattle.pt_walk.specs.Left.{bytes_at}

-- what is sought: the object of these stored files, with an inventory that a run could make of them
pub record Sought : Type 0 where
  pub algorithm : Algorithm
  pub text_with : MetaParts → List ℕ
  pub stored : List File

-- the texts of an object's inventory
abbrev pub texts_of_object : ScannedObject → MetaParts → List ℕ
texts_of_object object meta =
    inventory_text object.id.now object.rows.now meta object.algorithm

-- that of an object of a store, whose source's tree this is
abbrev pub sought_of : ScannedObject → Forest → Sought
sought_of object source = record {
  algorithm = object.algorithm;
  text_with = texts_of_object object;
  stored = stored_files object.rows.now (λ path. bytes_at source (object.from.now ++ path));
}

-- the object that is sought, with this inventory
abbrev pub object_with : Sought → List ℕ → Tree
object_with sought inventory = holding (object_files sought.algorithm inventory sought.stored)

-- the object but for its inventory and its sidecars, whose bytes are others
abbrev pub shape : Sought → Tree
shape sought = object_with sought []

-- where the inventory of the version is
abbrev pub version_inventory : Path
version_inventory = version_folder ++ inventory_name ∷ []

-- this inventory stands in the version's folder, and is one that is sought
abbrev pub IsHeld : Sought → Tree → List ℕ → Type 0
IsHeld sought t inventory =
    (t version_inventory ≡ Some (Bytes inventory)) × IsMade sought.text_with inventory

-- where one of two trees has a file, the other has one with other bytes
abbrev pub HaveOtherBytes : Tree → Tree → Path → Type 0
HaveOtherBytes wanted t q = (bytes other : List ℕ) × (wanted q ≡ Some (Bytes bytes))
    × (t q ≡ Some (Bytes other)) × (other ≢ bytes)

-- the inventory in the version's folder is none that is sought
abbrev pub IsOtherInventory : Sought → Tree → Path → Type 0
IsOtherInventory sought t q = (q ≡ version_inventory) × ((other : List ℕ)
    × (t q ≡ Some (Bytes other)) × ¬ (IsMade sought.text_with other))

-- A file has other bytes than the object: whatever the inventory, as the declaration and the contents; as the inventory in the version's folder; or
-- as that at the top or a sidecar, with the inventory that stands in the version's folder.
abbrev pub IsOtherFile : Sought → Tree → Path → Type 0
IsOtherFile sought t q =
    ((inventory : List ℕ) → HaveOtherBytes (object_with sought inventory) t q)
    ⊎ (IsOtherInventory sought t q
    ⊎ ((inventory : List ℕ) × IsHeld sought t inventory
    × HaveOtherBytes (object_with sought inventory) t q))

-- in both trees something stands, of two kinds
abbrev pub HaveOtherKinds : Tree → Tree → Path → Type 0
HaveOtherKinds wanted t q = (entry other : Entry) × (wanted q ≡ Some entry) × (t q ≡ Some other)
    × (kind_of_entry other ≢ kind_of_entry entry)

-- what is wrong at a path, where this stands
abbrev pub IsWrong : Sought → Tree → Path → Why → Type 0
IsWrong sought t q why.Missing = IsSome (shape sought q) × (t q ≡ None)
IsWrong sought t q why.Extra = (shape sought q ≡ None) × IsSome (t q)
IsWrong sought t q why.Kind = HaveOtherKinds (shape sought) t q
IsWrong sought t q why.Bytes = IsOtherFile sought t q

-- just the object that is sought stands there, with the inventory that it has
abbrev pub IsObject : Sought → Tree → Type 0
IsObject sought t = (inventory : List ℕ) × IsMade sought.text_with inventory
    × ((q : Path) → t q ≡ object_with sought inventory q)

-- with some inventory, this path is one of the object's, and what a run makes before it stands; so the inventory does, if it is made before
abbrev pub StandsUpTo : Sought → Tree → Path → Type 0
StandsUpTo sought t q = (inventory : List ℕ) × (front : List Item) × (item : Item) × (rest : List Item)
    × (object_items sought.algorithm inventory sought.stored ≡ front ++ item ∷ rest)
    × (q ≡ item_path item) × All (StandsSo t) front

-- all that a run makes stands
abbrev pub AllStands : Sought → Tree → Type 0
AllStands sought t = (inventory : List ℕ) × IsMade sought.text_with inventory
    × All (StandsSo t) (object_items sought.algorithm inventory sought.stored)

-- what is wrong there is the first in the order in which a run makes the object; what is extra comes last
abbrev pub IsFirst : Sought → Tree → Path → Why → Type 0
IsFirst sought t q why.Missing = StandsUpTo sought t q
IsFirst sought t q why.Kind = StandsUpTo sought t q
IsFirst sought t q why.Bytes = StandsUpTo sought t q
IsFirst sought t q why.Extra = AllStands sought t

-- what is found, where this stands at the place and below it, is so: nothing stands; just the object; or at a path something is missing, of another
-- kind, has other bytes, or is more
abbrev pub IsFound : Sought → Tree → Comparison → Type 0
IsFound sought t Absent = t [] ≡ None
IsFound sought t Same = IsObject sought t
IsFound sought t (Differs difference) = IsWrong sought t difference.path difference.why
    × IsFirst sought t difference.path difference.why

-- a comparison halts only as the device that is blamed has failed
abbrev pub HaltsAs : Result Comparison Fault → Failures → Failures → Type 0
HaltsAs (Ok finding) old new = new ≡ old
HaltsAs (Err why) old new = HasFailed why old new

-- what is found where all of an object stands, and this is noted beside it
abbrev pub LeavesExtra : Marks → Comparison → Type 0
LeavesExtra marks Absent = ⊥
LeavesExtra marks Same = (q : Path) → marks q ≡ None
LeavesExtra marks (Differs difference) = (difference.why ≡ why.Extra) × IsSome (marks difference.path)

-- the inventory in the version's folder, and what follows it
abbrev pub inventory_items : Algorithm → List ℕ → List Item
inventory_items algorithm inventory = MakeFile version_inventory inventory ∷ last_items algorithm inventory

-- the inventories and their sidecars are met
abbrev pub MeetsInventories : Algorithm → (MetaParts → List ℕ) → Tree → Marks → Marks → Result (Unit {0}) Stop → Type 0
MeetsInventories algorithm text_with t old new (Ok x) = (inventory : List ℕ) × IsMade text_with inventory
    × All (StandsSo t) (inventory_items algorithm inventory)
    × (new ≡ all_met t (inventory_items algorithm inventory) old)
MeetsInventories algorithm text_with t old new (Err (stop.Differs d)) =
    ((d.path ≡ version_inventory) × IsWrongInventory t old version_inventory text_with d.why)
    ⊎ ((inventory : List ℕ) × IsMade text_with inventory × (t version_inventory ≡ Some (Bytes inventory))
    × StopsAt t old (inventory_items algorithm inventory) d.path d.why)
MeetsInventories algorithm text_with t old new (Err (stop.Fault why)) = ⊤

-- all items of the object with this inventory
abbrev pub all_items : Sought → List ℕ → List Item
all_items sought inventory = early_items sought.stored ++ inventory_items sought.algorithm inventory

-- all of an object is met, up to the first item that doesn't stand so: one before the inventories, the version's inventory, or one after that
abbrev pub MeetsObject : Sought → Tree → Marks → Marks → Result (Unit {0}) Stop → Type 0
MeetsObject sought t old new (Ok x) = (inventory : List ℕ) × IsMade sought.text_with inventory
    × All (StandsSo t) (all_items sought inventory) × (new ≡ all_met t (all_items sought inventory) old)
MeetsObject sought t old new (Err (stop.Differs d)) =
    StopsAt t old (early_items sought.stored) d.path d.why
    ⊎ (((d.path ≡ version_inventory) × All (StandsSo t) (early_items sought.stored)
    × IsWrongInventory t (all_met t (early_items sought.stored) old) version_inventory sought.text_with d.why)
    ⊎ ((inventory : List ℕ) × IsHeld sought t inventory
    × StopsAt t old (all_items sought inventory) d.path d.why))
MeetsObject sought t old new (Err (stop.Fault why)) = ⊤
