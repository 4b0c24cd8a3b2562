-- Scripts: what is made in a target tree, in time.
use Rattle.std.specs.Prelude.{◌≡◌, ℕ, List, [], ◌∷◌, ◌++◌, take, filter, map, not, Some, slice_get}
use Rattle.pt_tree.specs.Path.{Path}
use Rattle.pt_tree.specs.Tree.{Entry, Bytes, Folder, Tree, put, CanMake}
use Rattle.pt_object.specs.FilePaths.{File}
use Rattle.pt_object.specs.Holding.{leads_to}

-- one thing that is made: a folder, or a file with all its bytes
pub data Item : Type 0 where
  MakeFolder : (path : Path) → Item
  MakeFile : (path : Path) → (bytes : List ℕ) → Item

-- where an item is made
abbrev pub item_path : Item → Path
item_path (MakeFolder path) = path
item_path (MakeFile path bytes) = path

-- what stands once an item is made
abbrev pub item_entry : Item → Entry
item_entry (MakeFolder path) = Folder
item_entry (MakeFile path bytes) = Bytes bytes

-- the tree once the item is made
abbrev pub done : Item → Tree → Tree
done item t = put t (item_path item) (item_entry item)

-- the tree once these items are made one after another
abbrev pub made : List Item → Tree → Tree
made [] t = t
made (item ∷ script) t = made script (done item t)

-- of a file the first bytes alone
abbrev pub cut_item : ℕ → Item → Item
cut_item count (MakeFolder path) = MakeFolder path
cut_item count (MakeFile path bytes) = MakeFile path (take count bytes)

-- of the last item, if it is a file, the first bytes alone
abbrev pub cut_last : ℕ → List Item → List Item
cut_last count [] = []
cut_last count (item ∷ []) = cut_item count item ∷ []
cut_last count (item ∷ next ∷ script) = item ∷ cut_last count (next ∷ script)

-- t is what the first items of the script make of the start, where the last of them, if a file, may hold any first bytes of its own
pub record StandsAtPrefix (script : List Item) (start t : Tree) : Type 0 where
  pub items : ℕ
  pub bytes : ℕ
  pub stands : t ≡ made (cut_last bytes (take items script)) start

-- from this start each item of the script may be made after those before it
abbrev pub CanBeMadeInTurn : List Item → Tree → Type 0
CanBeMadeInTurn script start = (i : ℕ) (item : Item) → slice_get script i ≡ Some item
    → CanMake (made (take i script) start) (item_path item)

-- the item, below a folder
abbrev pub item_in : Path → Item → Item
item_in folder (MakeFolder path) = MakeFolder (folder ++ path)
item_in folder (MakeFile path bytes) = MakeFile (folder ++ path) bytes

-- the folders above a path but for the top, outermost first
abbrev pub folders_above : Path → List Path
folders_above [] = []
folders_above (name ∷ []) = []
folders_above (name ∷ next ∷ path) = (name ∷ []) ∷ map (λ folder. name ∷ folder) (folders_above (next ∷ path))

-- the folders above a file that no earlier file needed, outermost first, then the file
abbrev pub file_items : List File → File → List Item
file_items earlier file =
    map MakeFolder (filter (λ folder. not (leads_to earlier folder)) (folders_above file.0))
    ++ MakeFile file.0 file.1 ∷ []

-- so for each of these files, after the earlier ones
abbrev pub files_items : List File → List File → List Item
files_items earlier [] = []
files_items earlier (file ∷ files) = file_items earlier file ++ files_items (earlier ++ file ∷ []) files
