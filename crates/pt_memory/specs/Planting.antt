-- What may be planted in a memory tree.
use Rattle.std.specs.Prelude.{◌≡◌, ℕ, Bool, true, false, cond, List, [], ◌∷◌, Option, None, Some, is_some}
use Rattle.pt_memory.specs.declared.planting.PlantFault.{PlantFault}
use Rattle.pt_memory.specs.declared.planting.PlantFault.TheVariants as fault
use Rattle.pt_tree.specs.Forest.{Forest, none, file, dir, other}
use Rattle.pt_tree.specs.Name.{is_name}
use Rattle.pt_tree.specs.Path.{Path, parent}
use Rattle.pt_tree.specs.Tree.{Tree, Entry, Bytes, Folder, Special}

-- a folder stands there
abbrev pub is_folder : Option Entry → Bool
is_folder None = false
is_folder (Some Folder) = true
is_folder (Some (Bytes bytes)) = false
is_folder (Some Special) = false

-- why nothing can be planted at a path; the empty path is taken by the top
abbrev pub plant_refusal : Tree → Path → Option PlantFault
plant_refusal t [] = Some fault.Taken
plant_refusal t (n ∷ p) =
    cond (is_folder (t (parent (n ∷ p)))) (cond (is_some (t (n ∷ p))) (Some fault.Taken) None)
    (Some fault.NoParent)

-- an entry of this name that holds nothing inside, alone
abbrev pub leaf_of : List ℕ → Entry → Forest
leaf_of n (Bytes bytes) = file n bytes none
leaf_of n Folder = dir n none none
leaf_of n Special = other n none

-- what the first entry is
abbrev pub leaf_entry : Forest → Entry
leaf_entry none = Folder
leaf_entry (file n bytes after) = Bytes bytes
leaf_entry (dir n inside after) = Folder
leaf_entry (other n after) = Special

-- one entry of this name, which holds nothing inside
pub record IsLeafOf (n : List ℕ) (leaf : Forest) : Type 0 where
  pub alone : leaf ≡ leaf_of n (leaf_entry leaf)
  pub name : is_name n ≡ true

-- the number of a refusal
abbrev pub plant_number : PlantFault → ℕ
plant_number fault.NoParent = 1
plant_number fault.Taken = 2
plant_number fault.Memory = 3
