-- What is asked of a system to list a directory, from its opening on.
use Rattle.std.specs.Prelude.{◌≡◌, ◌⊎◌, ℕ, length, List, map, IfSome, IsPermutation, Result, Ok, Err}
use Rattle.std.specs.List.{FoldsTo}
use Rattle.std.specs.List.Sorted.{IsSorted}
use Rattle.std.specs.Cmp.Lexicographic.{slice_cmp}
use Rattle.std.specs.Ordering.{nat_cmp}
use Rattle.std.specs.declared.io.Error.{Error}
use Rattle.pt_tree.specs.declared.faults.TreeFault.TheVariants.{Device}
use Rattle.pt_tree.specs.Listing.{Item}
use Rattle.pt_folder.specs.Calls.{Change, fault_of}
use Rattle.pt_folder.specs.Folder.{FolderEntry, entry_text}
use Rattle.pt_folder.specs.Listing.{FailsToGet, FailsToLook, GetsNames, LooksAt, dir_front, most_entries}
use Rattle.pt_folder.specs.Names.{GivesNames, IsRefusedName}
use Rattle.pt_folder.specs.declared.system.Input.{Ghosts as OfInput}
use Rattle.pt_folder.specs.declared.system.System.{Ghosts as OfSystem}

-- The directory is opened once, and gives these names, where it says which, by its reads; then each entry of them is
-- looked at, in the listing's order.
pub record IsListedBy {S F D : Type 0} (sys : OfSystem S F D) (input : OfInput D) (at : FolderEntry)
    (system : Change S) (listing : List Item) : Type 0 where
  pub dir : D
  pub after : D
  pub mid : S
  pub names : List (List ℕ)
  pub opened : sys.opens_dir system.old (entry_text at.folder at.path) (Ok dir) mid
  pub read : GetsNames input.reads dir names after
  pub given : IfSome (input.left dir) (λ bytes. GivesNames bytes names)
  pub ordered : IsPermutation names (map (λ item. item.0) listing)
  pub looked : FoldsTo (LooksAt sys.looks (dir_front at.folder at.path)) mid listing system.new

-- the directory can't be opened
abbrev pub FailsToOpen : {S D : Type 0} → (S → List ℕ → Result D Error → S → Type 0) → List ℕ → S → S → Type 0
FailsToOpen opens text old new = (e : Error) × opens old text (Err e) new × (fault_of e ≡ Device)

-- the directory was opened, and was given up as its names were read
abbrev pub FailsAtNames : {S D : Type 0} → (S → List ℕ → Result D Error → S → Type 0)
    → (D → List ℕ → Result ℕ Error → D → Type 0) → (List (List ℕ) → List ℕ → Type 0) → List ℕ
    → S → S → Type 0
FailsAtNames {S} {D} opens reads refuses text old new = (dir : D) × (after : D)
    × opens old text (Ok dir) new × FailsToGet reads refuses dir after

-- why a directory isn't read to its end, where such a name isn't added to those before
abbrev pub FailsToReadDir : {S F D : Type 0} → OfSystem S F D → OfInput D
    → (List (List ℕ) → List ℕ → Type 0) → FolderEntry → Change S → Type 0
FailsToReadDir sys input refuses at system = ((length at.folder ≡ 0) × (system.new ≡ system.old))
    ⊎ (FailsToOpen sys.opens_dir (entry_text at.folder at.path) system.old system.new
    ⊎ FailsAtNames sys.opens_dir input.reads refuses (entry_text at.folder at.path) system.old system.new)

-- the directory gave names; looking at them in their order failed, or one comes twice
pub record FailsAtEntry {S F D : Type 0} (sys : OfSystem S F D) (input : OfInput D)
    (at : FolderEntry) (system : Change S) : Type 0 where
  pub dir : D
  pub after : D
  pub mid : S
  pub names : List (List ℕ)
  pub order : List (List ℕ)
  pub opened : sys.opens_dir system.old (entry_text at.folder at.path) (Ok dir) mid
  pub read : GetsNames input.reads dir names after
  pub ordered : IsPermutation names order
  pub sorted : IsSorted (slice_cmp nat_cmp) order
  pub looked : FailsToLook sys.looks (dir_front at.folder at.path) order mid system.new

-- why a directory isn't listed
abbrev pub FailsToList : {S F D : Type 0} → OfSystem S F D → OfInput D → FolderEntry → Change S → Type 0
FailsToList sys input at system = FailsToReadDir sys input (IsRefusedName most_entries) at system
    ⊎ FailsAtEntry sys input at system
