-- How a directory is listed past what has none of the names that an entry may have.
use Rattle.std.specs.Prelude.{◌≡◌, ◌≤◌, ◌⊎◌, ℕ, Bool, true, not, List, length, map, IsPermutation, Ok, Vec}
use Rattle.std.specs.Global.{Global}
use Rattle.std.specs.List.{FoldsTo, filter}
use Rattle.std.specs.List.Sorted.{IsSorted}
use Rattle.std.specs.Cmp.Lexicographic.{slice_cmp}
use Rattle.std.specs.Ordering.{nat_cmp}
use Rattle.pt_tree.specs.declared.faults.TreeFault.{TreeFault}
use Rattle.pt_tree.specs.declared.faults.TreeFault.TheVariants.{Device, Memory}
use Rattle.pt_tree.specs.Listing.{Item}
use Rattle.pt_tree.specs.Name.{is_name}
use Rattle.pt_folder.specs.declared.parting.Partition.{Partition}
use Rattle.pt_folder.specs.declared.system.Input.{Ghosts as OfInput}
use Rattle.pt_folder.specs.declared.system.System.{Ghosts as OfSystem}
use Rattle.pt_folder.specs.Calls.{Change, change_of}
use Rattle.pt_folder.specs.Folder.{FolderEntry, entry_text}
use Rattle.pt_folder.specs.Listing.{FailsToLook, LooksAt, dir_front, most_entries}
use Rattle.pt_folder.specs.WholeListing.{FailsToReadDir}
use Rattle.pt_folder.specs.Names.{is_entry}
use Rattle.pt_folder.specs.Taking.{GetsAll}

-- these bytes are no name
abbrev pub is_no_name : List ℕ → Bool
is_no_name name = not (is_name name)

-- the bytes in each of these
abbrev pub bytes_in : List (Vec ℕ Global) → List (List ℕ)
bytes_in refused = map (λ (name : Vec ℕ Global). name.items) refused

-- there are no more of either than a directory may have
pub record IsFew (parted : Partition) : Type 0 where
  pub named : length parted.names.items ≤ most_entries
  pub refused : length parted.refused.items ≤ most_entries

-- these are the names among all that was given, in its order, and the bytes that are none
pub record HasParts (parted : Partition) (all : List (List ℕ)) : Type 0 where
  pub named : parted.names.items ≡ filter is_name all
  pub refused : bytes_in parted.refused.items ≡ filter is_no_name all
  pub few : IsFew parted

-- why bytes aren't taken: behind so many names, or so many that are none, there may be no more
abbrev pub HasNoRoom : ℕ → ℕ → List ℕ → Type 0
HasNoRoom names refused name =
    (is_entry name ≡ true) × ((most_entries ≤ names) ⊎ (most_entries ≤ refused))

-- the same behind these
abbrev pub IsBeyond : Partition → List ℕ → Type 0
IsBeyond parted name = HasNoRoom (length parted.names.items) (length parted.refused.items) name

-- the same behind all that was given
abbrev pub IsOneTooMany : List (List ℕ) → List ℕ → Type 0
IsOneTooMany all name = HasNoRoom (length (filter is_name all)) (length (filter is_no_name all)) name

-- the directory is opened once, and gives names and bytes that are none by its reads; the bytes are put into their order
pub record GivesApart {S F D : Type 0} (sys : OfSystem S F D) (input : OfInput D) (at : FolderEntry)
    (system : Change S) (parted : Partition) (refused : List (Vec ℕ Global)) : Type 0 where
  pub dir : D
  pub after : D
  pub opened : sys.opens_dir system.old (entry_text at.folder at.path) (Ok dir) system.new
  pub read : GetsAll input HasParts dir parted after
  pub others : IsPermutation parted.refused.items refused
  pub order : IsSorted (λ x y. slice_cmp nat_cmp x.items y.items) refused
  pub few : length refused ≤ most_entries

-- it is read so; then each entry of a name is looked at, in the listing's order
pub record IsListedPast {S F D : Type 0} (sys : OfSystem S F D) (input : OfInput D) (at : FolderEntry)
    (system : Change S) (refused : List (Vec ℕ Global)) (listing : List Item) : Type 0 where
  pub mid : S
  pub parted : Partition
  pub apart : GivesApart sys input at (change_of system.old mid) parted refused
  pub named : IsPermutation parted.names.items (map (λ item. item.0) listing)
  pub looked : FoldsTo (LooksAt sys.looks (dir_front at.folder at.path)) mid listing system.new

-- it is read so; looking at the names in their order failed, or one comes twice
pub record FailsPast {S F D : Type 0} (sys : OfSystem S F D) (input : OfInput D) (at : FolderEntry)
    (system : Change S) (refused : List (Vec ℕ Global)) : Type 0 where
  pub mid : S
  pub parted : Partition
  pub order : List (List ℕ)
  pub apart : GivesApart sys input at (change_of system.old mid) parted refused
  pub named : IsPermutation parted.names.items order
  pub sorted : IsSorted (slice_cmp nat_cmp) order
  pub looked : FailsToLook sys.looks (dir_front at.folder at.path) order mid system.new

-- Why a directory isn't listed past what is no name: it isn't read to its end, and what was given apart before stays; or it is, looking
-- at its entries fails, and what is no name is given apart. Memory may be wanting at any growth.
abbrev pub FailsToListPast : {S F D : Type 0} → OfSystem S F D → OfInput D → FolderEntry → Change S
    → Change (List (Vec ℕ Global)) → TreeFault → Type 0
FailsToListPast sys input at system refused Device =
    ((refused.new ≡ refused.old) × FailsToReadDir sys input IsOneTooMany at system)
    ⊎ FailsPast sys input at system refused.new
FailsToListPast {S} sys input at system refused Memory = (refused.new ≡ refused.old)
    ⊎ ((mid : S) × (parted : Partition)
    × GivesApart sys input at (change_of system.old mid) parted refused.new)
