-- What holds of a run in progress where the destination tells, whatever the source and the log do. It is said against the destination's tree at the start.
use Rattle.std.specs.Prelude.{◌≡◌, ◌⊎◌, ◌≤◌, All, ℕ, true, List, [], ◌∷◌, ◌++◌, is_some, None, Some, slice_get, take}
use Rattle.std.specs.Option.{option_or}
use Rattle.pt_object.specs.Holding.{IsFree}
use Rattle.pt_object.specs.Root.{base}
use Rattle.pt_object.specs.RootFiles.{root_files_of}
use Rattle.pt_object.specs.Script.{Item, MakeFile, made}
use Rattle.pt_object.specs.Scripts.{root_script, staging}
use Rattle.pt_object.specs.declared.rows.Row.{Row}
use Rattle.pt_tree.specs.Dest.{Writing}
use Rattle.pt_tree.specs.Path.{Path, rest_below}
use Rattle.pt_tree.specs.Tree.{Bytes, Folder, IsTree, Tree}
use Rattle.pt_plan.specs.Carried.{Carried, folder_where, with_objects}
use Rattle.pt_plan.specs.Fixity.{DestFaultState, come_to_free_places}
use Rattle.pt_plan.specs.Job.{Job}
use Rattle.pt_plan.specs.Roots.{root_in, storage_root, with_root}
use Rattle.pt_plan.specs.Run.{Held}
use Rattle.pt_plan.specs.TurnMake.{staged_content}
use Rattle.pt_plan.specs.declared.object.Object.{Object}
use Rattle.pt_plan.specs.declared.phase.Part.TheVariants as part
use Rattle.pt_plan.specs.declared.phase.Phase.{Phase}
use Rattle.pt_plan.specs.declared.phase.Opening.TheVariants as opening
use Rattle.pt_plan.specs.declared.phase.Phase.TheVariants as phase
use Rattle.pt_plan.specs.declared.phase.Stage.TheVariants as stage
use Rattle.pt_plan.specs.declared.phase.Position.{Position}
use Rattle.pt_invariant.specs.PartsMade.{made_before, script_of_object}
use Rattle.pt_invariant.specs.History.{History}

-- ---- the storage root

-- the root of the start, or else a new one, with the objects placed so far
abbrev pub root_now : Job → Tree → List Carried → Tree
root_now job start placed = with_objects job placed (base job.tuples (root_in start))

-- and with the first so many folders on the way to a place
abbrev pub root_on_way : Job → Tree → List Carried → Path → ℕ → Tree
root_on_way job start placed place number =
    λ path. option_or (root_now job start placed path)
    (folder_where (is_some (rest_below path (take number place))))

-- the first so many files of the layout stand in the root
abbrev pub HasRootFiles : Job → Tree → ℕ → Type 0
HasRootFiles job root number =
    All (λ file. root file.0 ≡ Some (Bytes file.1)) (take number (root_files_of job.tuples))

-- nothing stood at `staging`, and there was no root or one with the layout's files
pub record IsRootOfStart (job : Job) (start : Tree) : Type 0 where
  pub free : IsFree start staging
  pub root : IsFree start storage_root ⊎ HasRootFiles job (root_in start) 3

-- ---- by the phase

-- each of the first so many folders on the way to a place is one
abbrev pub HasFoldersTo : Job → Tree → List Carried → Path → ℕ → Type 0
HasFoldersTo job start placed place number = (i : ℕ) → i ≤ number
    → root_on_way job start placed place number (take i place) ≡ Some Folder

-- the objects came to free places, each whole
abbrev pub CameToFreePlaces : Job → Tree → List Carried → Type 0
CameToFreePlaces job start placed = come_to_free_places job (base job.tuples (root_in start)) placed ≡ true

-- nothing is changed yet
pub record IsUntouched (start : Tree) (now : Writing) : Type 0 where
  pub tree : now.tree ≡ start

-- this was made of a root in `staging`, where neither `staging` nor a root stood
pub record IsMakingRoot (start : Tree) (items : List Item) (now : Writing) : Type 0 where
  pub free : IsFree start staging
  pub root : IsFree start storage_root
  pub tree : now.tree ≡ made items start

-- the root is a folder, and so many of its files were found to be the layout's
pub record IsCheckingRoot (job : Job) (start : Tree) (number : ℕ) (now : Writing) : Type 0 where
  pub free : IsFree start staging
  pub top : root_in start [] ≡ Some Folder
  pub files : HasRootFiles job (root_in start) number
  pub tree : now.tree ≡ start

-- the root holds the objects placed so far, and nothing stands at `staging`
pub record IsBetweenObjects (job : Job) (start : Tree) (placed : List Carried) (now : Writing) : Type 0 where
  pub root : IsRootOfStart job start
  pub came : CameToFreePlaces job start placed
  pub tree : now.tree ≡ with_root start (root_now job start placed)

-- beside that this was made in `staging`, for an object whose place is free; so many folders on the way to it stand
pub record IsMakingObject (job : Job) (start : Tree) (placed : List Carried) (object : Object)
    (items : List Item) (number : ℕ) (now : Writing) : Type 0 where
  pub root : IsRootOfStart job start
  pub came : CameToFreePlaces job start placed
  pub free : root_now job start placed object.place ≡ None
  pub tree : now.tree ≡ made items (with_root start (root_on_way job start placed object.place number))

-- the file of the row at the position is the open one, and holds what was read
pub record IsWriting (held : Held) (position : Position) (now : Writing) : Type 0 where
  pub row : Row
  pub is_row : slice_get held.rows position.row ≡ Some row
  pub writing : now.writing ≡ Some (staged_content row.path)

-- the items before the file that is copied, and that file with the bytes read so far
abbrev pub made_with_copy : Job → Object → Held → (Path → List ℕ) → Position → Path → List Item
made_with_copy job object held bytes position path =
    made_before job object held.rows bytes (part.Content position)
    ++ MakeFile (staged_content path) held.fed ∷ []

-- the destination while a file is copied
pub record IsCopying (job : Job) (start : Tree) (past : History) (object : Object) (held : Held)
    (position : Position) (now : Writing) : Type 0 where
  pub writes : IsWriting held position now
  pub making : IsMakingObject job start past.placed object
      (made_with_copy job object held past.bytes position writes.row.path) 0 now

-- what a run left that has ended: what may be kept, and all as it was unless nothing stood at `staging`, and there was no root or one with the layout's files
pub record DestFaultStateOfRun (job : Job) (start : Tree) (now : Writing) : Type 0 where
  pub kept : DestFaultState job start now.tree
  pub stood : IsRootOfStart job start ⊎ (now.tree ≡ start)

-- what holds at a phase, of the tree at the start and what the destination tells now
abbrev pub DestAt : Job → Tree → History → Phase → Held → Writing → Type 0
DestAt job start past (phase.Opening opening.Begin) held now = IsUntouched start now
DestAt job start past (phase.Opening (opening.Prefix here)) held now = IsUntouched start now
DestAt job start past (phase.Opening opening.Staging) held now = IsUntouched start now
DestAt job start past (phase.Opening opening.Root) held now = IsUntouched start now × IsFree start staging
DestAt job start past (phase.Opening (opening.RootMake number)) held now =
    IsMakingRoot start (take number (root_script job.tuples)) now
DestAt job start past (phase.Opening opening.RootRename) held now = IsMakingRoot start (root_script job.tuples) now
DestAt job start past (phase.Opening (opening.RootCheck number)) held now = IsCheckingRoot job start number now
DestAt job start past (phase.Opening opening.OpenRoot) held now = IsBetweenObjects job start past.placed now
DestAt job start past phase.Judge held now = IsBetweenObjects job start past.placed now
DestAt job start past (phase.Carrying object stage.Open) held now =
    IsMakingObject job start past.placed object [] 0 now
DestAt job start past (phase.Carrying object stage.Scan) held now = IsMakingObject job start past.placed object [] 0 now
DestAt job start past (phase.Carrying object (stage.Read bytes)) held now =
    IsMakingObject job start past.placed object [] 0 now
DestAt job start past (phase.Carrying object (stage.Make here)) held now =
    IsMakingObject job start past.placed object
    (made_before job object held.rows past.bytes here) 0 now
DestAt job start past (phase.Carrying object (stage.Copy position left)) held now =
    IsCopying job start past object held position now
DestAt job start past (phase.Carrying object (stage.Tuples number)) held now =
    IsMakingObject job start past.placed object
    (script_of_object job object held.rows past.bytes) number now
    × HasFoldersTo job start past.placed object.place number
DestAt job start past (phase.Carrying object stage.Rename) held now =
    IsMakingObject job start past.placed object
    (script_of_object job object held.rows past.bytes) job.tuples.count now
    × HasFoldersTo job start past.placed object.place job.tuples.count
DestAt job start past (phase.Carrying object stage.Line) held now = IsBetweenObjects job start past.placed now
DestAt job start past phase.Walk held now = IsBetweenObjects job start past.placed now
DestAt job start past phase.End held now = IsBetweenObjects job start past.placed now
DestAt job start past phase.Ended held now = DestFaultStateOfRun job start now

-- where the destination tells: it was a tree at the start and is one, and what of it was there and what was made
pub record DestPart (job : Job) (past : History) (here : Phase) (held : Held) (start : Tree)
    (now : Writing) : Type 0 where
  pub started : IsTree start
  pub tree : IsTree now.tree
  pub at : DestAt job start past here held now
