-- The turns of the start: the source has to be a Pairtree store, and the destination to hold a root that can be gone on with, or none.
use Rattle.std.specs.Prelude.{◌≡◌, ◌≢◌, ℕ, ◌+◌, ◌==◌, Bool, true, false, cond, List, [], ◌∷◌, ◌++◌, Option, None, Some, slice_get, Ok, Err}
use Rattle.std.specs.Str.{bytes_eq}
use Rattle.pt_name.specs.Prefix.{prefix_refusal, without_line_ends}
use Rattle.pt_name.specs.declared.prefix.PrefixFault.{PrefixFault}
use Rattle.pt_object.specs.RootFiles.{root_files_of}
use Rattle.pt_object.specs.Script.{Item}
use Rattle.pt_object.specs.Scripts.{root_script, staging}
use Rattle.pt_tree.specs.Listing.{Item as Entry}
use Rattle.pt_tree.specs.Path.{Path}
use Rattle.pt_tree.specs.declared.kind.Kind.{Kind}
use Rattle.pt_tree.specs.declared.kind.Kind.TheVariants as kind
use Rattle.pt_plan.specs.Answer.{Answer}
use Rattle.pt_plan.specs.declared.fault.Fault.TheVariants as fault
use Rattle.pt_plan.specs.Job.{Job}
use Rattle.pt_plan.specs.Roots.{storage_root}
use Rattle.pt_plan.specs.Store.{pairtree_root, prefix_file, version_file}
use Rattle.pt_plan.specs.DeviceStates.{Asked, Calls, Finds, Looks, LooksAndLists, Makes, OpensAndReads, Peeks, Renames, asks, does, no_calls}
use Rattle.pt_plan.specs.declared.phase.Phase.{Phase}
use Rattle.pt_plan.specs.declared.phase.Opening.TheVariants as opening
use Rattle.pt_plan.specs.declared.phase.Phase.TheVariants as phase

-- the kind of the entry of this name, if there is one
abbrev pub kind_in : List Entry → List ℕ → Option Kind
kind_in [] name = None
kind_in (entry ∷ entries) name = cond (bytes_eq entry.0 name) (Some entry.1) (kind_in entries name)

-- a file stands there
abbrev pub is_file_kind : Option Kind → Bool
is_file_kind None = false
is_file_kind (Some kind.File) = true
is_file_kind (Some kind.Dir) = false
is_file_kind (Some kind.Other) = false

-- a directory stands there
abbrev pub is_dir_kind : Option Kind → Bool
is_dir_kind None = false
is_dir_kind (Some kind.File) = false
is_dir_kind (Some kind.Dir) = true
is_dir_kind (Some kind.Other) = false

-- what a Pairtree store has at its top (Pairtree 0.1) is looked at in this order, up to the first that isn't as it must be. This stands at the version
-- file's name; then the top is listed, since one that isn't there, or can't be read, is no store for another reason
abbrev pub sees_no_version : Option Kind → List Entry → Asked
sees_no_version here entries = LooksAndLists ((version_file ∷ [], here) ∷ []) [] entries

-- or that is a file, and this stands at the name of the directory of the pairtree
abbrev pub sees_no_pairtree : Option Kind → Asked
sees_no_pairtree here =
    Looks ((version_file ∷ [], Some kind.File) ∷ (pairtree_root ∷ [], here) ∷ [])

-- or that is a directory, and this stands at the prefix file's name
abbrev pub sees_prefix : Option Kind → Asked
sees_prefix here =
    Looks ((version_file ∷ [], Some kind.File) ∷ (pairtree_root ∷ [], Some kind.Dir)
    ∷ (prefix_file ∷ [], here) ∷ [])

-- after an item of the root's script: the next one, or, after the last, the renaming
abbrev pub after_item : ℕ → Phase
after_item item = cond (item == 5) (phase.Opening opening.RootRename) (phase.Opening (opening.RootMake (item + 1)))

-- after a file of the root: the next one, or, after the last, the walk
abbrev pub after_file : ℕ → Phase
after_file file = cond (file == 2) (phase.Opening opening.OpenRoot) (phase.Opening (opening.RootCheck (file + 1)))

-- from the phase and the prefix to the prefix after, with the calls and the answer
pub data StartStep (job : Job) : Phase → List ℕ → List ℕ → Calls → Answer → Type 0 where
  -- up to three names of the top are looked at
  IsStore : (prefix : List ℕ) (here : Option Kind)
      → StartStep job (phase.Opening opening.Begin) prefix prefix (asks (sees_prefix here)) (Ok (phase.Opening (opening.Prefix here)))
  HasNoVersion : (prefix : List ℕ) (here : Option Kind) (entries : List Entry) → is_file_kind here ≡ false
      → StartStep job (phase.Opening opening.Begin) prefix prefix (asks (sees_no_version here entries)) (Err fault.NotPairtree)
  HasNoPairtree : (prefix : List ℕ) (here : Option Kind) → is_dir_kind here ≡ false
      → StartStep job (phase.Opening opening.Begin) prefix prefix (asks (sees_no_pairtree here)) (Err fault.NotPairtree)
  -- the prefix is read, if there is a file for it
  HasNoPrefix : (prefix : List ℕ)
      → StartStep job (phase.Opening (opening.Prefix None)) prefix prefix no_calls (Ok (phase.Opening opening.Staging))
  IsNoPrefixFile : (prefix : List ℕ) (here : Option Kind) → here ≢ None → is_file_kind here ≡ false
      → StartStep job (phase.Opening (opening.Prefix here)) prefix prefix no_calls (Err fault.Prefix)
  HasPrefix : (prefix block : List ℕ) → prefix_refusal block ≡ None
      → StartStep job (phase.Opening (opening.Prefix (Some kind.File))) prefix (without_line_ends block)
      (asks (OpensAndReads (prefix_file ∷ []) block)) (Ok (phase.Opening opening.Staging))
  IsNoPrefix : (prefix block : List ℕ) (why : PrefixFault) → prefix_refusal block ≡ Some why
      → StartStep job (phase.Opening (opening.Prefix (Some kind.File))) prefix prefix
      (asks (OpensAndReads (prefix_file ∷ []) block)) (Err fault.Prefix)
  -- nothing may stand at `staging`
  HasNoStaging : (prefix : List ℕ)
      → StartStep job (phase.Opening opening.Staging) prefix prefix (does (Finds staging None)) (Ok (phase.Opening opening.Root))
  HasStaging : (prefix : List ℕ) (here : Kind)
      → StartStep job (phase.Opening opening.Staging) prefix prefix (does (Finds staging (Some here))) (Err fault.StagingLeft)
  -- the root is made where nothing stands, and compared where a directory does
  HasNoRoot : (prefix : List ℕ)
      → StartStep job (phase.Opening opening.Root) prefix prefix (does (Finds storage_root None)) (Ok (phase.Opening (opening.RootMake 0)))
  HasRoot : (prefix : List ℕ)
      → StartStep job (phase.Opening opening.Root) prefix prefix (does (Finds storage_root (Some kind.Dir)))
      (Ok (phase.Opening (opening.RootCheck 0)))
  IsNoRoot : (prefix : List ℕ) (here : Kind) → is_dir_kind (Some here) ≡ false
      → StartStep job (phase.Opening opening.Root) prefix prefix (does (Finds storage_root (Some here))) (Err fault.Target)
  -- one item of the root's script is made
  MakesRoot : (prefix : List ℕ) (number : ℕ) (item : Item)
      → slice_get (root_script job.tuples) number ≡ Some item
      → StartStep job (phase.Opening (opening.RootMake number)) prefix prefix (does (Makes item)) (Ok (after_item number))
  -- `staging` becomes the root
  RenamesRoot : (prefix : List ℕ)
      → StartStep job (phase.Opening opening.RootRename) prefix prefix (does (Renames staging storage_root)) (Ok (phase.Opening opening.OpenRoot))
  -- one of the root's three files is compared
  IsSame : (prefix : List ℕ) (number : ℕ) (path : Path) (bytes : List ℕ)
      → slice_get (root_files_of job.tuples) number ≡ Some (path, bytes)
      → StartStep job (phase.Opening (opening.RootCheck number)) prefix prefix
      (does (Peeks (storage_root ++ path) bytes)) (Ok (after_file number))
  IsNoFile : (prefix : List ℕ) (number : ℕ) (path : Path) (bytes : List ℕ) (here : Option Kind)
      → slice_get (root_files_of job.tuples) number ≡ Some (path, bytes) → is_file_kind here ≡ false
      → StartStep job (phase.Opening (opening.RootCheck number)) prefix prefix (does (Finds (storage_root ++ path) here))
      (Err fault.Target)
  Differs : (prefix : List ℕ) (number : ℕ) (path : Path) (bytes block : List ℕ)
      → slice_get (root_files_of job.tuples) number ≡ Some (path, bytes)
      → bytes_eq block bytes ≡ false
      → StartStep job (phase.Opening (opening.RootCheck number)) prefix prefix
      (does (Peeks (storage_root ++ path) block)) (Err fault.Target)
