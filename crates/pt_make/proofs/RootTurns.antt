-- The turns that look at a storage root or make one, from their calls.
use Rattle.std.proofs.Common.{◌≡◌, ◌<◌, ◌≤◌, ◌-◌, ℕ, zero, suc, List, [], ◌∷◌, ◌++◌, append_assoc, refl, sym, ap, ◌∙◌, true, false, arith}
use Rattle.std.specs.Prelude.{Option, None, Some, Result, Ok, Err, IsErrAnd, IfOk, IsSome, codes, is_some, slice_get}
use Rattle.std.specs.Option.{option_map}
use Rattle.std.specs.Str.{bytes_eq}
use Rattle.pt_name.specs.Tuples.{Tuples}
use Rattle.pt_object.proofs.Ways.{same_name}
use Rattle.pt_state.proofs.Words.{
  MakeFile,
  MakeFolder,
  staging,
  Answer,
  Answers,
  Did,
  FailsPartway,
  Start,
  Changes,
  Finds,
  Puts,
  Makes,
  Renames,
  DeviceStates,
  does,
  Fault,
  Phase,
  Turned,
  KeepsAll,
  Writing,
  IsKindAt,
  MayMake,
  Path,
  Bytes,
  kind_of_entry,
  Kind,
}
use Rattle.pt_state.specs.declared.state.State.{State}
use Rattle.pt_state.proofs.Words.fault
use Rattle.pt_state.proofs.Words.kind
use Rattle.pt_state.proofs.Words.opening
use Rattle.pt_state.proofs.Words.phase
use Rattle.pt_object.specs.RootFiles.{extension_name, root_files_of}
use Rattle.pt_object.specs.Script.{Item}
use Rattle.pt_object.specs.Scripts.{root_script}
use Rattle.pt_plan.specs.Enabled.{MayMakeRootItem}
use Rattle.pt_plan.specs.Roots.{storage_root}
use Rattle.pt_plan.specs.TurnStart.{
  HasNoStaging,
  HasStaging,
  HasNoRoot,
  HasRoot,
  IsNoRoot,
  MakesRoot,
  RenamesRoot,
  IsSame,
  IsNoFile,
  Differs,
  after_file,
  after_item,
  is_dir_kind,
  is_file_kind,
}
use Rattle.pt_plan.specs.DeviceStates.{Peeks}
use Rattle.pt_make.specs.Root.{IsRootFile, IsRootItem, configuration, inner_folder, outer_folder}
use Rattle.pt_state.proofs.Together.{looked_same, looked_then}
use Rattle.pt_state.proofs.Turns.{keeps_same, left_some, turns}
use Rattle.pt_tree.specs.Dest.{CanPeek, MayMove}
use Rattle.pt_tree.proofs.Below.{gap_below}
use Rattle.pt_tree.specs.Tree.{Entry as TreeEntry, Folder, IsTree, Tree, bytes_of}
use Rattle.pt_state.proofs.Starts.{StartsAt, goes, halts}

-- ---- staging and the root

module _ (s : State) (w w' : DeviceStates) (path : Path) where
  pub no_staging : path ≡ staging → Did (does (Finds path None)) w w' → Turned (phase.Opening opening.Staging) s s w w' (Ok (phase.Opening opening.Root))
  no_staging is did = goes w w' (HasNoStaging _) (rw is at did) refl keeps_same refl

  pub staging_left : (here : Kind) → path ≡ staging → Did (does (Finds path (Some here))) w w'
      → Turned (phase.Opening opening.Staging) s s w w' (Err fault.StagingLeft)
  staging_left here is did = halts w w' (HasStaging _ here) (rw is at did) keeps_same

  pub no_root : path ≡ storage_root → Did (does (Finds path None)) w w' → Turned (phase.Opening opening.Root) s s w w' (Ok (phase.Opening (opening.RootMake 0)))
  no_root is did = goes w w' (HasNoRoot _) (rw is at did) refl keeps_same refl

  pub has_root : path ≡ storage_root → Did (does (Finds path (Some kind.Dir))) w w'
      → Turned (phase.Opening opening.Root) s s w w' (Ok (phase.Opening (opening.RootCheck 0)))
  has_root is did = goes w w' (HasRoot _) (rw is at did) refl keeps_same refl

  pub is_no_root : (here : Kind) → path ≡ storage_root → is_dir_kind (Some here) ≡ false → Did (does (Finds path (Some here))) w w'
      → Turned (phase.Opening opening.Root) s s w w' (Err fault.Target)
  is_no_root here is other did = halts w w' (IsNoRoot _ here other) (rw is at did) keeps_same

-- ---- a new root

-- the path and the bytes of a file that is lent
path_in : Option (Path × List ℕ) → Path
path_in None = []
path_in (Some file) = file.0

bytes_in : Option (Path × List ℕ) → List ℕ
bytes_in None = []
bytes_in (Some file) = file.1

-- a folder of a new root, from its number
pub folder_item : {E : Type 0} (tuples : Tuples) (item number : ℕ) (folder : Path) (r : Result Path E) → item ≡ number
    → slice_get (root_script tuples) number ≡ Some (MakeFolder folder) → IfOk r (λ path. path ≡ folder)
    → IfOk r (λ path. IsRootItem tuples item (MakeFolder path))
unfolding IsRootItem
folder_item tuples item number folder (Ok path) same at is = ap (slice_get (root_script tuples)) same ∙ at ∙ ap (λ (p : Path). Some (MakeFolder p)) (sym is)
folder_item tuples item number folder (Err fault) same at is = tt

-- the root has three files
pub has_file : (tuples : Tuples) (files : List (Path × List ℕ)) (number : ℕ) → None ≡ slice_get files number → files ≡ root_files_of tuples → number < 3 → ⊥
has_file tuples files number none are few = by number few (none ∙ ap (λ (l : List (Path × List ℕ)). slice_get l number) are)
  where
    by : (number : ℕ) → number < 3 → None ≡ slice_get (root_files_of tuples) number → ⊥
    by zero few e = cc
    by (suc zero) few e = cc
    by (suc (suc zero)) few e = cc
    by (suc (suc (suc number))) few e = omega (arith, few)

pub may_make_folder : (told : Option Writing) (tuples : Tuples) (item : ℕ) (path : Path) → MayMakeRootItem told tuples item
    → IsRootItem tuples item (MakeFolder path) → MayMake told path
unfolding MayMakeRootItem IsRootItem
may_make_folder told tuples item path may is = may (MakeFolder path) is

-- a file of the root is the item of its number
module _ (tuples : Tuples) (files : List (Path × List ℕ)) (item : ℕ) (whole path : Path) (bytes : List ℕ) (is : whole ≡ staging ++ path)
    (file : Some (path, bytes) ≡ slice_get files (5 - item)) (are : files ≡ root_files_of tuples) (many : 3 ≤ item) (few : item < 6) where
  pub root_file : IsRootItem tuples item (MakeFile whole bytes)
  unfolding path_in bytes_in IsRootItem
  root_file = by item many few (file ∙ ap (λ (l : List (Path × List ℕ)). slice_get l (5 - item)) are)
    where
      same : (p : Path) (b : List ℕ) → (let o : Option (Path × List ℕ) = Some (path, bytes) in let o' : Option (Path × List ℕ) = Some (p, b) in o ≡ o')
          → Some (MakeFile (staging ++ p) b) ≡ Some (MakeFile whole bytes)
      same p b e = ap (λ (q : Path). Some (MakeFile (staging ++ q) b)) (sym (ap path_in e)) ∙ ap (λ (q : Path). Some (MakeFile q b)) (sym is)
          ∙ ap (λ (l : List ℕ). Some (MakeFile whole l)) (sym (ap bytes_in e))

      by : (item : ℕ) → 3 ≤ item → item < 6 → Some (path, bytes) ≡ slice_get (root_files_of tuples) (5 - item)
          → slice_get (root_script tuples) item ≡ Some (MakeFile whole bytes)
      by zero many few e = absurd (omega (arith, many))
      by (suc zero) many few e = absurd (omega (arith, many))
      by (suc (suc zero)) many few e = absurd (omega (arith, many))
      by (suc (suc (suc zero))) many few e = same _ _ e
      by (suc (suc (suc (suc zero)))) many few e = same _ _ e
      by (suc (suc (suc (suc (suc zero))))) many few e = same _ _ e
      by (suc (suc (suc (suc (suc (suc item)))))) many few e = absurd (omega (arith, few))

  pub may_make_file : (told : Option Writing) → MayMakeRootItem told tuples item → MayMake told whole
  unfolding MayMakeRootItem IsRootItem
  may_make_file told may = may (MakeFile whole bytes) root_file

makes_item : (s : State) (item : ℕ) (it : Item) → IsRootItem s.job.layout item it
    → StartsAt (phase.Opening (opening.RootMake item)) s (does (Makes it)) (Ok (after_item item))
unfolding IsRootItem
makes_item s item it is = MakesRoot _ item it is

pub made_item : (s : State) (w w' : DeviceStates) (number : ℕ) (item : Item) (next : Phase) → Did (does (Makes item)) w w' → IsRootItem s.job.layout number item
    → next ≡ after_item number → Turned (phase.Opening (opening.RootMake number)) s s w w' (Ok next)
made_item s w w' number item next did is then =
    rw then (goes w w' (makes_item s number item is) did refl keeps_same refl)

pub left_item : (s : State) (w w' : DeviceStates) (number : ℕ) (item : Item) (f : Fault) (result : Answer) → IsErrAnd result (λ g. g ≡ f)
    → FailsPartway (does (Makes item)) f w w' → IsRootItem s.job.layout number item → Turned (phase.Opening (opening.RootMake number)) s s w w' result
left_item s w w' number item f result is part it = left_some w w' f result is (λ fed. Start (makes_item s number item it)) part keeps_same

pub renamed_root : (s : State) (w w' : DeviceStates) (to : Path) → Did (does (Renames staging to)) w w' → to ≡ storage_root
    → Turned (phase.Opening opening.RootRename) s s w w' (Ok (phase.Opening opening.OpenRoot))
renamed_root s w w' to did at =
    goes w w' (RenamesRoot _) (rw (at) at did) refl keeps_same refl

pub may_rename_root : (told : Option Writing) (to : Path) → MayMove told staging storage_root → to ≡ storage_root → MayMove told staging to
may_rename_root told to may is = rw is may

-- ---- the root that stands

pub root_file_at : (tuples : Tuples) (files : List (Path × List ℕ)) (number : ℕ) (whole path : Path) (bytes : List ℕ) → whole ≡ storage_root ++ path
    → Some (path, bytes) ≡ slice_get files number → files ≡ root_files_of tuples → IsRootFile tuples number whole bytes
unfolding IsRootFile
root_file_at tuples files number whole path bytes at file are = (path, (at, ap (λ (l : List (Path × List ℕ)). slice_get l number) (sym are) ∙ sym file))

is_file : (here : Option Kind) → true ≡ is_file_kind here → here ≡ Some kind.File
is_file (Some kind.File) is = refl
is_file _ is = absurd (cc)

-- a file is there
pub can_peek_file : (w w' : DeviceStates) (path : Path) (here : Option Kind) → Did (does (Finds path here)) w w' → true ≡ is_file_kind here
    → CanPeek w'.dest path
unfolding Did Changes IsKindAt CanPeek
can_peek_file w w' path here did is = λ s e. by (s.tree path) (did.0.dest.0 s (sym did.0.dest.1 ∙ e) ∙ is_file here is)
  where
    by : (o : Option TreeEntry) → option_map kind_of_entry o ≡ Some kind.File → IsSome (bytes_of o)
    by (Some (Bytes bytes)) at = refl
    by _ at = absurd (cc)

pub no_file : (s : State) (w w' : DeviceStates) (number : ℕ) (whole : Path) (bytes : List ℕ) (here : Option Kind) → Did (does (Finds whole here)) w w'
    → IsRootFile s.job.layout number whole bytes → false ≡ is_file_kind here → Turned (phase.Opening (opening.RootCheck number)) s s w w' (Err fault.Target)
unfolding IsRootFile
no_file s w w' number whole bytes here did file is =
    halts w w' (IsNoFile _ number file.0 bytes here file.1.1 (sym is)) (rw file.1.0 at did) keeps_same

-- below what is no folder nothing stands
none_below : (t : Tree) → IsTree t → (p : Path) (name : List ℕ) (rest : Path) → (t p ≡ Some Folder → ⊥) → t (p ++ name ∷ rest) ≡ None
none_below t tree p name rest other =
    ap t (sym (append_assoc p (name ∷ []) rest)) ∙ gap_below t tree (p ++ name ∷ []) rest (by (t (p ++ name ∷ [])) refl)
  where
    by : (o : Option TreeEntry) → t (p ++ name ∷ []) ≡ o → o ≡ None
    by None e = refl
    by (Some entry) e = absurd (other (tree.above p name (ap is_some e)))

-- so nothing is told to stand below what isn't found to be one
pub lacks_below : (told : Option Writing) → ((s : Writing) → told ≡ Some s → IsTree s.tree) → (p : Path) (name : List ℕ) (rest : Path) (here : Option Kind)
    → IsKindAt told p here → is_dir_kind here ≡ false → IsKindAt told (p ++ name ∷ rest) None
unfolding IsKindAt
lacks_below told trees p name rest here found other = λ s e.
    ap (option_map kind_of_entry) (none_below s.tree (trees s e) p name rest (λ folder. by here (sym (ap (option_map kind_of_entry) folder) ∙ found s e) other))
  where
    by : (here : Option Kind) → Some kind.Dir ≡ here → is_dir_kind here ≡ false → ⊥
    by None is none = cc
    by (Some kind.File) is none = cc
    by (Some kind.Dir) is none = cc
    by (Some kind.Other) is none = cc

-- so the layout's configuration isn't there where one of the folders that it lies in isn't found to be one
pub outer_lacks : (w w' : DeviceStates) (path : Path) (here : Option Kind) → path ≡ outer_folder → ((s : Writing) → w.dest ≡ Some s → IsTree s.tree)
    → Did (does (Finds path here)) w w' → is_dir_kind here ≡ false → IsKindAt w.dest configuration None
unfolding Did Changes
outer_lacks w w' path here is trees did other = lacks_below w.dest trees outer_folder extension_name (codes "config.json" ∷ []) here (rw is at did).0.dest.0
    other

pub inner_lacks : (w between w' : DeviceStates) (outer path : Path) (found here : Option Kind) → path ≡ inner_folder
    → ((s : Writing) → w.dest ≡ Some s → IsTree s.tree) → Did (does (Finds outer found)) w between → Did (does (Finds path here)) between w'
    → is_dir_kind here ≡ false → IsKindAt w.dest configuration None
unfolding Did Changes
inner_lacks w between w' outer path found here is trees first did other =
    lacks_below w.dest trees inner_folder (codes "config.json") [] here (rw is at (rw (looked_same outer found w between first) at did)).0.dest.0 other

-- and a folder stands where one is found
is_folder : (here : Option Kind) → is_dir_kind here ≡ true → here ≡ Some kind.Dir
is_folder None is = absurd (cc)
is_folder (Some kind.File) is = absurd (cc)
is_folder (Some kind.Dir) is = refl
is_folder (Some kind.Other) is = absurd (cc)

pub outer_stands : (w w' : DeviceStates) (path : Path) (here : Option Kind) → path ≡ outer_folder → Did (does (Finds path here)) w w' → is_dir_kind here ≡ true
    → IsKindAt w.dest outer_folder (Some kind.Dir)
unfolding Did Changes
outer_stands w w' path here is did folder = rw (is_folder here folder) at (rw is at did).0.dest.0

pub inner_stands : (w between w' : DeviceStates) (outer path : Path) (found here : Option Kind) → path ≡ inner_folder → Did (does (Finds outer found)) w between
    → Did (does (Finds path here)) between w' → is_dir_kind here ≡ true → IsKindAt w.dest inner_folder (Some kind.Dir)
unfolding Did Changes
inner_stands w between w' outer path found here is first did folder =
    rw (is_folder here folder) at (rw is at (rw (looked_same outer found w between first) at did)).0.dest.0

-- the configuration's path is that of the root's last file
configuration_at : (tuples : Tuples) (whole : Path) (bytes : List ℕ) → IsRootFile tuples 2 whole bytes → whole ≡ configuration
unfolding IsRootFile path_in
configuration_at tuples whole bytes file = file.1.0 ∙ ap (λ (p : Path). storage_root ++ p) (sym (ap path_in file.1.1))

pub no_configuration : (s : State) (w w' : DeviceStates) (path : Path) (bytes : List ℕ) → IsRootFile s.job.layout 2 path bytes
    → IsKindAt w.dest configuration None → w' ≡ w → Turned (phase.Opening (opening.RootCheck 2)) s s w w' (Err fault.Target)
unfolding Did Answers Changes Puts
no_configuration s w w' path bytes file none same =
    rw same (no_file s w w 2 path bytes None (record { source = refl; dest = (rw (configuration_at _ path bytes file) none, refl); log = refl }, refl) file
    refl)

-- it was found, and then peeked into
peeked : (a b c : DeviceStates) (whole : Path) (at : Path) (here : Option Kind) (block : List ℕ) → whole ≡ at → Did (does (Finds whole here)) a b
    → Did (does (Peeks whole block)) b c → Did (does (Peeks at block)) a c
peeked a b c whole at here block is found read = rw is at (rw (looked_same whole here a b found) at read)

pub same_file : (s s' : State) (a b c : DeviceStates) (number : ℕ) (whole : Path) (bytes block : List ℕ) (here : Option Kind) (next : Phase)
    → Did (does (Finds whole here)) a b → Did (does (Peeks whole block)) b c → IsRootFile s.job.layout number whole bytes → bytes_eq block bytes ≡ true
    → next ≡ after_file number → KeepsAll s s' → s'.hasher ≡ s.hasher
    → Turned (phase.Opening (opening.RootCheck number)) s s' a c (Ok next)
unfolding IsRootFile
same_file s s' a b c number whole bytes block here next found read file eq then keeps same =
    rw then
    (goes a c (IsSame _ number file.0 bytes file.1.1)
    (rw (same_name block bytes eq) at (peeked a b c whole (storage_root ++ file.0) here block file.1.0 found read)) refl keeps same)

pub other_file : (s s' : State) (a b c : DeviceStates) (number : ℕ) (whole : Path) (bytes block : List ℕ) (here : Option Kind)
    → Did (does (Finds whole here)) a b → Did (does (Peeks whole block)) b c → IsRootFile s.job.layout number whole bytes → bytes_eq block bytes ≡ false
    → KeepsAll s s' → Turned (phase.Opening (opening.RootCheck number)) s s' a c (Err fault.Target)
unfolding IsRootFile
other_file s s' a b c number whole bytes block here found read file ne keeps =
    halts a c (Differs _ number file.0 bytes block file.1.1 ne) (peeked a b c whole (storage_root ++ file.0) here block file.1.0 found read) keeps

pub ruleset starting = (
  turns,
  has_file,
  root_file,
  may_make_folder,
  may_make_file,
  made_item,
  left_item,
  renamed_root,
  may_rename_root,
  root_file_at,
  can_peek_file,
  looked_then,
  no_file,
  same_file,
  other_file,
  no_staging,
  staging_left,
  no_root,
  has_root,
  is_no_root,
)

pub ruleset staging_rows = (turns, no_staging, staging_left)

pub ruleset root_rules = (starting, staging_rows)
