-- The turns of the walk and of the scan keep what holds where the destination tells.
use Rattle.std.proofs.Common.{◌≡◌, ℕ, List, [], ◌∷◌, refl, ap, sym, ◌∙◌, subst}
use Rattle.std.specs.Prelude.{Option, None, Some, Ok, is_some}
use Rattle.std.specs.Option.{option_map, option_or}
use Rattle.pt_name.specs.Tuples.{Tuples}
use Rattle.pt_object.specs.Root.{base_where}
use Rattle.pt_tree.specs.Dest.{Writing, IsKindAt}
use Rattle.pt_tree.specs.Path.{Path, rest_below}
use Rattle.pt_tree.specs.Tree.{Entry, Folder, Tree, kind_of_entry}
use Rattle.pt_invariant.specs.DestInvariant.{DestAt, DestPart, IsBetweenObjects, IsMakingObject, root_now, root_on_way}
use Rattle.pt_plan.specs.Carried.{Carried, folder_where}
use Rattle.pt_invariant.specs.DestLaws.{ScanningKeepsDest, WalkingKeepsDest}
use Rattle.pt_invariant.specs.History.{History, history_after}
use Rattle.pt_plan.specs.Job.{Job}
use Rattle.pt_plan.specs.Run.{Held}
use Rattle.pt_plan.specs.Roots.{root_in, with_root}
use Rattle.pt_plan.specs.TurnScan.{ScanStep, StartsInSite, EntersObject, IsTooDeep, EntersDirectory, MeetsDeep, MeetsLimit, MeetsOther, IsTooLong}
use Rattle.pt_plan.specs.TurnWalk.{WalkStep, IsPresent, IsNew, in_root}
use Rattle.pt_plan.specs.DeviceStates.{Calls, Changes}
use Rattle.pt_plan.specs.declared.object.Object.{Object}
use Rattle.pt_plan.specs.declared.phase.Phase.{Phase}
use Rattle.pt_invariant.proofs.source.InPairtree.{some_same}

-- ---- the root with no folders on the way

pub or_nothing : (here : Option Entry) → option_or here None ≡ here
or_nothing None = refl
or_nothing (Some entry) = refl

top_stands : (tuples : Tuples) (root : Tree) (top : Option Entry) → root [] ≡ top → (entry : Entry) × (base_where tuples root top [] ≡ Some entry)
top_stands tuples root None is = (Folder, refl)
top_stands tuples root (Some entry) is = (entry, is)

or_other : {here : Option Entry} {entry : Entry} (other : Option Entry) → here ≡ Some entry → option_or here other ≡ Some entry
or_other other is = ap (λ (o : Option Entry). option_or o other) is

-- something stands at the root's top
root_top : (job : Job) (start : Tree) (placed : List Carried) → (entry : Entry) × (root_now job start placed [] ≡ Some entry)
root_top job start placed =
    let top = top_stands job.tuples (root_in start) _ refl in
    (top.0, or_other _ top.1)

no_folder : (root : Tree) {top : Entry} → root [] ≡ Some top → (path : Path) → option_or (root path) (folder_where (is_some (rest_below path []))) ≡ root path
no_folder root is [] = or_other (Some Folder) is ∙ sym is
no_folder root is (name ∷ path) = or_nothing (root (name ∷ path))

pub no_folders : (job : Job) (start : Tree) (placed : List Carried) (place : Path) → root_on_way job start placed place 0 ≡ root_now job start placed
no_folders job start placed place =
    let top = root_top job start placed in
    λ i path. no_folder (root_now job start placed) top.1 path i

-- ---- from phase to phase

-- the object is given up
given_up : {job : Job} {start : Tree} {placed : List Carried} {object : Object} {now : Writing} → IsMakingObject job start placed object [] 0 now
    → IsBetweenObjects job start placed now
given_up {job} {start} {placed} {object} it = record {
  root = it.root;
  came = it.came;
  tree = it.tree
      ∙ ap (with_root start) (no_folders job start placed object.place);
}

pub no_kind : (here : Option Entry) → option_map kind_of_entry here ≡ None → here ≡ None
no_kind None is = refl
no_kind (Some entry) is = absurd (cc)

-- nothing stands at the place of a new object
new_making : (job : Job) (start : Tree) (placed : List Carried) (object : Object) {now : Writing}
    → option_map kind_of_entry (now.tree (in_root object.place)) ≡ None → IsBetweenObjects job start placed now
    → IsMakingObject job start placed object [] 0 now
new_making job start placed object is it = record {
  root = it.root;
  came = it.came;
  free = sym (ap (λ (t : Tree). t (in_root object.place)) it.tree) ∙ no_kind _ is;
  tree = it.tree ∙ ap (with_root start) (sym (no_folders job start placed object.place));
}

-- with one more directory counted
counted : {job : Job} {start : Tree} {placed : List Carried} {object : Object} (empty : ℕ) {now : Writing} → IsMakingObject job start placed object [] 0 now
    → IsMakingObject job start placed (record object { empty = empty }) [] 0 now
counted empty it = record { root = it.root; came = it.came; free = it.free; tree = it.tree }

-- ---- no turn of the walk or the scan changes the destination

walks_same : {job : Job} {prefix : List ℕ} {old new : Writing} {here next : Phase} {held after : Held} {calls : Calls}
    → WalkStep job prefix here held after calls (Ok next) → Changes calls.change (Some old) (Some new) → Some new ≡ Some old
unfolding Changes
walks_same (IsPresent was index id kind is) change = change.1
walks_same (IsNew was index id is) change = change.1
walks_same turn change = change

scans_same : {job : Job} {old new : Writing} {here next : Phase} {held after : Held} {calls : Calls} → ScanStep job here held after calls (Ok next)
    → Changes calls.change (Some old) (Some new) → Some new ≡ Some old
unfolding Changes
scans_same (StartsInSite was object gathered) change = change
scans_same turn change = change

-- ---- so what holds of it goes on to hold

-- what holds after a turn from one phase to another, before which so much was held
abbrev pub DestAfter : Job → History → Phase → Phase → Held → Held → Tree → Writing → Type 0
DestAfter job past here next held after start now = DestPart job (history_after here next held past) next after start now

walks_keep : {job : Job} (start : Tree) (past : History) (old new : Writing) {prefix : List ℕ} {here next : Phase} {held after : Held} {calls : Calls}
    → WalkStep job prefix here held after calls (Ok next)
    → Changes calls.change (Some old) (Some new) → DestAt job start past here held old → DestAt job start (history_after here next held past) next after old
unfolding Changes IsKindAt
walks_keep {job} start past old new (IsNew was index id is) change at = new_making job start past.placed _ (change.0 old refl) at
walks_keep start past old new turn change at = at

scans_keep : {job : Job} (start : Tree) (past : History) (old : Writing) {here next : Phase} {held after : Held} {calls : Calls}
    → ScanStep job here held after calls (Ok next)
    → DestAt job start past here held old → DestAt job start (history_after here next held past) next after old
scans_keep start past old (EntersObject was object items apart shallow) at = counted _ at
scans_keep start past old (IsTooDeep was object apart deep) at = given_up at
scans_keep start past old (EntersDirectory was object name items e apart shallow) at = counted _ at
scans_keep start past old (MeetsDeep was object name e apart deep) at = given_up at
scans_keep start past old (MeetsLimit was object name e room) at = given_up at
scans_keep start past old (MeetsOther was object name e) at = given_up at
scans_keep start past old (IsTooLong was object bytes byte block long) at = given_up at
scans_keep start past old turn at = at

-- with the destination as it was
pub unchanged : {job : Job} {past : History} {here : Phase} {held : Held} {start : Tree} {old new : Writing} → Some new ≡ Some old
    → DestPart job past here held start old → DestPart job past here held start new
unchanged {job} {past} {here} {held} {start} {old} {new} same part = subst (DestPart job past here held start) (sym (some_same new old same)) part

pub walks_dest : WalkingKeepsDest
walks_dest job past start old new prefix here next held after calls turn change at part =
    unchanged (walks_same turn change)
    (record { started = part.started; tree = part.tree; at = walks_keep start past old new turn change part.at })

pub scans_dest : ScanningKeepsDest
scans_dest job past start old new here next held after calls turn change at part =
    unchanged (scans_same turn change)
    (record { started = part.started; tree = part.tree; at = scans_keep start past old turn part.at })
