-- What stood in the destination at the start stands in whatever a run leaves.
use Rattle.std.proofs.Common.{inl, inr, ◌≡◌, ◌⊎◌, true, List, [], ◌∷◌, refl, ap, sym, ◌∙◌, subst, map, take}
use Rattle.std.specs.List.{list_any}
use Rattle.std.specs.Option.{option_or}
use Rattle.std.specs.Prelude.{Option, None, Some, is_some}
use Rattle.std.proofs.lemmas.Bool.{and_from, true≢false}
use Rattle.pt_object.specs.Holding.{IsFree, placed_at}
use Rattle.pt_object.specs.Inventory.{inventory_text}
use Rattle.pt_object.specs.Object.{bytes_in, rows_of, stored_files}
use Rattle.pt_object.specs.Root.{base, base_where}
use Rattle.pt_object.specs.Script.{Item, MakeFile, item_in, made}
use Rattle.pt_object.specs.Scripts.{object_items, root_items, staging}
use Rattle.pt_tree.specs.Path.{Path, rest_below, same_path}
use Rattle.pt_tree.specs.Tree.{Entry, IsTree, Tree}
use Rattle.pt_tree.proofs.Below.{whole_of}
use Rattle.pt_plan.proofs.CarriedFiles.{all_take}
use Rattle.pt_plan.proofs.MovedIn.{roots_have_no_gaps}
use Rattle.pt_plan.proofs.LaterTrees.{made_beside, prefix_beside}
use Rattle.pt_plan.proofs.StagingKeeps.{in_staging, items_in}
use Rattle.pt_plan.specs.Carried.{Carried, entry_of_objects, folder_where, is_on_the_way, with_objects}
use Rattle.pt_plan.specs.Fixity.{AsItWas, Holding, DestFaultState, Making, MakingRoot, StandsAtContent}
use Rattle.pt_plan.specs.Job.{Job}
use Rattle.pt_plan.specs.Roots.{root_in, storage_root, tuple_folders, with_folders, with_root}
use Rattle.pt_invariant.specs.RunInvariant.{RunInvariant}
use Rattle.pt_invariant.specs.DestInvariant.{DestPart, IsRootOfStart}
use Rattle.pt_invariant.specs.StillLaws.{InvariantStandsStill, IsForNew, LeftBehindStandsStill, StandsStill}
use Rattle.pt_invariant.proofs.source.InPairtree.{some_same}
use Rattle.pt_invariant.proofs.faults.KeptNow.{kept_now}
use Rattle.pt_invariant.proofs.Tests.{all_drop, first_passes}
use Rattle.pt_invariant.proofs.items.Telling.{both_tell}

-- ---- nothing was made

pub all_still : (start : Tree) → StandsStill start start
all_still _ = record { stays = λ path entry is. is; new = λ path none some. absurd (true≢false (sym some ∙ ap is_some none)) }

-- ---- in the root

-- with another root in which all of its own stands
rooted_still : {start root : Tree} → ((path : Path) (entry : Entry) → root_in start path ≡ Some entry → root path ≡ Some entry)
    → StandsStill start (with_root start root)
rooted_still {start} {root} grown = record {
  stays = λ path entry is. stays path entry is (rest_below storage_root path) refl;
  new = λ path none some. new path
      none (rest_below storage_root path) refl some;
}
  where
    stays : (path : Path) (entry : Entry) → start path ≡ Some entry → (o : Option Path) → rest_below storage_root path ≡ o
        → placed_at root o (start path) ≡ Some entry
    stays path entry is None below = is
    stays path entry is (Some rest) below = grown rest entry (sym (ap start (whole_of storage_root path rest below)) ∙ is)

    new : (path : Path) → start path ≡ None → (o : Option Path) → rest_below storage_root path ≡ o → is_some (placed_at root o (start path)) ≡ true
        → IsForNew start path
    new path none None below some = absurd (true≢false (sym some ∙ ap is_some none))
    new path none (Some rest) below some = inl (ap is_some below)

-- what stands in the root stands in what objects are put on
based : (job : Job) {start : Tree} {path : Path} {entry : Entry} → IsTree start → root_in start path ≡ Some entry
    → base job.tuples (root_in start) path ≡ Some entry
based job {start} {path} {entry} tree is = by (root_in start []) refl
  where
    by : (o : Option Entry) → root_in start [] ≡ o → base_where job.tuples (root_in start) o path ≡ Some entry
    by None none = absurd (let absent = (roots_have_no_gaps start tree).1 none path in let no : None ≡ Some entry = sym absent ∙ is in cc)
    by (Some top) some = is

-- and with objects, and folders
grown_objects : (job : Job) {start : Tree} (objects : List Carried) {path : Path} {entry : Entry} → IsTree start → root_in start path ≡ Some entry
    → with_objects job objects (base job.tuples (root_in start)) path ≡ Some entry
grown_objects job objects {path} tree is = ap (λ (here : Option Entry). option_or here
    (option_or (entry_of_objects job objects path) (folder_where (is_on_the_way job objects path)))) (based job tree is)

objects_still : (job : Job) {start : Tree} (objects : List Carried) → IsTree start
    → StandsStill start (with_root start (with_objects job objects (base job.tuples (root_in start))))
objects_still job {start} objects tree = rooted_still (λ path entry is. grown_objects job objects tree is)

folders_still : (job : Job) {start : Tree} (objects : List Carried) (folders : List Path) → IsTree start
    → StandsStill start (with_root start (with_folders folders (with_objects job objects (base job.tuples (root_in start)))))
folders_still job {start} objects folders tree =
    rooted_still
    (λ path entry is. ap (λ (here : Option Entry). option_or here (folder_where (list_any (same_path path) folders))) (grown_objects job objects tree is))

-- ---- in `staging`

content_beside : (items : List Item) {start now : Tree} → StandsAtContent (map (item_in staging) items) start now → (path : Path)
    → rest_below staging path ≡ None → now path ≡ start path
content_beside items {start} at path out =
    let script = map (item_in staging) items in
    let inside = first_passes in_staging at.items script _ at.next (all_drop in_staging at.items script (items_in items)) in
    ap (λ (t : Tree). t path) at.stands
    ∙ made_beside (MakeFile at.path at.held ∷ []) (made (take at.items script) start) (and_from (in_staging (MakeFile at.path at.held)) true inside refl) path
    out
    ∙ made_beside (take at.items script) start (all_take in_staging at.items script (items_in items)) path out

-- with something made there, where nothing stood
made_still : {start mid : Tree} {now : Tree} → IsFree start staging → StandsStill start mid
    → ((path : Path) → rest_below staging path ≡ None → now path ≡ mid path) → StandsStill start now
made_still {start} {now} free still beside = record {
  stays = λ path entry is. stays path entry is (rest_below staging path) refl;
  new = λ path none some. new
      path none some (rest_below staging path) refl;
}
  where
    stays : (path : Path) (entry : Entry) → start path ≡ Some entry → (o : Option Path) → rest_below staging path ≡ o → now path ≡ Some entry
    stays path entry is None below = beside path below ∙ still.stays path entry is
    stays path entry is (Some rest) below = absurd (let no : None ≡ Some entry = sym (ap start (whole_of staging path rest below) ∙ free rest) ∙ is in cc)

    new : (path : Path) → start path ≡ None → is_some (now path) ≡ true → (o : Option Path) → rest_below staging path ≡ o → IsForNew start path
    new path none some None below = still.new path none (ap is_some (sym (beside path below)) ∙ some)
    new path none some (Some rest) below = inr (free, ap is_some below)

-- ---- whatever is left

kept_still : {job : Job} {start now : Tree} → IsTree start → IsFree start staging → DestFaultState job start now → StandsStill start now
kept_still {start} _ _ AsItWas = all_still start
kept_still {job} {start} _ free (MakingRoot _ _ at) = made_still free (all_still start) (prefix_beside (root_items job.tuples) _ _ at)
kept_still {job} tree _ (Holding objects _) = objects_still job objects tree
kept_still {job} {start} tree free (Making objects next tuples _ _ at) =
    let folders = take tuples (tuple_folders job next) in
    let mid = with_root start (with_folders folders (with_objects job objects (base job.tuples (root_in start)))) in
    let rows = rows_of job.algorithm next.files in
    let items = object_items job.algorithm (inventory_text next.id rows job.meta job.algorithm) (stored_files rows (bytes_in next.files)) in
    made_still free (folders_still job objects folders tree)
    (elim at [
      | inl prefix ↦ prefix_beside items _ _ prefix
      | inr content ↦ content_beside items content
    ])

pub left_behind_stands_still : LeftBehindStandsStill
left_behind_stands_still job start now tree left = by left.stood
  where
    by : IsRootOfStart job start ⊎ (now.tree ≡ start) → StandsStill start now.tree
    by (inl root) = kept_still tree root.free left.kept
    by (inr same) = subst (StandsStill start) (sym same) (all_still start)

pub invariant_stands_still : InvariantStandsStill
unfolding RunInvariant
invariant_stands_still job start states run t now (past, is) start_is dest_is =
    let had = both_tell (DestPart job past run.phase run.kept.held) start.dest states.dest start_is is.dest in
    let same = some_same had.0 now (sym had.1 ∙ dest_is) in
    rw same at (left_behind_stands_still job t had.0 had.2.started (kept_now job past t run.phase run.kept.held had.0 is.held had.2))
