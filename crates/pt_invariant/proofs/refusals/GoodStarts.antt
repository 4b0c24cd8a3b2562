-- From a good start nothing is refused: each refusal says what no good start is.
use Rattle.std.proofs.Common.{◌≡◌, ℕ, zero, suc, Bool, true, List, [], ◌∷◌, refl, ap, sym, ◌∙◌, inl, inr}
use Rattle.std.specs.List.{list_all}
use Rattle.std.specs.Prelude.{Some, flat_map, is_some, slice_get, ◌⊎◌}
use Rattle.std.proofs.lemmas.Bool.{and_parts, false≢true, true≢false}
use Rattle.std.proofs.lemmas.List.Folds.{list_all-append}
use Rattle.pt_object.specs.FilePaths.{File}
use Rattle.pt_object.specs.Holding.{IsFree}
use Rattle.pt_object.specs.RootFiles.{root_files_of}
use Rattle.pt_object.specs.Script.{folders_above}
use Rattle.pt_tree.specs.Forest.{Forest}
use Rattle.pt_tree.specs.Tree.{Bytes, Folder, IsTree, Tree}
use Rattle.pt_plan.specs.Carried.{Carried, IsUsable, Marked, all_carried, carried_by, is_folder_or_free, is_way_free, marked, place_of_carried}
use Rattle.pt_plan.specs.Job.{Job}
use Rattle.pt_plan.specs.Roots.{root_in}
use Rattle.pt_plan.specs.Run.{Run}
use Rattle.pt_plan.specs.DeviceStates.{DeviceStates}
use Rattle.pt_plan.specs.declared.fault.Fault.TheVariants as fault
use Rattle.pt_invariant.specs.RunInvariant.{RunInvariant, Start}
use Rattle.pt_invariant.specs.DestInvariant.{DestPart}
use Rattle.pt_invariant.specs.GoodStart.{NothingIsRefused}
use Rattle.pt_invariant.specs.RefusalLaws.{HasOtherFile, IsBadTarget, IsBarred, IsCarriedOf, IsNoFolder}
use Rattle.pt_invariant.proofs.items.PlacesTell.{all_at}
use Rattle.pt_invariant.proofs.refusals.Reasons.{halts_for, of_turn}
use Rattle.pt_invariant.proofs.refusals.Refusing.{refuses_rightly}
use Rattle.pt_invariant.proofs.refusals.StagingFound.{finds_staging}
use Rattle.pt_invariant.proofs.dest.StartsDest.{root_stands}
use Rattle.pt_invariant.proofs.refusals.TargetFound.{finds_target_of}
use Rattle.pt_invariant.proofs.Tests.{all_true}
use Rattle.pt_invariant.proofs.items.Telling.{both_tell}

-- ---- a root that can be gone on with

-- what holds of all objects that are carried holds of each
of_each : (test : Carried → Bool) (f : Marked → List Carried) (ms : List Marked) (k : ℕ) {m : Marked} → slice_get ms k ≡ Some m
    → list_all test (flat_map f ms) ≡ true → list_all test (f m) ≡ true
of_each test f [] k is all = absurd (cc)
of_each test f (x ∷ ms) zero {m} is all =
    let same : x ≡ m = cc in
    ap (λ (y : Marked). list_all test (f y)) (sym same) ∙ (and_parts (list_all test (f x)) (list_all test (flat_map f ms))
    (sym (list_all-append test (f x) (flat_map f ms)) ∙ all)).0
of_each test f (x ∷ ms) (suc k) is all = of_each test f ms k is (and_parts (list_all test (f x)) (list_all test (flat_map f ms))
    (sym (list_all-append test (f x) (flat_map f ms)) ∙ all)).1

module _ (job : Job) (source : Forest) (root : Tree) where
  way_of : {object : Carried} → IsCarriedOf job source root object → list_all (is_way_free job root) (all_carried job source root) ≡ true
      → is_way_free job root object ≡ true
  way_of {object} (k, (m, is, gives)) all =
      (and_parts (is_way_free job root object) true
      (sym (ap (list_all (is_way_free job root)) gives) ∙ of_each (is_way_free job root) (λ (m : Marked). carried_by job m.1 m.0.verdict)
      (marked job source root) k is all)).0

  -- where there is none, nothing is in the way
  free_way : (object : Carried) → IsFree root [] → is_way_free job root object ≡ true
  free_way object free = all_true (λ folder. is_folder_or_free (root folder)) (λ folder. ap is_folder_or_free (free folder))
      (folders_above (place_of_carried job object))

  never_bad : root [] ≡ Some Folder ⊎ IsFree root [] → IsFree root [] ⊎ IsUsable job source root → IsBadTarget job root (IsCarriedOf job source root) → ⊥
  never_bad _ (inl free) (IsNoFolder else_there) = true≢false (sym (ap is_folder_or_free (free [])) ∙ else_there)
  never_bad top (inl free) (HasOtherFile number file there is other) = absurd (let nothing = sym (free []) ∙ there in cc)
  never_bad _ (inl free) (IsBarred object _ barred) = true≢false (sym (free_way object free) ∙ barred)
  never_bad (inl folder) (inr _) (IsNoFolder else_there) = true≢false (sym (ap is_folder_or_free folder) ∙ else_there)
  never_bad (inr free) (inr _) (IsNoFolder else_there) = true≢false (sym (ap is_folder_or_free (free [])) ∙ else_there)
  never_bad _ (inr usable) (HasOtherFile number _ _ is other) = other (all_at (λ (f : File). root f.0 ≡ Some (Bytes f.1)) (root_files_of job.tuples) number
      usable.files is)
  never_bad _ (inr usable) (IsBarred _ carried barred) = true≢false (sym (way_of carried usable.ways) ∙ barred)

-- what stands at the top of a root that holds files is a folder
top_of : {job : Job} {source : Forest} {t : Tree} → IsTree t → IsFree (root_in t) [] ⊎ IsUsable job source (root_in t)
    → root_in t [] ≡ Some Folder ⊎ IsFree (root_in t) []
top_of _ (inl free) = inr free
top_of {job} {t} tree (inr usable) = inl (root_stands job t tree usable.files)

-- ---- the law

tree_of : (job : Job) (start : Start) (states : DeviceStates) (run : Run) {t : Tree} → RunInvariant job start states run → start.dest ≡ Some t → IsTree t
unfolding RunInvariant
tree_of job start states run (past, is) some = (both_tell (DestPart job past run.phase run.kept.held) start.dest states.dest some is.dest).2.started

pub nothing_is_refused : NothingIsRefused
nothing_is_refused _ _ _ _ _ _ fault.Memory _ _ _ _ _ _ _ _ _ = refl
nothing_is_refused _ _ _ _ _ _ fault.Source _ _ _ turn _ _ _ _ rose = elim (halts_for turn) [
  | inl refused ↦ absurd (false≢true refused)
  | inr failed ↦ absurd (rose.source failed.0)
]
nothing_is_refused _ _ _ _ _ _ fault.Dest _ _ _ turn _ _ _ _ rose = elim (halts_for turn) [
  | inl refused ↦ absurd (false≢true refused)
  | inr failed ↦ absurd (rose.dest failed.1)
]
nothing_is_refused _ _ _ _ _ _ fault.Log _ _ _ turn _ _ _ _ rose = elim (halts_for turn) [
  | inl refused ↦ absurd (false≢true refused)
  | inr failed ↦ absurd (rose.log failed.2)
]
nothing_is_refused job start old new run after fault.NotPairtree s _ begun turn told _ good _ _ =
    absurd (true≢false (sym good.store ∙ refuses_rightly job start old new run after fault.NotPairtree s begun turn told))
nothing_is_refused job start old new run after fault.Prefix s _ begun turn told _ good _ _ =
    absurd (true≢false (sym good.prefix ∙ (refuses_rightly job start old new run after fault.Prefix s begun turn told).1))
nothing_is_refused job start old new run after fault.StagingLeft _ t begun turn _ some _ free _ =
    absurd (true≢false (sym (finds_staging job start old new run after t begun turn some) ∙ ap is_some (free [])))
nothing_is_refused job start old new run after fault.Target s t begun turn told some good _ _ =
    absurd
    (never_bad job s.tree (root_in t) (top_of (tree_of job start old run begun some) good.target) good.target
    (finds_target_of job start old new run after s t begun turn told some).1)
nothing_is_refused job start old new run after fault.Changed s _ begun turn told _ _ _ _ = absurd
    (refuses_rightly job start old new run after fault.Changed s begun turn told)
nothing_is_refused _ _ _ _ _ _ _ _ _ _ turn _ _ _ _ _ = absurd (of_turn turn)
