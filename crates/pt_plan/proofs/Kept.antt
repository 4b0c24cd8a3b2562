-- The objects that are carried come to free places, each whole.
use Rattle.std.proofs.Common.{◌≡◌, ℕ, zero, suc, List, [], ◌∷◌, ◌++◌, true, refl, sym, ◌∙◌, ap, subst, map, inl, inr}
use Rattle.std.specs.Prelude.{◌⊎◌, Option, None, Some, is_none, slice_get}
use Rattle.std.specs.List.{list_all}
use Rattle.std.proofs.lemmas.Bool.{and_from, and_parts}
use Rattle.std.proofs.lemmas.List.Folds.{list_all-append}
use Rattle.pt_object.proofs.ObjectScripts.{in_order_apart}
use Rattle.pt_object.specs.FilePaths.{are_apart, paths_of, row_paths}
use Rattle.pt_tree.specs.PathOrder.{is_logical, part_in_order}
use Rattle.pt_object.specs.Object.{stored_path}
use Rattle.pt_object.specs.Root.{base}
use Rattle.pt_object.specs.declared.rows.Row.{Row}
use Rattle.pt_tree.specs.Forest.{Forest, is_proper}
use Rattle.pt_tree.specs.Path.{Path}
use Rattle.pt_tree.specs.Tree.{Tree}
use Rattle.pt_plan.specs.Carried.{Carried, Marked, carried, carried_among, carried_by, marked, with_objects}
use Rattle.pt_plan.specs.Faults.{AsItWas, Between, Carrying, IsCarriedAs, FaultStateOfFree, MakingRoot}
use Rattle.pt_plan.specs.FileLaws.{comes_in_order}
use Rattle.pt_plan.specs.Fixity.{Holding, DestFaultState, Making, come_to_free_places, is_place_free, is_whole}
use Rattle.pt_plan.specs.Fixity as kept
use Rattle.pt_plan.specs.FixityLaws.{FaultsLeaveWhatIsKept, RowsMakeWholeObjects}
use Rattle.pt_plan.specs.GrowthLaws.{HasNoGaps}
use Rattle.pt_plan.specs.Job.{Job}
use Rattle.pt_plan.specs.Roots.{root_in}
use Rattle.pt_plan.proofs.CarriedFiles.{carried_files_come_in_order}
use Rattle.pt_plan.proofs.Growing.{append_nil, carried_grows, none_more, one_or_none}
use Rattle.pt_plan.proofs.LaterRoots.{no_folders, without_folders}
use Rattle.pt_plan.proofs.NextObject.{place_is_free}
use Rattle.pt_plan.proofs.WithObjects.{in_two_lots}

-- one object more, which is whole and comes to a free place
pub one_comes : (job : Job) (objects : List Carried) (object : Carried) (t : Tree) → come_to_free_places job t objects ≡ true → is_whole object ≡ true
    → is_place_free job (with_objects job objects t) object ≡ true
    → come_to_free_places job t (objects ++ object ∷ []) ≡ true
one_comes job [] object t _ whole free =
    and_from _ _ whole
    (and_from _ true (rw (← none) free) refl)
  where
    none : with_objects job [] t ≡ t
    none = without_folders t
one_comes job (first ∷ objects) object t come whole free =
    let parts = and_parts _ _ come in
    let more = and_parts _ _ parts.1 in
    and_from _ _ parts.0
    (and_from _ _ more.0
    (one_comes job objects object _ more.1 whole (subst (λ (u : Tree). is_place_free job u object ≡ true) (sym both) free)))
  where
    both : with_objects job objects (with_objects job (first ∷ []) t) ≡ with_objects job (first ∷ objects) t
    both = ap (with_objects job objects) (sym (without_folders (with_objects job (first ∷ []) t)))
        ∙ in_two_lots job (first ∷ []) objects [] t (no_folders job objects)

-- the object that is carried next is whole
next_whole : (job : Job) (source : Forest) (root : Tree) (k : ℕ) (object : Carried) → is_proper source ≡ true
    → carried_among job source root (suc k) ≡ carried_among job source root k ++ object ∷ [] → is_whole object ≡ true
next_whole job source root k object proper more =
    let in_order = λ (c : Carried). comes_in_order c.files in
    let all : list_all in_order (carried_among job source root k ++ object ∷ []) ≡ true =
    rw more at (carried_files_come_in_order job source root (suc k) proper) in
    let parts = and_parts (list_all in_order (carried_among job source root k)) (list_all in_order (object ∷ []))
    (sym (list_all-append in_order (carried_among job source root k) (object ∷ [])) ∙ all) in
    let last = and_parts (comes_in_order object.files) true parts.1 in
    in_order_apart (paths_of object.files) (and_parts (part_in_order (paths_of object.files)) (list_all is_logical (paths_of object.files)) last.0).0

-- the next object comes to a free place
next_comes : (job : Job) (source : Forest) {root : Tree} (k : ℕ) {object : Carried} → is_proper source ≡ true → HasNoGaps root
    → IsCarriedAs job source root k object
    → come_to_free_places job (base job.tuples root) (carried_among job source root k) ≡ true
    → come_to_free_places job (base job.tuples root) (carried_among job source root k ++ object ∷ []) ≡ true
next_comes job source {root} k {object} proper gaps (m, at, is) come =
    one_comes job (carried_among job source root k) object (base job.tuples root) come
    (next_whole job source root k object proper (carried_grows job source root k m at ∙ ap (λ (l : List Carried). carried_among job source root k ++ l) is))
    (ap is_none (place_is_free job source k gaps (m, at, is)))

-- so all do
all_come : (job : Job) (source : Forest) {root : Tree} (k : ℕ) → is_proper source ≡ true → HasNoGaps root
    → come_to_free_places job (base job.tuples root) (carried_among job source root k) ≡ true
all_come _ _ zero _ _ = refl
all_come job source {root} (suc k) proper gaps = by (slice_get (marked job source root) k) refl (all_come job source k proper gaps)
  where
    by : (o : Option Marked) → slice_get (marked job source root) k ≡ o → come_to_free_places job (base job.tuples root) (carried_among job source root k)
        ≡ true
        → come_to_free_places job (base job.tuples root) (carried_among job source root (suc k)) ≡ true
    by None at come = ap (λ (l : List Marked). come_to_free_places job (base job.tuples root) (carried job l)) (none_more _ k at) ∙ come
    by (Some m) at come = either (one_or_none job m.1 m.0.verdict)
      where
        grown : (l : List Carried) → carried_by job m.1 m.0.verdict ≡ l → carried_among job source root (suc k) ≡ carried_among job source root k ++ l
        grown l is = carried_grows job source root k m at ∙ ap (λ (l : List Carried). carried_among job source root k ++ l) is

        either : (carried_by job m.1 m.0.verdict ≡ []) ⊎ ((object : Carried) × (carried_by job m.1 m.0.verdict ≡ object ∷ []))
            → come_to_free_places job (base job.tuples root) (carried_among job source root (suc k)) ≡ true
        either (inl none) = ap (come_to_free_places job (base job.tuples root)) (grown [] none ∙ append_nil (carried_among job source root k)) ∙ come
        either (inr (object, is)) = ap (come_to_free_places job (base job.tuples root)) (grown (object ∷ []) is)
            ∙ next_comes job source k proper gaps (m, at, is) come

kept_left : {job : Job} {source : Forest} {start now : Tree} {log : List ℕ} → is_proper source ≡ true → HasNoGaps (root_in start)
    → FaultStateOfFree job source start now log → DestFaultState job start now
kept_left _ _ AsItWas = kept.AsItWas
kept_left _ _ (MakingRoot now free at) = kept.MakingRoot now free at
kept_left {job} {source} {start} proper gaps (Between k _ _ _) = Holding (carried_among job source (root_in start) k) (all_come job source k proper gaps)
kept_left {job} {source} {start} proper gaps (Carrying k tuples object now _ is _ at) =
    Making (carried_among job source (root_in start) k) object tuples now (next_comes job source k proper gaps is (all_come job source k proper gaps)) (inl at)

pub faults_leave_what_is_kept : FaultsLeaveWhatIsKept
faults_leave_what_is_kept job _ start _ _ _ _ (inl same) = rw same.0 kept.AsItWas
faults_leave_what_is_kept _ _ _ _ _ proper gaps (inr left) = kept_left proper gaps left.1

paths_of_rows : (all rows : List Row) (held : Path → List ℕ) → paths_of (map (λ (row : Row). (row.path, held (stored_path all row))) rows) ≡ row_paths rows
paths_of_rows _ [] _ = refl
paths_of_rows all (row ∷ rows) held = ap (λ (paths : List Path). row.path ∷ paths) (paths_of_rows all rows held)

pub rows_make_whole_objects : RowsMakeWholeObjects
rows_make_whole_objects _ rows held apart = ap are_apart (paths_of_rows rows rows held) ∙ apart
