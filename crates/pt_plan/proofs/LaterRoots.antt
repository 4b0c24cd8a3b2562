-- A root that a fault leaves is usable, and a run over it ends as one over the first.
use Rattle.std.proofs.Common.{◌≡◌, ℕ, zero, suc, List, [], ◌∷◌, ◌++◌, Bool, true, false, refl, sym, ◌∙◌, ap, arith, drop, take, inl, inr}
use Rattle.std.specs.Prelude.{◌||◌, All, Option, None, Some, is_some, slice_get}
use Rattle.std.specs.List.{list_all}
use Rattle.std.specs.Option.{option_or}
use Rattle.std.proofs.lemmas.Bool.{and_from, and_parts, false≢true, false_from_ne_true}
use Rattle.std.proofs.lemmas.List.Elements.{All-weaker}
use Rattle.std.proofs.lemmas.List.Folds.{list_all-append}
use Rattle.pt_name.specs.Place.{place_of}
use Rattle.pt_name.specs.Tuples.{Tuples}
use Rattle.pt_object.specs.FilePaths.{File}
use Rattle.pt_object.specs.Object.{rows_of, bytes_in, stored_files}
use Rattle.pt_object.specs.Inventory.{inventory_text}
use Rattle.pt_object.specs.Root.{base, base_where, root_of}
use Rattle.pt_object.specs.RootFiles.{root_files_of}
use Rattle.pt_object.specs.Scripts.{object_items, root_items}
use Rattle.pt_tree.specs.Forest.{Forest}
use Rattle.pt_tree.specs.Path.{Path}
use Rattle.pt_tree.specs.Tree.{Bytes, Entry, Tree}
use Rattle.pt_plan.specs.Carried.{
  Carried,
  after,
  all_carried,
  carried,
  carried_among,
  entry_of_objects,
  folder_where,
  is_folder_or_free,
  is_on_the_way,
  is_way_free,
  marked,
  with_objects,
}
use Rattle.pt_plan.specs.Faults.{AsItWas, Between, Carrying, IsCarriedAs, FaultStateOfFree, MakingRoot, on_the_way_to}
use Rattle.pt_plan.specs.Items.{items}
use Rattle.pt_plan.specs.Job.{Job}
use Rattle.pt_plan.specs.PlaceLaws.{IsRooted}
use Rattle.pt_plan.specs.RerunLaws.{EndsAlike, IsTarget, RerunEndsAlike}
use Rattle.pt_plan.specs.Roots.{root_in, tuple_folders, with_folders}
use Rattle.pt_plan.proofs.Folders.{each_one, is_above, is_one, one_of_first}
use Rattle.pt_plan.proofs.PlaceShapes.{new_root_ways}
use Rattle.pt_plan.proofs.Rerun.{HoldsItems, carried_again, carried_in_two, left_after}
use Rattle.pt_plan.proofs.StagingKeeps.{root_at_prefix}
use Rattle.pt_plan.proofs.TakenPlaces.{place_stands_where_taken}
use Rattle.pt_plan.proofs.WithObjects.{AreFoldersTo, base_stays, base_top, in_two_lots, none_of_objects, short_as, stands_with_folders}

-- ---- the base

pub new_root_files : (tuples : Tuples) → All (λ (file : File). root_of tuples file.0 ≡ Some (Bytes file.1)) (root_files_of tuples)
new_root_files _ zero _ _ = refl
new_root_files _ (suc zero) _ _ = refl
new_root_files _ (suc (suc zero)) _ _ = refl
new_root_files tuples (suc (suc (suc k))) d h = absurd (omega arith)

all_ways : (job : Job) (objects : List Carried) → list_all (is_way_free job (root_of job.tuples)) objects ≡ true
all_ways _ [] = refl
all_ways job (object ∷ objects) = and_from _ _ (new_root_ways job object) (all_ways job objects)

-- the base of a target has the root's files, and the ways to what is carried are free
record IsReady (job : Job) (objects : List Carried) (root : Tree) : Type 0 where
  files : All (λ (file : File). root file.0 ≡ Some (Bytes file.1)) (root_files_of job.tuples)
  ways : list_all (is_way_free job root) objects ≡ true

base_ready : {job : Job} {source : Forest} {root : Tree} → IsTarget job source root → IsReady job (all_carried job source root) (base job.tuples root)
base_ready {job} {source} {root} target = by (root []) refl target
  where
    by : (o : Option Entry) → root [] ≡ o → IsTarget job source root → IsReady job (all_carried job source root) (base_where job.tuples root o)
    by None e target = record { files = new_root_files job.tuples; ways = all_ways job (all_carried job source root) }
    by (Some entry) e (inl free) = let none : None ≡ Some entry = sym (free []) ∙ e in absurd (cc)
    by (Some entry) e (inr usable) = record { files = usable.files; ways = usable.ways }

-- ---- a later root

-- what stands in the base stands in it
stays_later : (job : Job) (objects : List Carried) (folders : List Path) (t : Tree) {path : Path} {entry : Entry} → t path ≡ Some entry
    → with_folders folders (with_objects job objects t) path ≡ Some entry
stays_later job objects folders _ {path} e =
    ap (λ o. option_or (option_or o (option_or (entry_of_objects job objects path) (folder_where (is_on_the_way job objects path))))
    (folder_where (is_one path folders))) e

top_later : (job : Job) (objects : List Carried) (folders : List Path) (t : Tree) → is_some (t []) ≡ true
    → is_some (with_folders folders (with_objects job objects t) []) ≡ true
top_later job objects folders t h = by (t []) refl h
  where
    by : (o : Option Entry) → t [] ≡ o → is_some o ≡ true → is_some (with_folders folders (with_objects job objects t) []) ≡ true
    by None e h = absurd (false≢true h)
    by (Some entry) e h = ap is_some (stays_later job objects folders t e)

-- no place is one of the folders
no_place : (job : Job) (objects : List Carried) (folders : List Path) → AreFoldersTo job objects folders → (id : List ℕ)
    → is_one (place_of job.tuples id) folders ≡ false
no_place job objects folders to id = false_from_ne_true (is_one (place_of job.tuples id) folders)
    (λ h. let short = (to (place_of job.tuples id) h).0 id in omega (arith, short))

holds_items : (job : Job) (source : Forest) {root : Tree} (k : ℕ) (folders : List Path) → IsRooted root
    → AreFoldersTo job (left_after job source root k) folders
    → HoldsItems job root (with_folders folders (after job source root k)) (take k (items job source))
holds_items job source {root} k folders rooted to id reserved =
    ap is_some (stands_with_folders folders (after job source root k) (no_place job _ folders to id))
    ∙ place_stands_where_taken job source root k id rooted reserved

-- a way that was free stays free
way_stays : (job : Job) (objects : List Carried) (folders : List Path) (t : Tree) (object : Carried) → is_way_free job t object ≡ true
    → is_way_free job (with_folders folders (with_objects job objects t)) object ≡ true
way_stays job objects folders t object free =
    each_one _ at free
  where
    at : (q : Path) → is_one q (tuple_folders job object) ≡ true → is_folder_or_free (t q) ≡ true
        → is_folder_or_free (with_folders folders (with_objects job objects t) q) ≡ true
    at q one h =
        let above = is_above q _ one in
        let none : entry_of_objects job objects q ≡ None = none_of_objects job q objects (short_as job object.id q above.short) in
        ap (λ (o : Option Entry). is_folder_or_free (option_or (option_or (t q) (option_or o (folder_where (is_on_the_way job objects q))))
        (folder_where (is_one q folders)))) none
        ∙ by (t q) (is_on_the_way job objects q) (is_one q folders) h
      where
        by : (o : Option Entry) (s u : Bool) → is_folder_or_free o ≡ true → is_folder_or_free (option_or (option_or o (folder_where s)) (folder_where u)) ≡ true
        by (Some entry) s u h = h
        by None true u h = refl
        by None false true h = refl
        by None false false h = refl

ways_stay : (job : Job) (objects : List Carried) (folders : List Path) (t : Tree) (carried : List Carried) → list_all (is_way_free job t) carried ≡ true
    → list_all (is_way_free job (with_folders folders (with_objects job objects t))) carried ≡ true
ways_stay _ _ _ _ [] _ = refl
ways_stay job objects folders t (object ∷ others) h =
    let parts = and_parts _ _ h in
    and_from _ _
    (way_stays job objects folders t object parts.0) (ways_stay job objects folders t others parts.1)

ends_later : {job : Job} {source : Forest} {root : Tree} (k : ℕ) (folders : List Path) → IsRooted root → IsTarget job source root
    → AreFoldersTo job (left_after job source root k) folders
    → EndsAlike job source root (with_folders folders (after job source root k))
ends_later {job} {source} {root} k folders rooted target to =
    let first = carried_among job source root k in
    let rest = left_after job source root k in
    let start = base job.tuples root in
    let later = with_folders folders (after job source root k) in
    let stands : is_some (later []) ≡ true = top_later job first folders start (base_top job root) in
    let again : all_carried job source later ≡ rest = carried_again job source root later k (holds_items job source k folders rooted to) in
    let ready = base_ready target in
    let split : list_all (is_way_free job start) (first ++ rest) ≡ true = rw (carried_in_two job source root k) at ready.ways in
    let parts = and_parts _ _ (sym (list_all-append (is_way_free job start) first rest) ∙ split) in
    record {
      rooted = λ none. absurd (false≢true (sym (ap is_some none) ∙ stands));
      target = inr (record {
        files = All-weaker (λ (file : File). start file.0 ≡ Some (Bytes file.1)) (λ (file : File). later file.0 ≡ Some (Bytes file.1))
            (λ file e. stays_later job first folders start e) (root_files_of job.tuples) ready.files;
        ways = rw again (ways_stay job first folders start rest parts.1);
      });
      same =
          ap (λ (l : List Carried). with_objects job l (base job.tuples later)) again
          ∙ ap (with_objects job rest) (base_stays job later stands)
          ∙ in_two_lots job first rest folders start to
          ∙ ap (λ (l : List Carried). with_objects job l start) (sym (carried_in_two job source root k));
    }

-- ---- what a fault leaves

-- the rest of a list, from an element on
drop_at : {X : Type 0} → (xs : List X) (k : ℕ) {x : X} → slice_get xs k ≡ Some x → drop k xs ≡ x ∷ drop (suc k) xs
drop_at [] k h = absurd (cc)
drop_at (y ∷ xs) zero {x} h = let same : y ≡ x = cc in λ i. same i ∷ xs
drop_at (_ ∷ xs) (suc k) h = drop_at xs k h

-- the first tuple directories of the object that comes next
next_folders : (job : Job) (source : Forest) (root : Tree) (k tuples : ℕ) {object : Carried} → IsCarriedAs job source root k object
    → AreFoldersTo job (left_after job source root k) (take tuples (tuple_folders job object))
next_folders job source root k tuples {object} (_, at, is) path h =
    let above = is_above path _ (one_of_first path tuples _ h) in
    let next : left_after job source root k ≡ object ∷ carried job (drop (suc k) (marked job source root)) =
    ap (carried job) (drop_at (marked job source root) k at) ∙ ap (λ (l : List Carried). l ++ carried job (drop (suc k) (marked job source root))) is in (
      short_as job object.id path above.short,
      ap (λ (l : List Carried). is_on_the_way job l path) next
          ∙ ap (λ b. b || is_on_the_way job (carried job (drop (suc k) (marked job source root))) path) above.on,
    )

pub no_folders : (job : Job) (objects : List Carried) → AreFoldersTo job objects []
no_folders _ _ _ h = absurd (false≢true h)

pub without_folders : (t : Tree) → with_folders [] t ≡ t
without_folders t i path = stands_with_folders [] t {path = path} refl i

-- a root that isn't changed
ends_same : {job : Job} {source : Forest} {root : Tree} → IsRooted root → IsTarget job source root → EndsAlike job source root root
ends_same rooted target = record { rooted = rooted; target = target; same = refl }

along : {job : Job} {source : Forest} {root later now : Tree} → now ≡ later → EndsAlike job source root later → EndsAlike job source root now
along {job} {source} {root} same ends = rw same ends

ends_left : {job : Job} {source : Forest} {start now : Tree} {log : List ℕ} → IsRooted (root_in start) → IsTarget job source (root_in start)
    → FaultStateOfFree job source start now log → EndsAlike job source (root_in start) (root_in now)
ends_left rooted target AsItWas = ends_same rooted target
ends_left {job} rooted target (MakingRoot _ _ at) =
    along (root_at_prefix (root_items job.tuples) at) (ends_same rooted target)
ends_left {job} {source} {start} rooted target (Between k _ _ _) =
    along (sym (without_folders (after job source (root_in start) k)))
    (ends_later k [] rooted target (no_folders job (left_after job source (root_in start) k)))
ends_left {job} {source} {start} rooted target (Carrying k tuples object _ _ is _ at) =
    let rows = rows_of job.algorithm object.files in
    let made = object_items job.algorithm (inventory_text object.id rows job.meta job.algorithm) (stored_files rows (bytes_in object.files)) in
    let later = on_the_way_to job source (root_in start) k object tuples in
    along (root_at_prefix made at)
    (ends_later k (take tuples (tuple_folders job object)) rooted target (next_folders job source (root_in start) k tuples is))

pub rerun_ends_alike : RerunEndsAlike
rerun_ends_alike _ _ _ _ _ rooted target (inl same) = along (ap root_in same.0) (ends_same rooted target)
rerun_ends_alike _ _ _ _ _ rooted target (inr left) = ends_left rooted target left.1
