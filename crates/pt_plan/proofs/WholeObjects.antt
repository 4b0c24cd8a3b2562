-- Each object that is carried stands whole at its place, and stays so.
use Rattle.std.proofs.Common.{◌≡◌, ℕ, zero, suc, ◌+◌, List, [], ◌∷◌, ◌++◌, Bool, true, length, refl, sym, ◌∙◌, ap, subst, arith, inl, inr, length-append}
use Rattle.std.specs.Prelude.{All, Option, None, Some, slice_get, slice_index_or}
use Rattle.std.specs.List.{list_all}
use Rattle.std.proofs.lemmas.Bool.{and_parts, false_from_ne_true}
use Rattle.std.proofs.lemmas.List.Elements.{All-append, All-cons, All-nil, All-weaker}
use Rattle.pt_object.proofs.VersionStates.{state_is_the_files}
use Rattle.pt_object.proofs.Ways.{leads}
use Rattle.pt_object.specs.Holding.{placed_at}
use Rattle.pt_object.specs.Object.{object_of}
use Rattle.pt_object.specs.Root.{base}
use Rattle.pt_tree.specs.Forest.{Forest}
use Rattle.pt_tree.specs.Path.{Path}
use Rattle.pt_tree.specs.Tree.{Folder, Tree}
use Rattle.pt_tree.proofs.Below.{rest_of}
use Rattle.pt_plan.specs.Carried.{Carried, Marked, after, after_all, all_carried, carried, carried_among, marked, place_of_carried, with_objects}
use Rattle.pt_plan.specs.Faults.{IsCarriedAs}
use Rattle.pt_plan.specs.FileLaws.{comes_in_order}
use Rattle.pt_plan.specs.GrowthLaws.{HasNoGaps}
use Rattle.pt_plan.specs.Items.{items}
use Rattle.pt_plan.specs.Job.{Job}
use Rattle.pt_plan.specs.Roots.{root_in, storage_root, tuple_folders, with_folders, with_root}
use Rattle.pt_plan.specs.WholeLaws.{CarriedHaveTheirFiles, CarriedStandWhole, HasItsFiles, StandsWhole}
use Rattle.pt_plan.proofs.CarriedFiles.{carried_files_come_in_order}
use Rattle.pt_plan.proofs.Folders.{is_above, is_one}
use Rattle.pt_plan.proofs.Growing.{all_items_are_all, append_nil, carried_grows, none_more, one_or_none}
use Rattle.pt_plan.proofs.Levels.{one_way}
use Rattle.pt_plan.proofs.MovedIn.{roots_have_no_gaps}
use Rattle.pt_plan.proofs.NextObject.{after_grows, after_stays, below_itself, place_is_free}
use Rattle.pt_plan.proofs.PlaceShapes.{as_long}
use Rattle.pt_plan.proofs.WithObjects.{no_rest, stands_with_folders, top_of_object}

-- ---- one object more

module _ (job : Job) (source : Forest) (root : Tree) (k : ℕ) (next : Carried) (gaps : HasNoGaps root) (is : IsCarriedAs job source root k next) where
  abbrev before : Tree
  before = after job source root k

  abbrev there : Path
  there = place_of_carried job next

  abbrev inside : Tree
  inside = object_of next.id next.files job.meta job.algorithm

  -- it stands whole
  new_whole : StandsWhole job (after job source root (suc k)) next
  new_whole q =
      ap (λ (t : Tree). t (there ++ q)) (after_grows job source root k next gaps is)
      ∙ ap (λ (o : Option Path). placed_at inside o (with_folders (tuple_folders job next) before (there ++ q))) (rest_of there q)

  -- and what stood whole does
  stays_whole : (object : Carried) → StandsWhole job before object → StandsWhole job (after job source root (suc k)) object
  stays_whole object stands q =
      ap (λ (t : Tree). t path) (after_grows job source root k next gaps is)
      ∙ ap (λ (o : Option Path). placed_at inside o (with_folders (tuple_folders job next) before path))
      (no_rest there path (false_from_ne_true (leads there path) apart))
      ∙ stands_with_folders _ before (false_from_ne_true (is_one path (tuple_folders job next)) long)
      ∙ stands q
    where
      here : Path
      here = place_of_carried job object

      path : Path
      path = place_of_carried job object ++ q

      level : length there ≡ length (place_of_carried job object)
      level = as_long job.tuples next.id object.id

      stood : before (place_of_carried job object) ≡ Some Folder
      stood = ap before (sym (append_nil (place_of_carried job object))) ∙ stands [] ∙ top_of_object job object

      apart : leads there (place_of_carried job object ++ q) ≡ true → ⊥
      apart on =
          let same : there ≡ place_of_carried job object = one_way there _ _ level on (below_itself (place_of_carried job object) q) in
          let no : None ≡ Some Folder = sym (place_is_free job source k gaps is) ∙ ap before same ∙ stood in
          absurd (cc)

      long : is_one (place_of_carried job object ++ q) (tuple_folders job next) ≡ true → ⊥
      long one =
          let above = is_above _ there one in
          let short = above.short in
          let more : length (place_of_carried job object ++ q) ≡ length (place_of_carried job object) + length q = length-append (place_of_carried job object) q
          in
          let same_long = level in
          omega (arith, short, more, same_long)

-- ---- item by item

abbrev AllWhole : Job → Forest → Tree → ℕ → Type 0
AllWhole job source root k = All (StandsWhole job (after job source root k)) (carried_among job source root k)

-- with one item more
one_item_more : (job : Job) (source : Forest) {root : Tree} (k : ℕ) → HasNoGaps root → AllWhole job source root k → (o : Option Marked)
    → slice_get (marked job source root) k ≡ o → AllWhole job source root (suc k)
one_item_more job source {root} k _ earlier None e =
    subst (λ (l : List Marked). All (StandsWhole job (with_objects job (carried job l) (base job.tuples root))) (carried job l)) (sym (none_more _ k e)) earlier
one_item_more job source {root} k gaps earlier (Some m) e = elim (one_or_none job m.1 m.0.verdict) [
  | inl none ↦ (let same = after_stays job source root k m e none in
      let objects : carried_among job source root (suc k) ≡ carried_among job source root k = carried_grows job source root k m e
      ∙ ap (λ (l : List Carried). carried_among job source root k ++ l) none ∙ append_nil (carried_among job source root k) in
      subst (λ (t : Tree). All (StandsWhole job t) (carried_among job source root (suc k))) (sym same)
      (subst (λ (l : List Carried). All (StandsWhole job (after job source root k)) l) (sym objects) earlier))
  | inr one ↦ (let is : IsCarriedAs job source root k one.0 = (m, e, one.1) in
      let objects : carried_among job source root (suc k) ≡ carried_among job source root k ++ one.0 ∷ [] = carried_grows job source root k m e
      ∙ ap (λ (l : List Carried). carried_among job source root k ++ l) one.1 in
      subst (λ (l : List Carried). All (StandsWhole job (after job source root (suc k))) l) (sym objects)
      (All-append (StandsWhole job (after job source root (suc k))) (carried_among job source root k) (one.0 ∷ [])
      (All-weaker (StandsWhole job (after job source root k)) (StandsWhole job (after job source root (suc k)))
      (λ object stands. stays_whole job source root k one.0 gaps is object stands) (carried_among job source root k) earlier)
      (All-cons (StandsWhole job (after job source root (suc k))) one.0 [] (new_whole job source root k one.0 gaps is)
      (All-nil (StandsWhole job (after job source root (suc k)))))))
]

pub carried_stand_whole : CarriedStandWhole
carried_stand_whole job source root zero _ = All-nil (StandsWhole job (after job source root zero))
carried_stand_whole job source root (suc k) gaps = one_item_more job source k gaps (carried_stand_whole job source root k gaps) _ refl

-- ---- the versions

each_passes : {X : Type 0} → (p : X → Bool) (xs : List X) → list_all p xs ≡ true → All (λ x. p x ≡ true) xs
each_passes p [] _ = All-nil (λ x. p x ≡ true)
each_passes p (x ∷ xs) h =
    let parts = and_parts (p x) _ h in
    All-cons (λ y. p y ≡ true) x xs parts.0 (each_passes p xs parts.1)

abbrev in_order : Carried → Bool
in_order object = comes_in_order object.files

pub carried_have_their_files : CarriedHaveTheirFiles
carried_have_their_files job source start proper tree = by
  where
    all_are : (carried_among job source (root_in start) (length (items job source)) ≡ all_carried job source (root_in start))
        × (after job source (root_in start) (length (items job source)) ≡ after_all job source (root_in start))
    all_are = let all = all_items_are_all job source (root_in start) (length (items job source)) (omega arith) in (all.0, all.1)

    whole : All (StandsWhole job (after_all job source (root_in start))) (all_carried job source (root_in start))
    whole =
        subst (λ (t : Tree). All (StandsWhole job t) (all_carried job source (root_in start))) (all_are).1
        (subst (λ (l : List Carried). All (StandsWhole job (after job source (root_in start) (length (items job source)))) l) (all_are).0
        (carried_stand_whole job source (root_in start) (length (items job source)) (roots_have_no_gaps start tree).0))

    ordered : All (λ object. in_order object ≡ true) (all_carried job source (root_in start))
    ordered =
        each_passes in_order _
        (subst (λ (l : List Carried). list_all in_order l ≡ true) (all_are).0
        (carried_files_come_in_order job source (root_in start) (length (items job source)) proper))

    its_files : (object : Carried) → StandsWhole job (after_all job source (root_in start)) object → in_order object ≡ true
        → HasItsFiles job (with_root start (after_all job source (root_in start))) object
    its_files object stands order apart =
        let parts = and_parts _ _ order in
        state_is_the_files object.id object.files job.meta job.algorithm (with_root start (after_all job source (root_in start)))
        (storage_root ++ place_of_carried job object) parts.0 parts.1 apart stands

    by : All (HasItsFiles job (with_root start (after_all job source (root_in start)))) (all_carried job source (root_in start))
    by i other within = its_files (slice_index_or (all_carried job source (root_in start)) i other) (whole i other within) (ordered i other within)
