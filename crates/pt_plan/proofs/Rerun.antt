-- What is carried into a root that holds what the first items brought: the rest.
use Rattle.std.proofs.Common.{◌≡◌, ℕ, zero, suc, List, [], ◌∷◌, ◌++◌, Bool, true, false, refl, sym, ◌∙◌, ap, cond, drop, take, append_assoc, ◌&&◌}
use Rattle.std.specs.Prelude.{◌||◌, Option, None, Some, is_none, is_some}
use Rattle.std.specs.List.{list_all, list_any}
use Rattle.std.proofs.lemmas.Bool.{and_parts, false≢true, not-true, or_right}
use Rattle.std.proofs.lemmas.Grind.{flat_map-append}
use Rattle.std.proofs.lemmas.List.{take-append-drop}
use Rattle.std.proofs.lemmas.List.Folds.{list_any-append}
use Rattle.pt_name.specs.Place.{place_of}
use Rattle.pt_object.proofs.Ways.{path_itself}
use Rattle.pt_tree.specs.Forest.{Forest}
use Rattle.pt_tree.specs.Path.{Path, same_path}
use Rattle.pt_tree.specs.Tree.{Tree}
use Rattle.pt_walk.specs.Object.{entries, files}
use Rattle.pt_walk.specs.declared.cause.Cause.{Cause}
use Rattle.pt_plan.specs.Carried.{
  Carried,
  Marked,
  all_carried,
  carried,
  carried_among,
  carried_by,
  carried_by_outcome,
  has_place,
  is_taken,
  is_taken_place,
  marked,
  marked_after,
}
use Rattle.pt_plan.specs.Items.{Interior, Item, Named, PairtreeObject, Skip, Verdict, cause_of, is_reserved, items, outcome_by}
use Rattle.pt_plan.specs.Job.{Job}
use Rattle.pt_plan.proofs.CarriedFiles.{all_take}
use Rattle.pt_plan.proofs.Growing.{append_nil}
use Rattle.pt_plan.proofs.Reserved.{all_free, free, free_item}
use Rattle.pt_plan.proofs.TakenPlaces.{claims}

-- a root in which something stands at a place exactly where it is taken in another by these items
abbrev pub HoldsItems : Job → Tree → Tree → List Item → Type 0
HoldsItems job root later done = (id : List ℕ) → is_reserved job id ≡ false
    → is_some (later (place_of job.tuples id)) ≡ is_taken_place job root done (place_of job.tuples id)

-- ---- the items that it holds are taken

none_again : {taken : Bool} (id : List ℕ) (job : Job) (object : PairtreeObject) → (is_none (cause_of job.limits object) ≡ true → taken ≡ true)
    → carried_by job taken (Named id object) ≡ []
none_again {taken} id job object tells = by (cause_of job.limits object) taken tells
  where
    by : (why : Option Cause) (t : Bool) → (is_none why ≡ true → t ≡ true) → cond t [] (carried_by_outcome id (outcome_by (files (entries object.inside)) why))
        ≡ []
    by (Some why) true tells = refl
    by (Some why) false tells = refl
    by None true tells = refl
    by None false tells = absurd (false≢true (tells refl))

-- the place of one of some items is claimed
claimed : (job : Job) (place : Path) (before : List Item) (item : Item) (others : List Item) → claims job place item ≡ true
    → list_any (claims job place) (before ++ item ∷ others) ≡ true
claimed job place before item others h =
    list_any-append (claims job place) before (item ∷ others) ∙ ap (λ b. list_any (claims job place) before || (b || list_any (claims job place) others)) h
    ∙ or_right _ true refl

done_again : (job : Job) (root later : Tree) {done : List Item} → HoldsItems job root later done
    → (before item_and_others earlier : List Item) → before ++ item_and_others ≡ done → list_all (free_item job) item_and_others ≡ true
    → carried job (marked_after job later earlier item_and_others) ≡ []
done_again _ _ _ _ _ [] _ _ _ = refl
done_again job root later {done} holds before (item ∷ others) earlier are open_places =
    let parts = and_parts _ _ open_places in
    ap (λ (l : List Carried). l ++ carried job (marked_after job later (earlier ++ item ∷ []) others)) (by item.verdict refl parts.0)
    ∙ done_again job root later holds (before ++ item ∷ []) others (earlier ++ item ∷ []) (append_assoc before (item ∷ []) others ∙ are) parts.1
  where
    by : (v : Verdict) → item.verdict ≡ v → free job v ≡ true → carried_by job (is_taken job later earlier v) v ≡ []
    by Interior is h = refl
    by (Skip why) is h = refl
    by (Named id object) is h = none_again id job object (λ clear. ap (λ b. b || list_any (claims job (place_of job.tuples id)) earlier) (stands clear))
      where
        mine : is_none (cause_of job.limits object) ≡ true → claims job (place_of job.tuples id) item ≡ true
        mine clear =
            ap (λ (v : Verdict). has_place job (place_of job.tuples id) v) is
            ∙ ap (λ b. b && same_path (place_of job.tuples id) (place_of job.tuples id)) clear
            ∙ path_itself (place_of job.tuples id)

        stands : is_none (cause_of job.limits object) ≡ true → is_some (later (place_of job.tuples id)) ≡ true
        stands clear =
            holds id (not-true (is_reserved job id) h)
            ∙ ap (λ (l : List Item). is_taken_place job root l (place_of job.tuples id)) (sym are)
            ∙ ap (λ b. is_some (root (place_of job.tuples id)) || b) (claimed job (place_of job.tuples id) before item others (mine clear))
            ∙ or_right _ true refl

-- ---- and the others are taken where they were

or_twice : (a b e : Bool) → ((a || b) || (b || e)) ≡ (a || (b || e))
or_twice true _ _ = refl
or_twice false true _ = refl
or_twice false false _ = refl

rest_alike : (job : Job) (root later : Tree) (done : List Item) → HoldsItems job root later done
    → (more others : List Item) → list_all (free_item job) others ≡ true
    → carried job (marked_after job later (done ++ more) others) ≡ carried job (marked_after job root (done ++ more) others)
rest_alike _ _ _ _ _ _ [] _ = refl
rest_alike job root later done holds more (item ∷ others) open_places =
    let parts = and_parts _ _ open_places in
    ap (λ (l : List Carried). l ++ carried job (marked_after job later ((done ++ more) ++ item ∷ []) others))
    (ap (λ b. carried_by job b item.verdict) (by item.verdict parts.0))
    ∙ ap (λ (l : List Carried). carried_by job (is_taken job root (done ++ more) item.verdict) item.verdict ++ l)
    (ap (λ (l : List Item). carried job (marked_after job later l others)) (append_assoc done more (item ∷ []))
    ∙ rest_alike job root later done holds (more ++ item ∷ []) others parts.1
    ∙ ap (λ (l : List Item). carried job (marked_after job root l others)) (sym (append_assoc done more (item ∷ []))))
  where
    by : (v : Verdict) → free job v ≡ true → is_taken job later (done ++ more) v ≡ is_taken job root (done ++ more) v
    by Interior h = refl
    by (Skip why) h = refl
    by (Named id object) h =
        let place = place_of job.tuples id in
        let both = list_any-append (claims job place) done more in
        ap (λ b. b || list_any (claims job place) (done ++ more)) (holds id (not-true (is_reserved job id) h))
        ∙ ap (λ b. (is_some (root place) || list_any (claims job place) done) || b) both
        ∙ or_twice (is_some (root place)) (list_any (claims job place) done) (list_any (claims job place) more)
        ∙ ap (λ b. is_some (root place) || b) (sym both)

-- ---- so what is carried is what was left

-- the marks of all items but the first ones
marks_left : (job : Job) (root : Tree) (earlier others : List Item) (k : ℕ)
    → drop k (marked_after job root earlier others) ≡ marked_after job root (earlier ++ take k others) (drop k others)
marks_left job root earlier others zero = ap (λ (l : List Item). marked_after job root l others) (sym (append_nil earlier))
marks_left _ _ _ [] (suc _) = refl
marks_left job root earlier (item ∷ others) (suc k) =
    marks_left job root (earlier ++ item ∷ []) others k ∙ ap (λ (l : List Item). marked_after job root l (drop k others))
    (append_assoc earlier (item ∷ []) (take k others))

-- the marks of two lots of items
marks_of_both : (job : Job) (root : Tree) (earlier first others : List Item)
    → marked_after job root earlier (first ++ others) ≡ marked_after job root earlier first ++ marked_after job root (earlier ++ first) others
marks_of_both job root earlier [] others = ap (λ (l : List Item). marked_after job root l others) (sym (append_nil earlier))
marks_of_both job root earlier (item ∷ first) others =
    ap (λ (l : List Marked). (item, is_taken job root earlier item.verdict) ∷ l)
    (marks_of_both job root (earlier ++ item ∷ []) first others ∙ ap (λ (l : List Item). marked_after job root (earlier ++ item ∷ []) first
    ++ marked_after job root l others) (append_assoc earlier (item ∷ []) first))

carried-append : (job : Job) (first later : List Marked) → carried job (first ++ later) ≡ carried job first ++ carried job later
carried-append job first later = flat_map-append (λ (m : Marked). carried_by job m.1 m.0.verdict) first later

-- what is carried behind the first items
abbrev pub left_after : Job → Forest → Tree → ℕ → List Carried
left_after job source root k = carried job (drop k (marked job source root))

pub carried_in_two : (job : Job) (source : Forest) (root : Tree) (k : ℕ)
    → all_carried job source root ≡ carried_among job source root k ++ left_after job source root k
carried_in_two job source root k =
    ap (carried job) (sym (take-append-drop k (marked job source root)))
    ∙ carried-append job (take k (marked job source root)) (drop k (marked job source root))

all_drop : {X : Type 0} → (p : X → Bool) (k : ℕ) (xs : List X) → list_all p xs ≡ true → list_all p (drop k xs) ≡ true
all_drop _ zero _ h = h
all_drop _ (suc _) [] _ = refl
all_drop p (suc k) (x ∷ xs) h = all_drop p k xs (and_parts (p x) _ h).1

pub carried_again : (job : Job) (source : Forest) (root later : Tree) (k : ℕ) → HoldsItems job root later (take k (items job source))
    → all_carried job source later ≡ left_after job source root k
carried_again job source root later k holds =
    let all = items job source in
    let open_places = all_free job source in
    ap (λ (l : List Item). carried job (marked_after job later [] l)) (sym (take-append-drop k all))
    ∙ ap (carried job) (marks_of_both job later [] (take k all) (drop k all))
    ∙ carried-append job (marked_after job later [] (take k all)) (marked_after job later (take k all) (drop k all))
    ∙ ap (λ (l : List Carried). l ++ carried job (marked_after job later (take k all) (drop k all)))
    (done_again job root later holds [] (take k all) [] refl (all_take (free_item job) k all open_places))
    ∙ ap (λ (l : List Item). carried job (marked_after job later l (drop k all))) (sym (append_nil (take k all)))
    ∙ rest_alike job root later (take k all) holds [] (drop k all) (all_drop (free_item job) k all open_places)
    ∙ ap (λ (l : List Item). carried job (marked_after job root l (drop k all))) (append_nil (take k all))
    ∙ ap (carried job) (sym (marks_left job root [] all k))
