-- Something stands at the place of an item exactly where the place is taken.
use Rattle.std.proofs.Common.{◌≡◌, ℕ, zero, suc, List, [], ◌∷◌, ◌++◌, Bool, true, false, refl, sym, ◌∙◌, ap, cond, take, append_assoc}
use Rattle.std.specs.Prelude.{◌||◌, ◌&&◌, Option, None, Some, is_none, is_some, slice_get}
use Rattle.std.specs.List.{list_any}
use Rattle.std.specs.Option.{option_and_then, option_map, option_or}
use Rattle.std.proofs.lemmas.Bool.{false≢true, or_right}
use Rattle.std.proofs.lemmas.List.Folds.{list_any-append}
use Rattle.pt_name.specs.Place.{place_of}
use Rattle.pt_object.proofs.Ways.{is_same, leads}
use Rattle.pt_object.specs.Object.{object_of}
use Rattle.pt_object.specs.Root.{base}
use Rattle.pt_tree.specs.Forest.{Forest}
use Rattle.pt_tree.specs.Path.{Path, rest_below, same_path}
use Rattle.pt_tree.specs.Tree.{Entry, Tree}
use Rattle.pt_walk.specs.Object.{entries, files}
use Rattle.pt_walk.specs.declared.cause.Cause.{Cause}
use Rattle.pt_plan.specs.Carried.{
  Carried,
  Marked,
  carried,
  carried_among,
  carried_by,
  carried_by_outcome,
  entry_of_object,
  entry_of_objects,
  folder_where,
  has_place,
  is_on_the_way,
  is_taken,
  is_taken_place,
  marked,
  marked_after,
  place_of_carried,
  with_objects,
}
use Rattle.pt_plan.specs.Items.{Item, Named, Verdict, cause_of, items, outcome_by}
use Rattle.pt_plan.specs.Job.{Job}
use Rattle.pt_plan.specs.PlaceLaws.{NextPlaceStandsWhereTaken, PlaceStandsWhereTaken}
use Rattle.pt_plan.proofs.Growing.{append_nil, taken_against_earlier}
use Rattle.pt_plan.proofs.Levels.{level, same_path-sym}
use Rattle.pt_plan.proofs.PlaceShapes.{as_long, base_at_place}
use Rattle.pt_plan.proofs.Reserved.{named_is_not_reserved}

pub or_false : (b : Bool) → (b || false) ≡ b
or_false true = refl
or_false false = refl

-- ---- what objects have at a place

-- the object has this place
abbrev pub has : Job → Path → Carried → Bool
has job place object = same_path place (place_of_carried job object)

-- it is on the way to objects exactly where one of them has it
pub way_at_place : (job : Job) (id : List ℕ) (objects : List Carried) → is_on_the_way job objects (place_of job.tuples id)
    ≡ list_any (has job (place_of job.tuples id)) objects
way_at_place _ _ [] = refl
way_at_place job id (object ∷ objects) =
    ap (λ b. b || is_on_the_way job objects (place_of job.tuples id)) (level (place_of job.tuples id) (place_of_carried job object)
    (as_long job.tuples id object.id))
    ∙ ap (λ b. has job (place_of job.tuples id) object || b) (way_at_place job id objects)

-- an object that has something at a path has its place there or above
pub below_object : (job : Job) (object : Carried) (path : Path) → is_some (entry_of_object job path object) ≡ true
    → leads (place_of_carried job object) path ≡ true
below_object job object path h = by (rest_below (place_of_carried job object) path) h
  where
    by : (o : Option Path) → is_some (option_and_then (object_of object.id object.files job.meta job.algorithm) o) ≡ true → is_some o ≡ true
    by None h = h
    by (Some rest) h = refl

-- so do objects
some_below : (job : Job) (id : List ℕ) (objects : List Carried) → is_some (entry_of_objects job objects (place_of job.tuples id)) ≡ true
    → list_any (has job (place_of job.tuples id)) objects ≡ true
some_below _ _ [] h = absurd (false≢true h)
some_below job id (object ∷ objects) h = by (entry_of_object job (place_of job.tuples id) object) refl (λ k. some_below job id objects k) h
  where
    here : is_some (entry_of_object job (place_of job.tuples id) object) ≡ true → has job (place_of job.tuples id) object ≡ true
    here is =
        same_path-sym (place_of job.tuples id) (place_of_carried job object)
        ∙ sym (level (place_of_carried job object) (place_of job.tuples id) (as_long job.tuples object.id id))
        ∙ below_object job object (place_of job.tuples id) is

    by : (o : Option Entry) → entry_of_object job (place_of job.tuples id) object ≡ o
        → (is_some (entry_of_objects job objects (place_of job.tuples id)) ≡ true → list_any (has job (place_of job.tuples id)) objects ≡ true)
        → is_some (option_or o (entry_of_objects job objects (place_of job.tuples id))) ≡ true
        → (has job (place_of job.tuples id) object || list_any (has job (place_of job.tuples id)) objects) ≡ true
    by (Some entry) is later h = ap (λ b. b || list_any (has job (place_of job.tuples id)) objects) (here (ap is_some is))
    by None is later h = or_right _ _ (later h)

-- at a place something stands with some objects exactly where it stood before, or one of them has the place
pub stands_with_objects : (job : Job) (id : List ℕ) (objects : List Carried) (t : Tree)
    → is_some (with_objects job objects t (place_of job.tuples id)) ≡ (is_some (t (place_of job.tuples id))
    || list_any (has job (place_of job.tuples id)) objects)
stands_with_objects job id objects t =
    by (t (place_of job.tuples id)) (entry_of_objects job objects (place_of job.tuples id)) (is_on_the_way job objects (place_of job.tuples id))
    (way_at_place job id objects) (some_below job id objects)
  where
    by : (here inside : Option Entry) (way : Bool) → way ≡ list_any (has job (place_of job.tuples id)) objects
        → (is_some inside ≡ true → list_any (has job (place_of job.tuples id)) objects ≡ true)
        → is_some (option_or here (option_or inside (folder_where way))) ≡ (is_some here || list_any (has job (place_of job.tuples id)) objects)
    by (Some entry) inside way is has = refl
    by None (Some entry) way is has = sym (has refl)
    by None None true is has = is
    by None None false is has = is

-- ---- and which of them have it

-- the item has this place, and there is no cause against its object
abbrev pub claims : Job → Path → Item → Bool
claims job place item = has_place job place item.verdict

-- one item more: its place counts, whether it is carried or was taken before
one_more : (job : Job) (root : Tree) (earlier : List Item) (place : Path) (verdict : Verdict) → is_some (root place) ≡ false
    → (list_any (claims job place) earlier || list_any (has job place) (carried_by job (is_taken job root earlier verdict) verdict))
    ≡ (list_any (claims job place) earlier || has_place job place verdict)
one_more job root earlier place (Named id object) free = by_cause (cause_of job.limits object)
  where
    none_either : (t : Bool) → list_any (has job place) (cond t [] []) ≡ false
    none_either true = refl
    none_either false = refl

    one : (t : Bool) → list_any (has job place) (cond t [] (record { id = id; files = files (entries object.inside) } ∷ []))
        ≡ cond t false (has job place (record { id = id; files = files (entries object.inside) }))
    one true = refl
    one false = or_false (has job place (record { id = id; files = files (entries object.inside) }))

    here : (t s : Bool) → (s ≡ true → t ≡ list_any (claims job place) earlier)
        → (list_any (claims job place) earlier || cond t false s) ≡ (list_any (claims job place) earlier || s)
    here true true tells = ap (λ b. b || false) (sym (tells refl)) ∙ sym (ap (λ b. b || true) (sym (tells refl)))
    here true false tells = refl
    here false s tells = refl

    by_cause : (why : Option Cause)
        → (list_any (claims job place) earlier || list_any (has job place)
        (cond (is_taken_place job root earlier (place_of job.tuples id)) [] (carried_by_outcome id (outcome_by (files (entries object.inside)) why))))
        ≡ (list_any (claims job place) earlier || (is_none why && same_path (place_of job.tuples id) place))
    by_cause (Some why) = ap (λ b. list_any (claims job place) earlier || b) (none_either (is_taken_place job root earlier (place_of job.tuples id)))
    by_cause None =
        ap (λ b. list_any (claims job place) earlier || b) (one (is_taken_place job root earlier (place_of job.tuples id)))
        ∙ here (is_taken_place job root earlier (place_of job.tuples id)) (same_path place (place_of job.tuples id)) (λ e. tells (is_same place _ e))
        ∙ ap (λ b. list_any (claims job place) earlier || b) (same_path-sym place (place_of job.tuples id))
      where
        tells : place ≡ place_of job.tuples id → is_taken_place job root earlier (place_of job.tuples id) ≡ list_any (claims job place) earlier
        tells e = ap (is_taken_place job root earlier) (sym e) ∙ ap (λ b. b || list_any (claims job place) earlier) free
one_more _ _ _ _ _ _ = refl

or_assoc : (a b c : Bool) → ((a || b) || c) ≡ (a || (b || c))
or_assoc true _ _ = refl
or_assoc false _ _ = refl

-- so for the first items, after earlier ones
first_ones : (job : Job) (root : Tree) (earlier others : List Item) (k : ℕ) (place : Path) → is_some (root place) ≡ false
    → (list_any (claims job place) earlier || list_any (has job place) (carried job (take k (marked_after job root earlier others))))
    ≡ list_any (claims job place) (earlier ++ take k others)
first_ones job _ earlier _ zero place _ = or_false (list_any (claims job place) earlier) ∙ ap (list_any (claims job place)) (sym (append_nil earlier))
first_ones job _ earlier [] (suc _) place _ = or_false (list_any (claims job place) earlier) ∙ ap (list_any (claims job place)) (sym (append_nil earlier))
first_ones job root earlier (item ∷ others) (suc k) place free =
    let taken = is_taken job root earlier item.verdict in
    let later = carried job (take k (marked_after job root (earlier ++ item ∷ []) others)) in
    ap (λ b. list_any (claims job place) earlier || b) (list_any-append (has job place) (carried_by job taken item.verdict) later)
    ∙ sym (or_assoc (list_any (claims job place) earlier) (list_any (has job place) (carried_by job taken item.verdict)) (list_any (has job place) later))
    ∙ ap (λ b. b || list_any (has job place) later)
    (one_more job root earlier place item.verdict free
    ∙ ap (λ b. list_any (claims job place) earlier || b) (sym (or_false (claims job place item)))
    ∙ sym (list_any-append (claims job place) earlier (item ∷ [])))
    ∙ first_ones job root (earlier ++ item ∷ []) others k place free
    ∙ ap (list_any (claims job place)) (append_assoc earlier (item ∷ []) (take k others))

-- an object carried among the first items has the place, or something stood there, exactly where it is taken
pub taken_by_carried : (job : Job) (source : Forest) (root : Tree) (k : ℕ) (place : Path)
    → (is_some (root place) || list_any (has job place) (carried_among job source root k)) ≡ is_taken_place job root (take k (items job source)) place
taken_by_carried job source root k place = by (is_some (root place)) refl
  where
    by : (t : Bool) → is_some (root place) ≡ t → (t || list_any (has job place) (carried_among job source root k))
        ≡ (t || list_any (claims job place) (take k (items job source)))
    by true e = refl
    by false e = first_ones job root [] (items job source) k place e

pub place_stands_where_taken : PlaceStandsWhereTaken
place_stands_where_taken job source root k id rooted reserved =
    stands_with_objects job id (carried_among job source root k) (base job.tuples root)
    ∙ ap (λ b. b || list_any (has job (place_of job.tuples id)) (carried_among job source root k)) (base_at_place job id rooted reserved)
    ∙ taken_by_carried job source root k (place_of job.tuples id)

-- the item that a mark is on, and what the mark says
pub marked_item : (job : Job) (source : Forest) (root : Tree) (k : ℕ) (m : Marked) → slice_get (marked job source root) k ≡ Some m
    → (slice_get (items job source) k ≡ Some m.0) × (m.1 ≡ is_taken job root (take k (items job source)) m.0.verdict)
marked_item job source root k m is = by (slice_get (items job source) k) (sym (taken_against_earlier job source root k) ∙ is)
  where
    by : (o : Option Item) → option_map (λ (item : Item). (item, is_taken job root (take k (items job source)) item.verdict)) o ≡ Some m
        → (o ≡ Some m.0) × (m.1 ≡ is_taken job root (take k (items job source)) m.0.verdict)
    by None h = absurd (cc)
    by (Some item) h = (
      ap (option_map (λ (m : Marked). m.0)) h,
      sym (ap (λ (m : Marked). m.1) (some_is h)) ∙ ap (λ (i : Item). is_taken job root (take k (items job source)) i.verdict)
          (ap (λ (m : Marked). m.0) (some_is h)),
    )
      where
        some_is : {a b : Marked} → Some a ≡ Some b → a ≡ b
        some_is e = cc

pub next_place_stands_where_taken : NextPlaceStandsWhereTaken
next_place_stands_where_taken job source root k m id object rooted is what =
    let parts = marked_item job source root k m is in
    place_stands_where_taken job source root k id rooted (named_is_not_reserved job source k m.0 id object parts.0 what)
    ∙ sym (parts.1 ∙ ap (is_taken job root (take k (items job source))) what)
