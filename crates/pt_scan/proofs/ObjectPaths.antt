-- Paths in an object, from the trail that leads to where the scan stands.
use Rattle.std.proofs.Common.{
  ◌≡◌,
  ◌<◌,
  ◌≤◌,
  ℕ,
  ◌+◌,
  ◌-◌,
  Bool,
  true,
  false,
  List,
  [],
  ◌∷◌,
  ◌++◌,
  refl,
  sym,
  ap,
  ◌∙◌,
  length,
  cond,
  drop,
  take,
  arith,
  zero,
  suc,
}
use Rattle.std.specs.Prelude.{Option, None, Some, IsSome, ◌&&◌}
use Rattle.std.proofs.lemmas.List.{drop_at, length-append, length-drop, length-take-le, take_all, take_at}
use Rattle.std.proofs.lemmas.Bool.{and_parts, eqb-false}
use Rattle.pt_state.proofs.Words.{Item, Path, current_entry, is_dir_entry, names_to, parent, trail_path, Frame, logical_path, to_site, Object}
use Rattle.pt_walk.specs.Trail.{are_outer, entry_at, is_frame, is_trail}
use Rattle.pt_walk.proofs.TrailSteps.{outer_names, path_splits}
use Rattle.pt_plan.specs.Object.{names_before}
use Rattle.pt_plan.specs.TurnScan.{is_in_site, own_listings}
use Rattle.pt_scan.specs.Scanning.{IsSite}

-- ---- trails

outer_drop : (k : ℕ) (frames : List Frame) → are_outer frames ≡ true → are_outer (drop k frames) ≡ true
outer_drop zero frames is = is
outer_drop (suc k) [] is = refl
outer_drop (suc k) (frame ∷ frames) is = outer_drop k frames (and_parts (is_dir_entry (entry_at frame)) (are_outer frames)
    (and_parts (is_frame frame) (is_dir_entry (entry_at frame) && are_outer frames) is).1).1

outer_parent : (trail : List Frame) → is_trail trail ≡ true → are_outer (parent trail) ≡ true
outer_parent [] is = refl
outer_parent (frame ∷ frames) is = (and_parts (is_frame frame) (are_outer frames) is).1

drop_parent : (k : ℕ) (trail : List Frame) → drop (suc k) trail ≡ drop k (parent trail)
drop_parent zero [] = refl
drop_parent (suc k) [] = refl
drop_parent k (frame ∷ frames) = refl

pub parent_drops : (k : ℕ) (trail : List Frame) → parent (drop k trail) ≡ drop (suc k) trail
parent_drops zero [] = refl
parent_drops zero (frame ∷ frames) = refl
parent_drops (suc k) [] = refl
parent_drops (suc k) (frame ∷ frames) = parent_drops k frames

parent_drop : (k : ℕ) (trail : List Frame) → parent (drop k trail) ≡ drop k (parent trail)
parent_drop k trail = parent_drops k trail ∙ drop_parent k trail

-- so many names lead to the listing outside of the innermost ones
names_outside : (own : ℕ) (trail : List Frame) → is_trail trail ≡ true → 0 < own → length (names_to (drop own trail)) ≡ length trail - own
names_outside zero trail is some = absurd (omega (arith, some))
names_outside (suc k) trail is some =
    ap (λ (t : List Frame). length (names_to t)) (drop_parent k trail)
    ∙ outer_names (drop k (parent trail)) (outer_drop k (parent trail) (outer_parent trail is))
    ∙ ap (λ (t : List Frame). length t) (sym (drop_parent k trail)) ∙ length-drop (suc k) trail

-- ---- the logical path

drop_next : (k : ℕ) (x : List ℕ) (xs : Path) → drop (k + 1) (x ∷ xs) ≡ drop k xs
drop_next k x xs = search (arith)

first_of : (object : Object) (trail : List Frame) → IsSite object trail → 0 < own_listings object trail
    → length trail - own_listings object trail ≡ names_before object
unfolding IsSite
first_of object trail (some, long) own = by object.gathered own
  where
    by : (gathered : Bool) → 0 < cond gathered (length trail - object.site + 1) (length trail - object.site)
        → length trail - cond gathered (length trail - object.site + 1) (length trail - object.site) ≡ cond gathered (object.site - 1) object.site
    by true own = omega (arith, some, long)
    by false own = omega (arith, some, long)

-- the listings behind the names before it are the object's own
pub own_is : (object : Object) (trail : List Frame) (n first k : ℕ) → IsSite object trail → n ≡ length trail → first ≡ names_before object → k ≡ n - first
    → k ≡ own_listings object trail
unfolding IsSite
own_is object trail n first k (some, long) n_is begin k_is = k_is ∙ (λ i. n_is i - begin i) ∙ by object.gathered
  where
    by : (gathered : Bool) → length trail - cond gathered (object.site - 1) object.site
        ≡ cond gathered (length trail - object.site + 1) (length trail - object.site)
    by true = omega (arith, some, long)
    by false = refl

-- they are no more than the trail's
pub before_within : (object : Object) (trail : List Frame) (n first : ℕ) → IsSite object trail → n ≡ length trail → first ≡ names_before object → first ≤ n
unfolding IsSite
before_within object trail n first (some, long) n_is begin = by object.gathered begin
  where
    by : (gathered : Bool) → first ≡ cond gathered (object.site - 1) object.site → first ≤ n
    by true e = omega (arith, e, n_is, long)
    by false e = omega (arith, e, n_is, long)

module _ (object : Object) (trail : List Frame) (is : is_trail trail ≡ true) (site : IsSite object trail) (own : 0 < own_listings object trail) (entry : Path)
    (first : ℕ) (at : entry ≡ names_to trail) (begin : first ≡ names_before object) where
  abbrev inner : ℕ
  inner = own_listings object trail

  outside : length (names_to (drop inner trail)) ≡ length trail - inner
  outside = names_outside inner trail is own

  before : length trail - inner ≡ first
  before = first_of object trail site own ∙ sym begin

  pub logical_is : (names rest : Path) → names ≡ entry → rest ≡ take (length names - first) (drop first names) → rest ≡ logical_path object trail
  logical_is names rest names_is rest_is =
      rest_is ∙ take_all (length names - first) (drop first names) (let short = length-drop first names in omega (arith, short))
      ∙ (λ i. drop (sym before i) ((names_is ∙ at ∙ path_splits inner trail) i))
      ∙ drop_at (names_to (drop inner trail)) (names_to (take inner trail)) (length trail - inner) outside

  -- and behind the name of `pairtree_root`
  pub logical_below : (root : List ℕ) (next : ℕ) (names rest : Path) → next ≡ first + 1 → names ≡ root ∷ entry
      → rest ≡ take (length names - next) (drop next names) → rest ≡ logical_path object trail
  logical_below root next names rest next_is names_is rest_is =
      logical_is entry rest refl
      (rest_is ∙ (λ i. take (length (names_is i) - next_is i) (drop (next_is i) (names_is i)))
      ∙ (λ i. take (shorter i) (drop_next first root entry i)))
    where
      shorter : length (root ∷ entry) - (first + 1) ≡ length entry - first
      shorter = omega (arith)

  -- it begins within the path
  pub logical_within : first ≤ length entry
  logical_within =
      let whole = ap length (at ∙ path_splits inner trail) in
      let both = length-append (names_to (drop inner trail)) (names_to (take inner trail)) in
      omega (arith, whole, both, outside, before)

-- ---- the path of the site

pub site_is : (object : Object) (trail : List Frame) (inner part whole : Path) → is_trail trail ≡ true → IsSite object trail → inner ≡ trail_path trail
    → part ≡ take (object.site - 1) inner → whole ≡ [] ++ part → whole ≡ trail_path (to_site object trail)
unfolding IsSite
site_is object trail inner part whole is (some, long) at part_is whole_is =
    let k = length trail - object.site in
    let outer = outer_parent trail is in
    let left = outer_names (drop k (parent trail)) (outer_drop k (parent trail) outer) in
    let shorter = length-drop k (parent trail) in
    let one = length_parent trail in
    let names : length (names_to (drop k (parent trail))) ≡ object.site - 1 = omega (arith, left, shorter, one, some, long) in
    whole_is ∙ part_is ∙ ap (λ (p : Path). take (object.site - 1) p) (at ∙ path_splits k (parent trail))
    ∙ take_at (names_to (drop k (parent trail))) (names_to (take k (parent trail))) (object.site - 1) names ∙ ap names_to (sym (parent_drop k trail))
  where
    length_parent : (trail : List Frame) → length (parent trail) ≡ length trail - 1
    length_parent [] = refl
    length_parent (frame ∷ frames) = omega (arith)

pub site_within : (object : Object) (trail : List Frame) (inner : Path) → is_trail trail ≡ true → IsSite object trail → inner ≡ trail_path trail
    → object.site - 1 ≤ length inner
unfolding IsSite
site_within object [] inner is (some, long) at = absurd (omega (arith, some, long))
site_within object (frame ∷ frames) inner is (some, long) at =
    let names = ap length at in
    let each = outer_names frames (outer_parent (frame ∷ frames) is) in
    omega (arith, names, each, long)

pub site_some : (object : Object) (trail : List Frame) → IsSite object trail → 0 < object.site
unfolding IsSite
site_some object trail (some, long) = some

pub taken_long : (n : ℕ) (xs names : Path) → names ≡ xs → n ≤ length xs → n ≡ length (take n names)
taken_long n xs names is long = sym (ap (λ (p : Path). length (take n p)) is ∙ length-take-le n xs long)

-- around the listing that is left there is another, left for a directory
pub left_some : (object : Object) (trail left : List Frame) (in_site : Bool) → is_trail trail ≡ true → IsSite object trail → 0 < own_listings object trail
    → in_site ≡ is_in_site object trail → in_site ≡ false → left ≡ parent trail → IsSome (current_entry left)
unfolding IsSite
left_some object trail left in_site is (some, long) own place not left_is = rw left_is (by trail is long own (sym place ∙ not))
  where
    entry : (o : Option Item) → is_dir_entry o ≡ true → IsSome o
    entry None is = absurd (cc)
    entry (Some item) is = refl

    by : (trail : List Frame) → is_trail trail ≡ true → object.site ≤ length trail → 0 < own_listings object trail → is_in_site object trail ≡ false
        → IsSome (current_entry (parent trail))
    by [] is long own outside = absurd (omega (arith, some, long))
    by (frame ∷ []) is long own outside = absurd (eqb-false 1 object.site outside (omega (arith, some, long)))
    by (frame ∷ outer ∷ frames) is long own outside = entry (entry_at outer)
        (and_parts (is_dir_entry (entry_at outer)) (are_outer frames) (and_parts (is_frame outer) (is_dir_entry (entry_at outer) && are_outer frames)
        (and_parts (is_frame frame) (are_outer (outer ∷ frames)) is).1).1).0

pub ruleset paths = (taken_long, left_some, logical_below, logical_is, logical_within, site_is, site_within, site_some)
