-- How an object under way stands as the trail moves in it.
use Rattle.std.proofs.Common.{
  ◌≡◌,
  ◌<◌,
  ◌≤◌,
  ◌-◌,
  ℕ,
  zero,
  suc,
  ◌+◌,
  ◌==◌,
  ◌&&◌,
  Bool,
  true,
  false,
  List,
  [],
  ◌∷◌,
  ◌++◌,
  refl,
  ap,
  sym,
  ◌∙◌,
  cond,
  length,
  arith,
  drop,
  take,
  append_assoc,
}
use Rattle.std.specs.Prelude.{None, Some}
use Rattle.std.proofs.lemmas.Bool.{eq-eqb}
use Rattle.std.proofs.lemmas.List.{length-append, length-map, map-append}
use Rattle.pt_object.specs.Object.{row_of_file, rows_of}
use Rattle.pt_object.specs.declared.rows.Row.{Row}
use Rattle.pt_tree.specs.Forest.{Forest}
use Rattle.pt_tree.specs.Listing.{Item}
use Rattle.pt_tree.specs.Path.{Path}
use Rattle.pt_walk.proofs.BadEntries.{counts, grow}
use Rattle.pt_walk.proofs.TrailSteps.{name_for_each, path_grows, path_splits}
use Rattle.pt_walk.specs.Left as walk
use Rattle.pt_walk.specs.Left.{Fits, inside_at}
use Rattle.pt_walk.specs.Object.{Entry, empties, entry_cause, files, emptiness, without_shorties}
use Rattle.pt_walk.specs.Site.{is_shorty}
use Rattle.pt_walk.specs.Trail.{advanced, entered, entry_at, is_trail, names_to, parent, sought, trail_path}
use Rattle.pt_walk.specs.declared.frame.Frame.{Frame}
use Rattle.pt_invariant.specs.SourceInvariant.{HasScanned, IsInObject, IsSiteOf, inside_object, object_at}
use Rattle.pt_plan.specs.Items.{Named, PairtreeObject}
use Rattle.pt_plan.specs.Job.{Job}
use Rattle.pt_plan.specs.Store.{pairtree_of}
use Rattle.pt_plan.specs.TurnMake.{path_of_source}
use Rattle.pt_plan.specs.TurnScan.{logical_path, own_listings, to_site}
use Rattle.pt_plan.specs.declared.object.Object.{Object}

-- ---- the trail as far as the site

pub site_entered : (object : Object) (items : List Item) (trail : List Frame) → object.site ≤ length trail
    → to_site object (entered items trail) ≡ to_site object trail
site_entered object items trail within =
    let more : length (entered items trail) - object.site ≡ suc (length trail - object.site) = omega (arith, within) in
    ap (λ (n : ℕ). drop n (entered items trail)) more

pub site_advanced : (object : Object) (trail : List Frame) → object.site < length trail → to_site object (advanced trail) ≡ to_site object trail
site_advanced object [] inside = absurd (omega (arith, inside))
site_advanced object (frame ∷ frames) inside =
    let more : length (frame ∷ frames) - object.site ≡ suc (length frames - object.site) = omega (arith, inside) in
    ap (λ (n : ℕ). drop n (advanced (frame ∷ frames))) more ∙ sym (ap (λ (n : ℕ). drop n (frame ∷ frames)) more)

pub site_parent : (object : Object) (trail : List Frame) → object.site < length trail → to_site object (parent trail) ≡ to_site object trail
site_parent object [] inside = absurd (omega (arith, inside))
site_parent object (frame ∷ frames) inside =
    let more : length (frame ∷ frames) - object.site ≡ suc (length frames - object.site) = omega (arith, inside) in
    sym (ap (λ (n : ℕ). drop n (frame ∷ frames)) more)

pub site_itself : (object : Object) (trail : List Frame) → length trail ≡ object.site → to_site object trail ≡ trail
site_itself object trail same =
    let none : length trail - object.site ≡ 0 = omega (arith, same) in
    ap (λ (n : ℕ). drop n trail) none

-- ---- an object stays under way

pub still_in : (job : Job) (source : Forest) (prefix : List ℕ) (object : Object) {old new : List Frame} (count : ℕ) → object.site ≤ length new
    → Fits (pairtree_of source) new → to_site object new ≡ to_site object old
    → IsInObject job source prefix object old count → IsInObject job source prefix object new count
still_in job source prefix object count within fits same it = record {
  some = it.some;
  within = within;
  fits = fits;
  site = rw same it.site;
  place = it.place;
}

-- with one more directory counted
pub still_counted : {job : Job} {source : Forest} {prefix : List ℕ} {object : Object} (empty : ℕ) {trail : List Frame} {count : ℕ}
    → IsInObject job source prefix object trail count → IsInObject job source prefix (record object { empty = empty }) trail count
still_counted empty it = record {
  some = it.some;
  within = it.within;
  fits = it.fits;
  site = record { here = it.site.here; way = it.site.way; named = it.site.named; leads = it.site.leads; filled = it.site.filled };
  place = it.place;
}

same_choice : {X : Type 0} → (b : Bool) (x y z : X) → b ≡ true → cond b x y ≡ cond b x z
same_choice true x y z is = refl
same_choice false x y z is = absurd (cc)

pub object_moved : (source : Forest) (object : Object) (frame : Frame) (frames : List Frame) (place : ℕ) → object.gathered ≡ true
    → object_at source object (frame ∷ frames) ≡ object_at source object (sought place (frame ∷ frames))
object_moved source object frame frames place gathered =
    let top = pairtree_of source in
    let old = frame ∷ frames in
    let new = sought place (frame ∷ frames) in
    ap (λ (p : Path). record { at = p; gathered = object.gathered; inside = inside_object source object old })
    (same_choice object.gathered (names_to frames) (names_to old) (names_to new) gathered)
    ∙ ap (λ (f : Forest). record { at = path_of_source object new; gathered = object.gathered; inside = f })
    (same_choice object.gathered (without_shorties (inside_at top (names_to frames))) (inside_at top (names_to old)) (inside_at top (names_to new)) gathered)

-- a gathered object, when the place in its site moves
pub site_moved : {job : Job} (source : Forest) {prefix : List ℕ} (object : Object) (frame : Frame) (frames : List Frame) (place : ℕ) {count : ℕ}
    → object.gathered ≡ true
    → IsSiteOf job source prefix object (frame ∷ frames) count → IsSiteOf job source prefix object (sought place (frame ∷ frames)) count
site_moved source object frame frames place gathered it =
    let same = object_moved source object frame frames place gathered in
    record {
      here = record { site = it.here.site };
      way = it.way;
      named = it.named ∙ ap (λ (o : PairtreeObject). Named object.id o) same;
      leads = λ apart. absurd (let no : true ≡ false = sym gathered ∙ apart in cc);
      filled = λ is. ap (λ (o : PairtreeObject). emptiness o.inside) (sym same) ∙ it.filled is;
    }

-- ---- how many listings are the object's own

own_at : Bool → ℕ → ℕ → ℕ
own_at gathered listings site = cond gathered (listings - site + 1) (listings - site)

own_more : (g : Bool) (n site : ℕ) → site ≤ n → own_at g (suc n) site ≡ suc (own_at g n site)
unfolding own_at
own_more true n site within = omega (arith, within)
own_more false n site within = omega (arith, within)

pub own_entered : (object : Object) (items : List Item) (trail : List Frame) → object.site ≤ length trail
    → own_listings object (entered items trail) ≡ suc (own_listings object trail)
unfolding own_at
own_entered object items trail within = own_more object.gathered (length trail) object.site within

pub own_parent : (object : Object) (frame : Frame) (frames : List Frame) → object.site ≤ length frames
    → own_listings object (frame ∷ frames) ≡ suc (own_listings object frames)
unfolding own_at
own_parent object frame frames within = own_more object.gathered (length frames) object.site within

pub own_advanced : (object : Object) (trail : List Frame) → 0 < own_listings object trail → 0 < own_listings object (advanced trail)
own_advanced object [] some = some
own_advanced object (frame ∷ frames) some = some

-- at the site a gathered object has one, and any other none
own_here : (g : Bool) (n : ℕ) {site : ℕ} → n ≡ site → own_at g n site ≡ cond g 1 0
unfolding own_at
own_here true n same = omega (arith, same)
own_here false n same = omega (arith, same)

pub own_at_site : (object : Object) (trail : List Frame) → length trail ≡ object.site → own_listings object trail ≡ cond object.gathered 1 0
unfolding own_at
own_at_site object trail same = own_here object.gathered _ same

-- an entry that isn't passed over isn't a shorty of a gathered site
not_passed : (g : Bool) (n site k : ℕ) (item : Item) → site ≤ n → own_at g n site ≡ suc k → (n == site) && is_shorty item ≡ false
    → walk.is_passed g k item ≡ false
unfolding own_at
not_passed g n site (suc k) item within own apart = refl
not_passed false n site zero item within own apart = refl
not_passed true n site zero item within own apart =
    let same : n ≡ site = omega (arith, own, within) in
    ap (λ b. b && is_shorty item) (sym (eq-eqb n site same)) ∙ apart

pub passed_not : (object : Object) (trail : List Frame) (k : ℕ) (item : Item) → object.site ≤ length trail → own_listings object trail ≡ suc k
    → (length trail == object.site) && is_shorty item ≡ false → walk.is_passed object.gathered k item ≡ false
unfolding own_at
passed_not object trail k item within own apart = not_passed object.gathered (length trail) object.site k item within own apart

-- an object that has a listing of its own at its site is gathered
gathered_here : (g : Bool) (n : ℕ) {site : ℕ} → n ≡ site → 0 < own_at g n site → g ≡ true
unfolding own_at
gathered_here true n same some = refl
gathered_here false n same some = absurd (omega (arith, same, some))

pub is_gathered : (object : Object) (trail : List Frame) → length trail ≡ object.site → 0 < own_listings object trail → object.gathered ≡ true
unfolding own_at
is_gathered object trail same some = gathered_here object.gathered _ same some

-- ---- the path of an entry is the object's and the logical one

parent-drop : (n : ℕ) (t : List Frame) → parent (drop n t) ≡ drop (suc n) t
parent-drop zero [] = refl
parent-drop zero (f ∷ t) = refl
parent-drop (suc n) [] = refl
parent-drop (suc n) (f ∷ t) = parent-drop n t

above_own : (g : Bool) (n site : ℕ) (trail : List Frame) → names_to (drop (own_at g n site) trail)
    ≡ cond g (trail_path (drop (n - site) trail)) (names_to (drop (n - site) trail))
unfolding own_at
above_own false n site trail = refl
above_own true n site trail =
    let next : n - site + 1 ≡ suc (n - site) = omega (arith) in
    ap (λ (k : ℕ). names_to (drop k trail)) next ∙ sym (ap names_to (parent-drop (n - site) trail))

pub path_in_object : (object : Object) (trail : List Frame) → names_to trail ≡ path_of_source object (to_site object trail) ++ logical_path object trail
unfolding own_at
path_in_object object trail =
    path_splits (own_listings object trail) trail ∙ ap (λ (p : Path). p ++ logical_path object trail)
    (above_own object.gathered (length trail) object.site trail)

-- it has a name for each listing
pub path_length : (frame : Frame) (frames : List Frame) (item : Item) → is_trail (frame ∷ frames) ≡ true → entry_at frame ≡ Some item
    → length (names_to (frame ∷ frames)) ≡ length (frame ∷ frames)
path_length frame frames item is_one e =
    let grown : length (names_to (frame ∷ frames)) ≡ length (names_to frames) + 1 = ap length (path_grows frame frames item e)
    ∙ length-append (names_to frames) (item.0 ∷ []) in
    let outer = name_for_each frame frames is_one in
    omega (arith, grown, outer)

pub logical_is : (object : Object) (frame : Frame) (frames : List Frame) (k : ℕ) (item : Item) → entry_at frame ≡ Some item
    → own_listings object (frame ∷ frames) ≡ suc k
    → names_to (take k frames) ++ item.0 ∷ [] ≡ logical_path object (frame ∷ frames)
logical_is object frame frames k item e own =
    sym (path_grows frame (take k frames) item e) ∙ sym (ap (λ (n : ℕ). names_to (take n (frame ∷ frames))) own)

-- ---- one entry more is scanned

pub scans_more : (job : Job) {object : PairtreeObject} {rows : List Row} {empty more : ℕ} {entry : Entry} {left : List Entry}
    → entry_cause job.limits (length object.at) (length rows) entry ≡ None → more ≡ empty + empties (entry ∷ [])
    → HasScanned job object rows empty (entry ∷ left) → HasScanned job object (rows ++ rows_of job.algorithm (files (entry ∷ []))) more left
scans_more job {object} {rows} {entry} {left} none counted it =
    let both = counts it.front (entry ∷ []) in
    let many : 0 + length (files it.front) ≡ length rows =
    (let long : length rows ≡ length (files it.front) = ap length it.rows_are ∙ length-map (files it.front) (row_of_file job.algorithm) in omega (arith, long))
    in
    let was = it.empty_is in
    let gained = both.1 in
    record {
      shallow = it.shallow;
      front = it.front ++ entry ∷ [];
      all = it.all ∙ sym (append_assoc it.front (entry ∷ []) left);
      good = grow job.limits (length object.at) 0 it.front entry it.good (ap (λ (n : ℕ). entry_cause job.limits (length object.at) n entry) many ∙ none);
      rows_are =
          ap (λ (l : List Row). l ++ rows_of job.algorithm (files (entry ∷ []))) it.rows_are
          ∙ sym (map-append (row_of_file job.algorithm) (files it.front) (files (entry ∷ [])))
          ∙ ap (rows_of job.algorithm) (sym both.0);
      empty_is = omega (arith, was, gained, counted);
    }

-- what is left may be said otherwise
pub scans_same : {job : Job} {object : PairtreeObject} {rows : List Row} {empty : ℕ} {old new : List Entry} → old ≡ new → HasScanned job object rows empty old
    → HasScanned job object rows empty new
scans_same {job} {object} {rows} {empty} same it = rw same at it
