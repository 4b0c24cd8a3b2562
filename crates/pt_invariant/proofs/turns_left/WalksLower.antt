-- The turns of the walk lower what is left.
use Rattle.std.proofs.Common.{◌≡◌, ◌≤◌, ℕ, zero, suc, ◌+◌, ◌&&◌, true, false, List, [], ◌∷◌, refl, ap, sym, ◌∙◌, arith, drop, length}
use Rattle.std.specs.Prelude.{Bool, Option, None, Some, map, nat_lt, slice_get, sum_by, unwrap_or}
use Rattle.std.specs.Option.{option_map}
use Rattle.std.proofs.lemmas.Bool.{and_parts}
use Rattle.std.proofs.lemmas.List.Sums.{sum_by-cons}
use Rattle.std.proofs.lemmas.Option.{slice_get_within}
use Rattle.pt_tree.specs.Forest.{Forest, dir_at, listing_of, none}
use Rattle.pt_tree.specs.Listing.{Item as Entry}
use Rattle.pt_walk.specs.Left.{Fits, inside_at}
use Rattle.pt_walk.specs.Sites.{Listed}
use Rattle.pt_walk.specs.Trail.{advanced, are_outer, current_entry, entry_at, is_dir_entry, is_frame, is_trail, names_to, parent, sought, trail_path}
use Rattle.pt_walk.specs.declared.frame.Frame.{Frame}
use Rattle.pt_plan.specs.Carried.{Marked}
use Rattle.pt_plan.specs.Items.{Item, item_of, items}
use Rattle.pt_plan.specs.Job.{Job, reach_of}
use Rattle.pt_plan.specs.Run.{Held, with_trail}
use Rattle.pt_plan.specs.Store.{pairtree_of, prefix_of, sites_of}
use Rattle.pt_plan.specs.TurnScan.{to_site}
use Rattle.pt_plan.specs.TurnWalk.{IsDeep, IsNew, IsPast, IsPresent, IsSkipped, LeadsOn, LeavesSite, OpensRoot, PassesElsewhere, PassesEntry, at_object}
use Rattle.pt_plan.specs.Work.{work_on_item, work_on_object}
use Rattle.pt_plan.specs.DeviceStates.{Answers}
use Rattle.pt_plan.specs.declared.object.Object.{Object}
use Rattle.pt_plan.specs.declared.phase.Phase.TheVariants as phase
use Rattle.pt_plan.specs.declared.phase.Stage.TheVariants as stage
use Rattle.pt_invariant.specs.SourceInvariant.{HasStarted, IsInObject, IsToJudge, object_at}
use Rattle.pt_invariant.proofs.held.DistinctRows.{get_map}
use Rattle.pt_invariant.proofs.source.InObject.{site_itself}
use Rattle.pt_invariant.proofs.source.InPairtree.{pairtree_proper, some_same}
use Rattle.pt_invariant.proofs.source.NewObject.{new_object_there}
use Rattle.pt_invariant.proofs.source.WalksKeep.{done_at_shorty, none_at_end, none_at_entry}
use Rattle.pt_invariant.proofs.items.ScansTell.{item_of_site, named_so}
use Rattle.pt_invariant.specs.WorkLaws.{AreMarked, EntersFree, WalkingDecreasesRank}
use Rattle.pt_invariant.specs.Rank.{items_left, rank, still_listed}
use Rattle.pt_invariant.proofs.turns_left.Copying.{drop_at}

-- ---- the items

mark_in : (marks : List Marked) (count : ℕ) {item : Item} → slice_get (map (λ (m : Marked). m.0) marks) count ≡ Some item
    → (taken : Bool) × (slice_get marks count ≡ Some (item, taken))
mark_in [] zero is = absurd (cc)
mark_in [] (suc _) is = absurd (cc)
mark_in (m ∷ _) zero is = (m.1, let same = some_same m.0 _ is in ap (λ (i : Item). Some (i, m.1)) same)
mark_in (_ ∷ marks) (suc count) is = mark_in marks count is

-- each item has a mark
mark_there : (items : List Item) (marks : List Marked) (count : ℕ) {item : Item} → AreMarked items marks → slice_get items count ≡ Some item
    → (taken : Bool) × (slice_get marks count ≡ Some (item, taken))
mark_there items marks count are is = mark_in marks count (ap (λ (l : List Item). slice_get l count) are ∙ is)

-- on one item, and on those behind it
pub item_next : (job : Job) (marks : List Marked) (count : ℕ) {m : Marked} → slice_get marks count ≡ Some m
    → items_left job marks count ≡ work_on_item job m + items_left job marks (suc count)
item_next job marks count {m} is = ap (sum_by (work_on_item job)) (drop_at count marks is) ∙ sum_by-cons (work_on_item job) m (drop (suc count) marks)

fewer : {X : Type 0} → (f : X → ℕ) (n : ℕ) (xs : List X) → sum_by f (drop (suc n) xs) ≤ sum_by f (drop n xs)
fewer f zero [] = omega arith
fewer f (suc n) [] = omega arith
fewer f zero (x ∷ xs) = let one = sum_by-cons f x xs in omega (arith, one)
fewer f (suc n) (_ ∷ xs) = fewer f n xs

-- with one item done no more is left
pub items_fewer : (job : Job) (marks : List Marked) (count : ℕ) → items_left job marks (suc count) ≤ items_left job marks count
items_fewer job marks count = fewer (work_on_item job) count marks

-- ---- the listings

-- the listing of a frame is that of its directory
pub listed_there : (top : Forest) (frame : Frame) (frames : List Frame) → Fits top (frame ∷ frames)
    → listing_of (inside_at top (names_to frames)) ≡ frame.listing
listed_there top frame frames fits = by (dir_at top (names_to frames)) refl
  where
    by : (o : Option Forest) → dir_at top (names_to frames) ≡ o → listing_of (inside_at top (names_to frames)) ≡ frame.listing
    by None is = absurd (let none = sym (ap (option_map listing_of) is) ∙ fits.0 in cc)
    by (Some inside) is = ap (λ o. listing_of (unwrap_or o none)) is ∙ some_same _ frame.listing (sym (ap (option_map listing_of) is) ∙ fits.0)

-- one entry less behind it
advanced_less : (trail : List Frame) {item : Entry} → current_entry trail ≡ Some item → still_listed (advanced trail) + 1 ≤ still_listed trail
advanced_less [] e = absurd (cc)
advanced_less (frame ∷ frames) {item} e = let within = slice_get_within frame.listing frame.place item e in omega (arith, within)

-- and behind the directory of a listing that is left
left_less : (trail : List Frame) → is_trail trail ≡ true → nat_lt 1 (length trail) ≡ true → still_listed (advanced (parent trail)) + 1 ≤ still_listed trail
left_less [] is_one long = absurd (cc)
left_less (frame ∷ []) is_one long = absurd (cc)
left_less (frame ∷ outer ∷ frames) is_one long =
    let outers = (and_parts (is_frame frame) (are_outer (outer ∷ frames)) is_one).1 in
    let here = (and_parts (is_frame outer) (is_dir_entry (entry_at outer) && are_outer frames) outers).1 in
    let item = some_entry (entry_at outer) (and_parts (is_dir_entry (entry_at outer)) (are_outer frames) here).0 in
    let within = slice_get_within outer.listing outer.place item.0 item.1 in
    omega (arith, within)
  where
    some_entry : (o : Option Entry) → is_dir_entry o ≡ true → (item : Entry) × (o ≡ Some item)
    some_entry None is = absurd (cc)
    some_entry (Some item) is = (item, refl)

-- ---- a site

-- a site that is listed is judged, walked and left
site_walked : {job : Job} {source : Forest} (marks : List Marked) → AreMarked (items job source) marks → (trail : List Frame) {count : ℕ}
    → IsToJudge job source trail count → still_listed trail + 2 + items_left job marks (suc count) ≤ still_listed (parent trail) + items_left job marks count
site_walked _ _ [] it = absurd (omega (arith, it.way.entered))
site_walked {job} {source} marks are (frame ∷ frames) {count} it =
    let top = pairtree_of source in
    let path = names_to frames in
    let item = item_of job (prefix_of source) (path, Listed (inside_at top path)) in
    let mine : slice_get (items job source) count ≡ Some item = get_map (item_of job (prefix_of source)) (sites_of (reach_of job) source) count _ it.here.site
    in
    let next = item_next job marks count (mark_there (items job source) marks count are mine).1 in
    let same = ap length (listed_there top frame frames it.way.fits) in
    omega (arith, next, same)

-- the site's listing, from its start on
site_long : (top : Forest) (trail : List Frame) → Fits top trail → still_listed (sought 0 trail) ≤ still_listed (parent trail)
    + length (listing_of (inside_at top (trail_path trail)))
site_long top [] fits = omega arith
site_long top (frame ∷ frames) fits = let same = ap length (listed_there top frame frames fits) in omega (arith, same)

same_parent : (index : Option ℕ) (trail : List Frame) → still_listed (parent (at_object index trail)) ≡ still_listed (parent trail)
same_parent None _ = refl
same_parent (Some _) [] = refl
same_parent (Some _) (_ ∷ _) = refl

-- its object is to be scanned
object_next : {job : Job} {source : Forest} (marks : List Marked) → AreMarked (items job source) marks
    → {prefix : List ℕ} {object : Object} {trail : List Frame} {outer count : ℕ} (held : Held) → HasStarted source prefix
    → IsInObject job source prefix object trail count → length trail ≡ object.site → held.trail ≡ trail
    → still_listed (parent trail) ≡ outer → EntersFree (phase.Carrying object stage.Open) marks count
    → rank job source marks count (phase.Carrying object stage.Open) held + 1 ≤ outer + items_left job marks count + 1
object_next {job} {source} marks are {object} {trail} {outer} {count} held started it at_site is same free =
    let site = to_site object trail in
    let what = object_at source object site in
    let item = item_of_site job source site in
    let mine : slice_get (items job source) count ≡ Some item = get_map (item_of job (prefix_of source)) (sites_of (reach_of job) source) count _
    it.site.here.site in
    let mark = mark_there (items job source) marks count are mine in
    let not = free item mark.0 mark.1 in
    let next = item_next job marks count (mark.1 ∙ ap (λ (taken : Bool). Some (item, taken)) not) in
    let named = ap (work_on_object job item.visit false) (named_so started it.site) in
    let itself = site_itself object trail at_site in
    let long = site_long (pairtree_of source) trail it.fits in
    let walk = ap (λ (t : List Frame). still_listed (sought 0 t)) itself in
    let path = ap (λ (t : List Frame). length (listing_of (inside_at (pairtree_of source) (trail_path t)))) itself in
    rw is
    (omega (arith, next, named, long, walk, path, same))

-- ---- each turn

pub walks_lower : WalkingDecreasesRank
unfolding Answers
walks_lower job past s new marks prefix here next held after calls (OpensRoot was items) answers at part are free =
    let none = ap still_listed at.trail.none in
    omega (arith, none)
walks_lower job past s new marks prefix here next held after calls (LeadsOn was found) answers at part are free = let walked = site_walked marks are was.trail
    part.at.2 in omega (arith, walked)
walks_lower job past s new marks prefix here next held after calls (IsSkipped was why found) answers at part are free = let walked = site_walked marks are
    was.trail part.at.2 in omega (arith, walked)
walks_lower job past s new marks prefix here next held after calls (IsPresent was index id kind found) answers at part are free = let walked = site_walked marks
    are was.trail part.at.2 in omega (arith, walked)
walks_lower job past s _ marks prefix _ _ _ _ _ (IsNew was index id found) _ _ part are free =
    let it = new_object_there job s.tree prefix was.trail index id past.count (pairtree_proper s.tree part.at.1.store part.proper) found part.at.2 in
    object_next marks are (with_trail was (at_object index was.trail)) part.at.1 it.stands it.at_site refl (same_parent index was.trail) free
walks_lower job past s new marks prefix here next held after calls (IsPast was name e short last) answers at part are free =
    let less = advanced_less was.trail e in
    let few = items_fewer job marks past.count in
    let more = ap (items_left job marks) (done_at_shorty was.trail name past.count e short) in
    omega (arith, less, few, more)
walks_lower job past s new marks prefix here next held after calls (IsDeep was name e short last deep) answers at part are free =
    let less = advanced_less was.trail e in
    let few = items_fewer job marks past.count in
    let more = ap (items_left job marks) (done_at_shorty was.trail name past.count e short) in
    omega (arith, less, few, more)
walks_lower job past s new marks prefix here next held after calls (PassesElsewhere was name e short last deep apart) answers at part are free =
    let less = advanced_less was.trail e in
    let few = items_fewer job marks past.count in
    let more = ap (items_left job marks) (done_at_shorty was.trail name past.count e short) in
    omega (arith, less, few, more)
walks_lower job past s new marks prefix here next held after calls (PassesEntry was item e other) answers at part are free =
    let less = advanced_less was.trail e in
    let same = ap (items_left job marks) (none_at_entry was.trail item past.count e other) in
    omega (arith, less, same)
walks_lower job past s new marks prefix here next held after calls (LeavesSite was e long) answers at part are free =
    let less = left_less was.trail at.trail.is_one long in
    let same = ap (items_left job marks) (none_at_end was.trail past.count e) in
    omega (arith, less, same)
walks_lower job past s new marks prefix here next held after calls _ answers at part are free = omega arith
