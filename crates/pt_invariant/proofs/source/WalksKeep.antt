-- The turns of the walk keep what holds where the source tells.
use Rattle.std.proofs.Common.{◌≡◌, ℕ, suc, ◌+◌, Bool, true, false, List, [], ◌∷◌, ◌++◌, refl, ap, sym, ◌∙◌, cond, length, arith, drop}
use Rattle.std.specs.Prelude.{Option, None, Some, Ok, nat_lt, slice_get}
use Rattle.std.proofs.lemmas.Bool.{ltb-false}
use Rattle.pt_name.specs.Share.{walks}
use Rattle.pt_tree.specs.Forest.{Forest, is_proper, listing_at, listing_of}
use Rattle.pt_tree.specs.Listing.{Item}
use Rattle.pt_tree.specs.Path.{Path}
use Rattle.pt_tree.specs.Source.{Reading, IsListed}
use Rattle.pt_tree.specs.declared.kind.Kind.TheVariants as kind
use Rattle.pt_walk.proofs.SiteSteps.{ends, enters, leaves, passes, passes_others, starts}
use Rattle.pt_walk.proofs.TrailSteps.{directory_there, fits_entered, fits_moved, name_for_each, path_grows}
use Rattle.pt_walk.specs.Left.{inside_at, sites_left}
use Rattle.pt_walk.specs.Site.{is_short, is_shorty}
use Rattle.pt_walk.specs.Sites.{Reach, Site, Visit, Listed, Past, Deep, Elsewhere, at_of, is_last, is_listed, visit_of}
use Rattle.pt_walk.specs.Trail.{advanced, current_entry, entered, entry_at, is_trail, names_to, parent, trail_path}
use Rattle.pt_walk.specs.declared.frame.Frame.{Frame}
use Rattle.pt_invariant.specs.SourceInvariant.{HasStarted, IsInObject, IsOnWay, IsToJudge, SourceAt}
use Rattle.pt_invariant.specs.HeldInvariant.{HoldsNoObject}
use Rattle.pt_invariant.specs.History.{done_after, is_shorty_there}
use Rattle.pt_plan.specs.Job.{Job, reach_of}
use Rattle.pt_plan.specs.Store.{is_store, pairtree_of, sites_of}
use Rattle.pt_plan.specs.Run.{Held, with_trail}
use Rattle.pt_plan.specs.TurnWalk.{WalkStep, OpensRoot, IsNew, IsPast, IsDeep, PassesElsewhere, EntersSite, PassesEntry, LeavesSite, EndsWalk, new_object}
use Rattle.pt_plan.specs.DeviceStates.{Answers, Calls}
use Rattle.pt_plan.specs.declared.phase.Phase.{Phase}
use Rattle.pt_plan.specs.declared.phase.Phase.TheVariants as phase
use Rattle.pt_invariant.proofs.source.NewObject.{new_object_there}
use Rattle.pt_invariant.proofs.source.InPairtree.{listing_in, pairtree_proper, sites_there, some_same, split_left, stays}

-- ---- the first site

first_site : (job : Job) (source : Forest) (store : is_store source ≡ true) → IsToJudge job source (entered (listing_of (pairtree_of source)) []) 0
first_site job source store =
    let top = pairtree_of source in
    let all : sites_of (reach_of job) source ≡ ([], Listed top) ∷ sites_left (reach_of job) top (entered (listing_of top) []) =
    sites_there (reach_of job) source store ∙ starts (reach_of job) top in
    record {
      here = record { site = ap (λ (l : List Site). slice_get l 0) all };
      first = refl;
      way = record { entered = omega arith; fits = (refl, tt); left = ap (λ (l : List Site). drop 1 l) (sym all) };
    }

pub opens_root : (job : Job) (source : Forest) (trail : List Frame) (items : List Item) {count : ℕ} → is_store source ≡ true → trail ≡ [] → count ≡ 0
    → listing_at (pairtree_of source) [] ≡ Some items → IsToJudge job source (entered items trail) count
opens_root job source trail items store none first listed =
    rw first
    (rw none
    (rw (some_same (listing_of (pairtree_of source)) items listed) at (first_site job source store)))

-- ---- how a shorty is met

met_past : (reach : Reach) (path : Path) (name : List ℕ) (inside : Forest) → is_last (at_of path) ≡ true → visit_of reach path name inside ≡ Past
met_past reach path name inside last =
    ap (λ b. cond b Past (cond (nat_lt reach.depth (length path + 1)) Deep (cond (reach.walks (path ++ name ∷ [])) (Listed inside) Elsewhere))) last

met_else : (reach : Reach) (path : Path) (name : List ℕ) (inside : Forest) {deep : Bool} → is_last (at_of path) ≡ false
    → nat_lt reach.depth (length path + 1) ≡ deep
    → visit_of reach path name inside ≡ cond deep Deep (cond (reach.walks (path ++ name ∷ [])) (Listed inside) Elsewhere)
met_else reach path name inside last is =
    ap (λ b. cond b Past (cond (nat_lt reach.depth (length path + 1)) Deep (cond (reach.walks (path ++ name ∷ [])) (Listed inside) Elsewhere))) last
    ∙ ap (λ b. cond b Deep (cond (reach.walks (path ++ name ∷ [])) (Listed inside) Elsewhere)) is

-- a shorty that is neither is met by whether it is walked
met_near : (reach : Reach) (path : Path) (name : List ℕ) (inside : Forest) {own : Bool} → is_last (at_of path) ≡ false
    → nat_lt reach.depth (length path + 1) ≡ false → reach.walks (path ++ name ∷ []) ≡ own
    → visit_of reach path name inside ≡ cond own (Listed inside) Elsewhere
met_near reach path name inside last near is = met_else reach path name inside last near ∙ ap (λ b. cond b (Listed inside) Elsewhere) is

-- the depth of what is entered next is the number of listings
deep_as : (depth : ℕ) (frame : Frame) (frames : List Frame) {deep : Bool} → is_trail (frame ∷ frames) ≡ true → nat_lt depth (length (frame ∷ frames)) ≡ deep
    → nat_lt depth (length (names_to frames) + 1) ≡ deep
deep_as depth frame frames is_one deep_is =
    let names = name_for_each frame frames is_one in
    let same : length (names_to frames) + 1 ≡ length (frame ∷ frames) = omega (arith, names) in
    ap (nat_lt depth) same ∙ deep_is

-- a shorty that isn't listed is the next site, and is passed
passes_by : (job : Job) {source : Forest} {frame : Frame} {frames : List Frame} {name : List ℕ} {count : ℕ} → is_proper (pairtree_of source) ≡ true
    → entry_at frame ≡ Some (name, kind.Dir) → is_short name ≡ true
    → is_listed (visit_of (reach_of job) (names_to frames) name (inside_at (pairtree_of source) (names_to frames ++ name ∷ []))) ≡ false
    → IsOnWay job source (frame ∷ frames) count
    → (slice_get (sites_of (reach_of job) source) count ≡ Some (
      names_to frames ++ name ∷ [],
      visit_of (reach_of job) (names_to frames) name
          (inside_at (pairtree_of source) (names_to frames ++ name ∷ [])),
    ))
    × IsOnWay job source (advanced (frame ∷ frames)) (suc count)
passes_by job {source} {frame} {frames} {name} {count} proper e short unlisted way =
    let reach = reach_of job in
    let top = pairtree_of source in
    let path = names_to frames ++ name ∷ [] in
    let next = passes reach top frame frames name path (inside_at top path) proper way.fits e short refl refl unlisted in
    let split = split_left count (sites_of reach source) (path, visit_of reach (names_to frames) name (inside_at top path))
    (sites_left reach top (advanced (frame ∷ frames))) (sym next ∙ way.left) in
    (split.0, record { entered = omega arith; fits = (fits_moved top (frame ∷ frames) 0 way.fits).1; left = split.1 })

pub past_next : (job : Job) (source : Forest) (trail : List Frame) (name : List ℕ) (count : ℕ) → is_proper (pairtree_of source) ≡ true
    → current_entry trail ≡ Some (name, kind.Dir) → is_short name ≡ true
    → is_last (at_of (trail_path trail)) ≡ true → IsOnWay job source trail count
    → slice_get (sites_of (reach_of job) source) count ≡ Some (names_to trail, Past)
past_next job source [] name count proper e short last way = absurd (cc)
past_next job source (frame ∷ frames) name count proper e short last way =
    let path = names_to frames ++ name ∷ [] in
    let met = met_past (reach_of job) (names_to frames) name _ last in
    (passes_by job proper e short (ap is_listed met) way).0 ∙ ap (λ (v : Visit). Some (path, v)) met
    ∙ ap (λ (p : Path). Some (p, Past)) (sym (path_grows frame frames (name, kind.Dir) e))

pub deep_next : (job : Job) (source : Forest) (trail : List Frame) (name : List ℕ) (count : ℕ) → is_proper (pairtree_of source) ≡ true → is_trail trail ≡ true
    → current_entry trail ≡ Some (name, kind.Dir) → is_short name ≡ true
    → is_last (at_of (trail_path trail)) ≡ false → nat_lt job.limits.depth (length trail) ≡ true → IsOnWay job source trail count
    → slice_get (sites_of (reach_of job) source) count ≡ Some (names_to trail, Deep)
deep_next job source [] name count proper is_one e short last deep way = absurd (cc)
deep_next job source (frame ∷ frames) name count proper is_one e short last deep way =
    let path = names_to frames ++ name ∷ [] in
    let met = met_else (reach_of job) (names_to frames) name _ last (deep_as job.limits.depth frame frames is_one deep) in
    (passes_by job proper e short (ap is_listed met) way).0 ∙ ap (λ (v : Visit). Some (path, v)) met
    ∙ ap (λ (p : Path). Some (p, Deep)) (sym (path_grows frame frames (name, kind.Dir) e))

pub elsewhere_next : (job : Job) (source : Forest) (trail : List Frame) (name : List ℕ) (count : ℕ) → is_proper (pairtree_of source) ≡ true
    → is_trail trail ≡ true → current_entry trail ≡ Some (name, kind.Dir) → is_short name ≡ true
    → is_last (at_of (trail_path trail)) ≡ false → nat_lt job.limits.depth (length trail) ≡ false → walks job.share (names_to trail) ≡ false
    → IsOnWay job source trail count → slice_get (sites_of (reach_of job) source) count ≡ Some (names_to trail, Elsewhere)
elsewhere_next job source [] name count proper is_one e short last deep apart way = absurd (cc)
elsewhere_next job source (frame ∷ frames) name count proper is_one e short last deep apart way =
    let path = names_to frames ++ name ∷ [] in
    let here = path_grows frame frames (name, kind.Dir) e in
    let met = met_near (reach_of job) (names_to frames) name _ last (deep_as job.limits.depth frame frames is_one deep)
    (ap (walks job.share) (sym here) ∙ apart) in
    (passes_by job proper e short (ap is_listed met) way).0 ∙ ap (λ (v : Visit). Some (path, v)) met
    ∙ ap (λ (p : Path). Some (p, Elsewhere)) (sym here)

pub passes_past : (job : Job) {source : Forest} (trail : List Frame) {name : List ℕ} {count : ℕ} → is_proper (pairtree_of source) ≡ true
    → current_entry trail ≡ Some (name, kind.Dir) → is_short name ≡ true
    → is_last (at_of (trail_path trail)) ≡ true → IsOnWay job source trail count → IsOnWay job source (advanced trail) (suc count)
passes_past job [] proper e short last way = absurd (cc)
passes_past job {source} (frame ∷ frames) {name} proper e short last way =
    let inside = inside_at (pairtree_of source) (names_to frames ++ name ∷ []) in
    (passes_by job proper e short (ap is_listed (met_past (reach_of job) (names_to frames) name inside last)) way).1

pub passes_deep : (job : Job) {source : Forest} (trail : List Frame) {name : List ℕ} {count : ℕ} → is_proper (pairtree_of source) ≡ true → is_trail trail ≡ true
    → current_entry trail ≡ Some (name, kind.Dir) → is_short name ≡ true
    → is_last (at_of (trail_path trail)) ≡ false → nat_lt job.limits.depth (length trail) ≡ true → IsOnWay job source trail count
    → IsOnWay job source (advanced trail) (suc count)
passes_deep job [] proper is_one e short last deep way = absurd (cc)
passes_deep job {source} (frame ∷ frames) {name} proper is_one e short last deep way =
    let inside = inside_at (pairtree_of source) (names_to frames ++ name ∷ []) in
    (passes_by job proper e short (ap is_listed (met_else (reach_of job) (names_to frames) name inside last
    (deep_as job.limits.depth frame frames is_one deep)))
    way).1

pub passes_elsewhere : (job : Job) {source : Forest} (trail : List Frame) {name : List ℕ} {count : ℕ} → is_proper (pairtree_of source) ≡ true
    → is_trail trail ≡ true → current_entry trail ≡ Some (name, kind.Dir) → is_short name ≡ true
    → is_last (at_of (trail_path trail)) ≡ false → nat_lt job.limits.depth (length trail) ≡ false → walks job.share (names_to trail) ≡ false
    → IsOnWay job source trail count → IsOnWay job source (advanced trail) (suc count)
passes_elsewhere job [] proper is_one e short last deep apart way = absurd (cc)
passes_elsewhere job {source} (frame ∷ frames) {name} proper is_one e short last deep apart way =
    let inside = inside_at (pairtree_of source) (names_to frames ++ name ∷ []) in
    let here = path_grows frame frames (name, kind.Dir) e in
    (passes_by job proper e short (ap is_listed (met_near (reach_of job) (names_to frames) name inside last
    (deep_as job.limits.depth frame frames is_one deep) (ap (walks job.share) (sym here) ∙ apart))) way).1

pub enters_site : (job : Job) {source : Forest} (trail : List Frame) {name : List ℕ} {items : List Item} {count : ℕ} → is_proper (pairtree_of source) ≡ true
    → is_trail trail ≡ true → current_entry trail ≡ Some (name, kind.Dir) → is_short name ≡ true
    → is_last (at_of (trail_path trail)) ≡ false → nat_lt job.limits.depth (length trail) ≡ false → walks job.share (names_to trail) ≡ true
    → listing_at (pairtree_of source) (names_to trail) ≡ Some items
    → IsOnWay job source trail count → IsToJudge job source (entered items trail) count
enters_site job [] proper is_one e short last deep own listed way = absurd (cc)
enters_site job {source} (frame ∷ frames) {name} {items} {count} proper is_one e short last deep own listed way =
    let top = pairtree_of source in
    let reach = reach_of job in
    let trail = frame ∷ frames in
    let path = names_to frames ++ name ∷ [] in
    let here : names_to trail ≡ path = path_grows frame frames (name, kind.Dir) e in
    let met = met_near reach (names_to frames) name _ last (deep_as job.limits.depth frame frames is_one deep) (ap (walks job.share) (sym here) ∙ own) in
    let next = enters reach top frame frames name path (inside_at top path) proper way.fits e short refl refl met in
    let there = directory_there top frame frames name proper way.fits e in
    let items_are : listing_of (inside_at top path) ≡ items =
    some_same (listing_of (inside_at top path)) items (sym (ap (λ o. option_listing o) there) ∙ ap (listing_at top) (sym here) ∙ listed) in
    let split = split_left count (sites_of reach source) (path, Listed (inside_at top path))
    (sites_left reach top (entered (listing_of (inside_at top path)) trail)) (sym next ∙ way.left) in
    record {
      here = record { site = split.0 ∙ ap (λ (p : Path). Some (p, Listed (inside_at top p))) (sym here) };
      first = refl;
      way = record {
        entered = omega arith;
        fits = fits_entered top trail items way.fits listed;
        left = ap (λ (l : List Item). sites_left reach top (entered l trail)) (sym items_are) ∙ split.1;
      };
    }
  where
    option_listing : Option Forest → Option (List Item)
    option_listing None = None
    option_listing (Some f) = Some (listing_of f)

pub passes_entry : (job : Job) {source : Forest} (trail : List Frame) {item : Item} {count : ℕ} → is_proper (pairtree_of source) ≡ true
    → current_entry trail ≡ Some item → is_shorty item ≡ false
    → IsOnWay job source trail count → IsOnWay job source (advanced trail) count
passes_entry job [] proper e apart way = absurd (cc)
passes_entry job {source} (frame ∷ frames) {item} proper e apart way =
    let top = pairtree_of source in
    record {
      entered = omega arith;
      fits = (fits_moved top (frame ∷ frames) 0 way.fits).1;
      left = sym (passes_others (reach_of job) top frame frames item proper way.fits e apart) ∙ way.left;
    }

pub leaves_site : {job : Job} {source : Forest} (trail : List Frame) {count : ℕ} → current_entry trail ≡ None → nat_lt 1 (length trail) ≡ true
    → IsOnWay job source trail count → IsOnWay job source (advanced (parent trail)) count
leaves_site [] e long way = absurd (omega (arith, way.entered))
leaves_site (frame ∷ []) e long way = absurd (cc)
leaves_site {job} {source} (frame ∷ outer ∷ frames) e long way =
    let top = pairtree_of source in
    record {
      entered = omega arith;
      fits = (fits_moved top (outer ∷ frames) 0 way.fits.1).1;
      left = sym (leaves (reach_of job) top frame outer frames way.fits e) ∙ way.left;
    }

pub ends_walk : {job : Job} {source : Forest} (trail : List Frame) {count : ℕ} → current_entry trail ≡ None → nat_lt 1 (length trail) ≡ false
    → IsOnWay job source trail count → drop count (sites_of (reach_of job) source) ≡ []
ends_walk [] e short way = absurd (omega (arith, way.entered))
ends_walk {job} {source} (frame ∷ []) e short way = sym way.left ∙ ends (reach_of job) (pairtree_of source) frame way.fits e
ends_walk (frame ∷ outer ∷ frames) e short way = absurd (let few = ltb-false 1 (length (frame ∷ outer ∷ frames)) short in omega (arith, few))

-- ---- whether an item ends

-- at a shorty one does
pub done_at_shorty : (trail : List Frame) (name : List ℕ) (count : ℕ) → current_entry trail ≡ Some (name, kind.Dir) → is_short name ≡ true
    → done_after phase.Walk trail phase.Walk count ≡ suc count
done_at_shorty trail name count e short = ap (λ (o : Option Item). cond (is_shorty_there o) (suc count) count) e ∙ ap (λ b. cond b (suc count) count) short

-- elsewhere none
pub none_at_entry : (trail : List Frame) (item : Item) (count : ℕ) → current_entry trail ≡ Some item → is_shorty item ≡ false
    → done_after phase.Walk trail phase.Walk count ≡ count
none_at_entry trail item count e apart = ap (λ (o : Option Item). cond (is_shorty_there o) (suc count) count) e ∙ ap (λ b. cond b (suc count) count) apart

pub none_at_end : (trail : List Frame) (count : ℕ) → current_entry trail ≡ None → done_after phase.Walk trail phase.Walk count ≡ count
none_at_end trail count e = ap (λ (o : Option Item). cond (is_shorty_there o) (suc count) count) e

-- ---- each turn

abbrev AtWalk : Job → List ℕ → Held → ℕ → Reading → Type 0
AtWalk job prefix held count s = HoldsNoObject held × HasStarted s.tree prefix × IsOnWay job s.tree held.trail count

-- the trail moves on, and so many items are done
walked : {job : Job} {s new : Reading} {prefix : List ℕ} {held : Held} {trail : List Frame} (n : ℕ) {count : ℕ} → n ≡ count → Some new ≡ Some s
    → HoldsNoObject held → HasStarted s.tree prefix → IsOnWay job s.tree trail count
    → AtWalk job prefix (with_trail held trail) n new
walked {job} {s} {prefix} {held} {trail} n done same none started way =
    stays (AtWalk job prefix (with_trail held trail) n) same
    (record { rows = none.rows; contents = none.contents }, started, rw done way)

-- a site is entered
at_site : (job : Job) {s new : Reading} {prefix : List ℕ} (held : Held) {trail : List Frame} {count : ℕ} → Some new ≡ Some s → held.rows ≡ []
    → held.contents ≡ [] → HasStarted s.tree prefix → IsToJudge job s.tree trail count
    → HoldsNoObject (with_trail held trail) × HasStarted new.tree prefix × IsToJudge job new.tree trail count
at_site job {prefix} held {trail} {count} same rows contents started site =
    stays (λ r. HoldsNoObject (with_trail held trail) × HasStarted r.tree prefix × IsToJudge job r.tree trail count) same
    (record { rows = rows; contents = contents }, started, site)

pub walks_keep : (job : Job) (s new : Reading) {prefix : List ℕ} (count : ℕ) {here next : Phase} {held after : Held} {calls : Calls}
    → is_proper s.tree ≡ true → is_trail held.trail ≡ true → WalkStep job prefix here held after calls (Ok next) → SourceAt job s prefix count here held
    → Answers calls.asked (Some s) (Some new) → SourceAt job new prefix (done_after here held.trail next count) next after
unfolding Answers IsListed
walks_keep job s new count proper is_one (OpensRoot was items) at answers =
    let listed : listing_at (pairtree_of s.tree) [] ≡ Some items = sym (listing_in s.tree [] at.2.store) ∙ answers.0 s refl in
    at_site job was answers.2 at.0.rows at.0.contents at.2 (opens_root job s.tree was.trail items at.2.store at.0.trail at.1 listed)
walks_keep job s new {prefix} count {after} proper is_one (IsNew was index id is) at answers =
    let object = new_object job id index was.trail in
    let it = new_object_there job s.tree prefix was.trail index id count (pairtree_proper s.tree at.1.store proper) is at.2 in
    stays (λ r. HoldsNoObject after × HasStarted r.tree prefix × IsInObject job r.tree prefix object after.trail count × (length after.trail ≡ length was.trail)
    × (object.empty ≡ 0)) answers
    (record { rows = at.0.rows; contents = at.0.contents }, at.1, it.stands, it.at_site, refl)
walks_keep job s new count proper is_one (IsPast was name e short last) at answers =
    walked _ (done_at_shorty was.trail name count e short) answers at.0 at.1
    (passes_past job was.trail (pairtree_proper s.tree at.1.store proper) e short last at.2)
walks_keep job s new count proper is_one (IsDeep was name e short last deep) at answers =
    walked _ (done_at_shorty was.trail name count e short) answers at.0 at.1
    (passes_deep job was.trail (pairtree_proper s.tree at.1.store proper) is_one e short last deep at.2)
walks_keep job s new count proper is_one (PassesElsewhere was name e short last deep apart) at answers =
    walked _ (done_at_shorty was.trail name count e short) answers at.0 at.1
    (passes_elsewhere job was.trail (pairtree_proper s.tree at.1.store proper) is_one e short last deep apart at.2)
walks_keep job s new count proper is_one (EntersSite was name items e short last deep own) at answers =
    let listed : listing_at (pairtree_of s.tree) (names_to was.trail) ≡ Some items = sym (listing_in s.tree (names_to was.trail) at.1.store)
    ∙ answers.0 s refl in
    at_site job was answers.2 at.0.rows at.0.contents at.1 (enters_site job was.trail (pairtree_proper s.tree at.1.store proper) is_one e short last deep own
    listed at.2)
walks_keep job s new count proper is_one (PassesEntry was item e apart) at answers =
    walked _ (none_at_entry was.trail item count e apart) answers at.0 at.1 (passes_entry job was.trail (pairtree_proper s.tree at.1.store proper) e apart at.2)
walks_keep job s new count proper is_one (LeavesSite was e long) at answers =
    walked _ (none_at_end was.trail count e) answers at.0 at.1 (leaves_site was.trail e long at.2)
walks_keep job s new {prefix} count proper is_one (EndsWalk was e short) at answers =
    stays (λ r. HoldsNoObject was × HasStarted r.tree prefix × (drop count (sites_of (reach_of job) r.tree) ≡ [])) answers
    (at.0, at.1, ends_walk was.trail e short at.2)
walks_keep job s new {prefix} count {after} proper is_one judged at answers = stays (AtWalk job prefix after (suc count)) answers (at.0, at.1, at.2.way)
