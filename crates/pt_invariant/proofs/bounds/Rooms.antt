-- How much is held as the trail moves.
use Rattle.std.proofs.Common.{
  ◌≡◌,
  ◌<◌,
  ◌≤◌,
  ◌+◌,
  ℕ,
  zero,
  suc,
  true,
  false,
  List,
  [],
  ◌∷◌,
  ◌++◌,
  refl,
  ap,
  sym,
  ◌∙◌,
  subst,
  append_assoc,
  arith,
  drop,
  length,
  map,
}
use Rattle.std.specs.Prelude.{Some, nat_lt}
use Rattle.std.specs.Option.{option_map}
use Rattle.std.proofs.lemmas.List.{length-map}
use Rattle.pt_object.specs.Distinct.{content_of_row, distinct}
use Rattle.pt_object.specs.Object.{row_of_file, rows_of}
use Rattle.pt_object.specs.declared.rows.Row.{Row}
use Rattle.pt_tree.specs.Forest.{Forest, Dir, is_proper, listing_at, listing_of}
use Rattle.pt_tree.specs.Listing.{Item}
use Rattle.pt_tree.specs.Path.{Path}
use Rattle.pt_tree.specs.declared.kind.Kind.TheVariants as kind
use Rattle.pt_walk.proofs.TrailSteps.{directory_there, holds_listed, path_grows}
use Rattle.pt_walk.proofs.BadEntries.{grow}
use Rattle.pt_walk.specs.Left.{Fits, inside_at, listed}
use Rattle.pt_walk.specs.Object.{Entry, entry_cause, files}
use Rattle.pt_walk.specs.Sites.{Listed}
use Rattle.pt_walk.specs.Trail.{advanced, current_entry, entered, entries_held, is_trail, names_to, parent, sought, trail_path}
use Rattle.pt_walk.specs.declared.frame.Frame.{Frame}
use Rattle.pt_plan.specs.Bound.{bound, dirs, records_of, scanned}
use Rattle.pt_plan.specs.Items.{PairtreeObject, verdict_of}
use Rattle.pt_plan.specs.Job.{Job}
use Rattle.pt_plan.specs.Run.{Held}
use Rattle.pt_plan.specs.Store.{pairtree_of}
use Rattle.pt_plan.specs.TurnScan.{is_passed, logical_path, own_listings, to_site}
use Rattle.pt_plan.specs.declared.object.Object.{Object}
use Rattle.pt_invariant.specs.SourceInvariant.{HasRoom, HasScanned, HasStarted, IsScanning, IsToJudge, left_of, object_at}
use Rattle.pt_invariant.proofs.bounds.Bounds.{IsOne, front_records, object_within, one_directory, site_within}
use Rattle.pt_invariant.proofs.source.InObject.{path_in_object, path_length}
use Rattle.pt_invariant.proofs.source.InPairtree.{some_same}
use Rattle.pt_invariant.proofs.source.ScanSteps.{left_directory}
use Rattle.pt_invariant.proofs.source.ScanEnters.{no_cause_dir}

-- ---- the trail alone

pub entries_advanced : (t : List Frame) → entries_held (advanced t) ≡ entries_held t
entries_advanced [] = refl
entries_advanced (_ ∷ _) = refl

pub entries_sought : (place : ℕ) (t : List Frame) → entries_held (sought place t) ≡ entries_held t
entries_sought _ [] = refl
entries_sought _ (_ ∷ _) = refl

pub entries_parent : (t : List Frame) → entries_held (parent t) ≤ entries_held t
entries_parent [] = omega arith
entries_parent (frame ∷ frames) = omega arith

pub entries_dropped : (n : ℕ) (t : List Frame) → entries_held (drop n t) ≤ entries_held t
entries_dropped zero t = omega arith
entries_dropped (suc n) [] = omega arith
entries_dropped (suc n) (frame ∷ frames) = let later = entries_dropped n frames in omega (arith, later)

-- the trail lists what the directories down to its innermost one list
lists : (top : Forest) (t : List Frame) → 0 < length t → is_trail t ≡ true → Fits top t → entries_held t ≡ listed top (trail_path t)
lists top [] some is_one fits = absurd (omega (arith, some))
lists top (frame ∷ frames) _ is_one fits = holds_listed top frame frames is_one fits

-- ---- at a site

pub room_at_site : (job : Job) (source : Forest) (t : List Frame) (count : ℕ) → is_trail t ≡ true → IsToJudge job source t count
    → entries_held t ≤ bound job source
room_at_site job source t count is_one it =
    let same = lists (pairtree_of source) t it.way.entered is_one it.way.fits in
    let within = site_within job source count it.here.site in
    omega (arith, same, within)

-- ---- in an object

pub room_at : (job : Job) (source : Forest) (prefix : List ℕ) (object : Object) (held : Held) (count : ℕ) (directory : Path) → HasStarted source prefix
    → IsScanning job source prefix object held count → is_trail held.trail ≡ true
    → trail_path held.trail ≡ (object_at source object (to_site object held.trail)).at ++ directory
    → IsOne directory ([] ∷ dirs (scanned job.limits (object_at source object (to_site object held.trail))))
    → HasRoom job source object held
room_at job source prefix object held count directory started it is_one path one =
    let site = to_site object held.trail in
    let what = object_at source object site in
    let some = it.stands.some in
    let long = it.stands.within in
    let same = lists (pairtree_of source) held.trail (omega (arith, some, long)) is_one it.stands.fits ∙ ap (listed (pairtree_of source)) path in
    let named = ap (λ (p : List ℕ). verdict_of job p (trail_path site) (Listed (inside_at (pairtree_of source) (trail_path site)))) (sym started.read)
    ∙ it.stands.site.named in
    let within = object_within job source count it.stands.site.here.site named it.scanned.shallow one in
    omega (arith, same, within)

-- with the trail moved so that it lists no more, in the same object
pub room_moved : (job : Job) (source : Forest) (object : Object) (held new : Held)
    → object_at source object (to_site object held.trail) ≡ object_at source object (to_site object new.trail)
    → entries_held new.trail ≤ entries_held held.trail
    → HasRoom job source object held → HasRoom job source object new
room_moved job source object held new same less room =
    subst (λ (o : PairtreeObject). entries_held new.trail + records_of job (files (scanned job.limits o)) ≤ bound job source) same (omega (arith, less, room))

-- the directory that is entered is one that was scanned
pub directory_scanned : (job : Job) (source : Forest) (object : Object) (rows : List Row) (empty : ℕ) (t : List Frame) (name : List ℕ) (items : List Item)
    → is_proper (pairtree_of source) ≡ true → is_trail t ≡ true
    → current_entry t ≡ Some (name, kind.Dir) → is_passed object t (name, kind.Dir) ≡ false → nat_lt job.limits.depth (length t) ≡ false
    → listing_at (pairtree_of source) (names_to t) ≡ Some items
    → Fits (pairtree_of source) t → object.site ≤ length t → 0 < own_listings object t
    → HasScanned job (object_at source object (to_site object t)) rows empty (left_of source object t)
    → IsOne (logical_path object t) ([] ∷ dirs (scanned job.limits (object_at source object (to_site object t))))
directory_scanned job source object rows empty [] name items proper is_one e apart shallow listing fits within own it = absurd (cc)
directory_scanned job source object rows empty (frame ∷ frames) name items proper is_one e apart shallow listing fits within own it =
    let top = pairtree_of source in
    let t = frame ∷ frames in
    let path = names_to frames ++ name ∷ [] in
    let in_it = inside_at top path in
    let here : names_to t ≡ path = path_grows frame frames (name, kind.Dir) e in
    let there = directory_there top frame frames name proper fits e in
    let items_are : listing_of in_it ≡ items = some_same _ items (sym (ap (option_map listing_of) there) ∙ ap (listing_at top) (sym here) ∙ listing) in
    let what = object_at source object (to_site object t) in
    let left = left_directory source object frame frames name items in_it proper fits within own e apart refl items_are in
    let none = no_cause_dir job what.at (logical_path object t) (names_to t) rows t in_it (path_in_object object t) (path_length frame frames _ is_one e)
    shallow in
    let many : 0 + length (files it.front) ≡ length rows = (let long : length rows ≡ length (files it.front) = ap length it.rows_are
    ∙ length-map (files it.front) (row_of_file job.algorithm) in omega (arith, long)) in
    let entry : Entry = (logical_path object t, Dir in_it) in
    one_directory job what it.front (left_of source object (entered items t)) in_it
    (it.all ∙ ap (λ (l : List Entry). it.front ++ l) left ∙ sym (append_assoc it.front (entry ∷ []) (left_of source object (entered items t))))
    (grow job.limits (length what.at) 0 it.front entry it.good (ap (λ (n : ℕ). entry_cause job.limits (length what.at) n entry) many ∙ none))

-- what is held of an object is no more than the records of its files
pub records_held : (job : Job) (object : PairtreeObject) (held : Held) (empty : ℕ) (left : List Entry) → held.contents ≡ map content_of_row (distinct held.rows)
    → HasScanned job object held.rows empty left
    → length held.rows + length held.contents ≤ records_of job (files (scanned job.limits object))
records_held job object held empty left contents it =
    let one : length held.rows ≡ length (files it.front) = ap length it.rows_are ∙ length-map (files it.front) (row_of_file job.algorithm) in
    let two : length held.contents ≡ length (distinct (rows_of job.algorithm (files it.front))) =
    ap length contents ∙ length-map (distinct held.rows) content_of_row ∙ ap (λ (l : List Row). length (distinct l)) it.rows_are in
    let fewer = front_records job object it.front left it.all it.good in
    omega (arith, one, two, fewer)
