-- Where the scan enters a directory, or begins in the site, what holds of the object's entries goes on.
use Rattle.std.proofs.Common.{◌≡◌, ◌<◌, ℕ, suc, ◌+◌, ◌&&◌, true, false, List, [], ◌∷◌, ◌++◌, refl, ap, sym, ◌∙◌, cond, length, arith, append-nil}
use Rattle.std.specs.Prelude.{Option, None, Some, nat_lt, not}
use Rattle.std.specs.Option.{option_map}
use Rattle.std.proofs.lemmas.List.{length-append}
use Rattle.pt_object.specs.declared.rows.Row.{Row}
use Rattle.pt_tree.specs.Forest.{Forest, none, file, other, dir, Dir, File, is_proper, listing_at, listing_of}
use Rattle.pt_tree.specs.Listing.{Item}
use Rattle.pt_tree.specs.Path.{Path}
use Rattle.pt_tree.specs.declared.kind.Kind.TheVariants as kind
use Rattle.pt_walk.proofs.ObjectSteps as step
use Rattle.pt_walk.proofs.TrailSteps.{directory_there, path_grows}
use Rattle.pt_walk.specs.Left.{entries_left, inside_at}
use Rattle.pt_walk.specs.Object.{Entry, emptiness, entries, entry_cause, without_shorties}
use Rattle.pt_walk.specs.Trail.{current_entry, entered, is_dir_entry, is_trail, names_to, sought}
use Rattle.pt_walk.specs.declared.cause.Cause.TheVariants as cause
use Rattle.pt_walk.specs.declared.frame.Frame.{Frame}
use Rattle.pt_invariant.specs.SourceInvariant.{HasScanned, IsInObject, IsScanning, inside_object, left_of, object_at}
use Rattle.pt_plan.specs.Items.{PairtreeObject}
use Rattle.pt_plan.specs.Job.{Job}
use Rattle.pt_plan.specs.Run.{Held, with_trail}
use Rattle.pt_plan.specs.Store.{pairtree_of}
use Rattle.pt_plan.specs.TurnMake.{path_of_source}
use Rattle.pt_plan.specs.TurnScan.{is_passed, none_listed, own_listings, to_site, with_directory}
use Rattle.pt_plan.specs.declared.object.Object.{Object}
use Rattle.pt_invariant.proofs.source.InObject.{own_at_site, own_entered, path_in_object, path_length, scans_more, scans_same, site_itself, still_counted}
use Rattle.pt_invariant.proofs.source.InPairtree.{some_same}
use Rattle.pt_invariant.proofs.source.ScanSteps.{left_directory, moved_at_site, moved_in}

none_is : (f : Forest) → none_listed (listing_of f) ≡ emptiness f
none_is none = refl
none_is (file name bytes after) = refl
none_is (other name after) = refl
none_is (dir name inside after) = refl

pub scanned_as : {job : Job} {object other : PairtreeObject} {rows : List Row} {empty : ℕ} {left : List Entry} → object ≡ other
    → HasScanned job object rows empty left → HasScanned job other rows empty left
scanned_as {job} {rows} {empty} {left} same it = rw same at it

-- there is no cause against a directory that isn't too deep
pub no_cause_dir : (job : Job) (at path whole : Path) (rows : List Row) (trail : List Frame) (inside : Forest) → whole ≡ at ++ path
    → length whole ≡ length trail → nat_lt job.limits.depth (length trail) ≡ false
    → entry_cause job.limits (length at) (length rows) (path, Dir inside) ≡ None
no_cause_dir job at path whole rows trail inside is long shallow =
    let sum : length at + length path ≡ length trail = sym (ap length is ∙ length-append at path) ∙ long in
    ap (λ (n : ℕ). cond (nat_lt job.limits.depth n) (Some cause.Limit) None) sum ∙ ap (λ b. cond b (Some cause.Limit) None) shallow

pub enters_directory : (job : Job) {source : Forest} {prefix : List ℕ} {object : Object} (held : Held) (trail : List Frame) {name : List ℕ} {items : List Item}
    {count : ℕ}
    → is_proper (pairtree_of source) ≡ true → is_trail trail ≡ true → current_entry trail ≡ Some (name, kind.Dir)
    → is_passed object trail (name, kind.Dir) ≡ false
    → nat_lt job.limits.depth (length trail) ≡ false → listing_at (pairtree_of source) (names_to trail) ≡ Some items
    → IsInObject job source prefix object trail count → 0 < own_listings object trail
    → HasScanned job (object_at source object (to_site object trail)) held.rows object.empty (left_of source object trail)
    → IsScanning job source prefix (with_directory object items) (with_trail held (entered items trail)) count
enters_directory job held [] proper is_one e apart shallow listed stands inside scanned = absurd (cc)
enters_directory job {source} {object} held (frame ∷ frames) {name} {items} proper is_one e apart shallow listed stands inside scanned =
    let top = pairtree_of source in
    let trail = frame ∷ frames in
    let path = names_to frames ++ name ∷ [] in
    let in_it = inside_at top path in
    let here : names_to trail ≡ path = path_grows frame frames (name, kind.Dir) e in
    let there = directory_there top frame frames name proper stands.fits e in
    let items_are : listing_of in_it ≡ items = some_same (listing_of in_it) items (sym (ap (option_map listing_of) there) ∙ ap (listing_at top) (sym here)
    ∙ listed) in
    let left = left_directory source object frame frames name items in_it proper stands.fits stands.within inside e apart refl items_are in
    let object_is = object_at source object (to_site object trail) in
    let none_cause = no_cause_dir job object_is.at _ _ held.rows trail in_it (path_in_object object trail) (path_length frame frames _ is_one e) shallow in
    let empty_is : none_listed items ≡ emptiness in_it = ap none_listed (sym items_are) ∙ none_is in_it in
    let more : object.empty + none_listed items ≡ object.empty + (emptiness in_it + 0) = omega (arith, empty_is) in
    let step_in = moved_in listed stands in
    let grown = own_entered object items trail stands.within in
    let next = scans_more job none_cause more
    (scans_same left scanned) in
    record {
      stands = still_counted _ step_in.stands;
      inside = omega (arith, grown);
      scanned =
          scanned_as step_in.same
          (rw (append-nil held.rows) at next);
    }

-- ---- the object is entered

pub dir_entry : (o : Option Item) → is_dir_entry o ≡ true → (name : List ℕ) × (o ≡ Some (name, kind.Dir))
dir_entry None is = absurd (cc)
dir_entry (Some (name, kind.File)) is = absurd (cc)
dir_entry (Some (name, kind.Dir)) is = (name, refl)
dir_entry (Some (name, kind.Other)) is = absurd (cc)

pub enters_object : (job : Job) {source : Forest} {prefix : List ℕ} {object : Object} (held : Held) (trail : List Frame) {items : List Item} {count : ℕ}
    → is_proper (pairtree_of source) ≡ true → is_trail trail ≡ true → object.gathered ≡ false → nat_lt job.limits.depth (length trail) ≡ false
    → listing_at (pairtree_of source) (names_to trail) ≡ Some items
    → IsInObject job source prefix object trail count → length trail ≡ object.site → object.empty ≡ 0 → held.rows ≡ []
    → IsScanning job source prefix (with_directory object items) (with_trail held (entered items trail)) count
enters_object job held [] proper is_one apart shallow listed stands at_site empty none_held = absurd (let some = stands.some in omega (arith, some, at_site))
enters_object job {source} {object} held (frame ∷ frames) {items} proper is_one apart shallow listed stands at_site empty none_held =
    let top = pairtree_of source in
    let trail = frame ∷ frames in
    let site = site_itself object trail at_site in
    let entry = dir_entry _ (sym (ap (λ (t : List Frame). is_dir_entry (current_entry t)) site) ∙ stands.site.leads apart) in
    let name = entry.0 in
    let e = entry.1 in
    let path = names_to frames ++ name ∷ [] in
    let in_it = inside_at top path in
    let here : names_to trail ≡ path = path_grows frame frames (name, kind.Dir) e in
    let there = directory_there top frame frames name proper stands.fits e in
    let items_are : listing_of in_it ≡ items = some_same (listing_of in_it) items (sym (ap (option_map listing_of) there) ∙ ap (listing_at top) (sym here)
    ∙ listed) in
    let own : own_listings object (entered items trail) ≡ 1 = own_entered object items trail stands.within
    ∙ ap (λ (n : ℕ). suc n) (own_at_site object trail at_site ∙ ap (λ b. cond b 1 0) apart) in
    let object_is = object_at source object (to_site object trail) in
    let inside_is : object_is.inside ≡ in_it =
    ap (λ (t : List Frame). inside_object source object t) site ∙ ap (λ b. cond b (without_shorties (inside_at top (names_to frames)))
    (inside_at top (names_to trail))) apart ∙ ap (inside_at top) here in
    let at_is : object_is.at ≡ names_to trail = ap (path_of_source object) site ∙ ap (λ b. cond b (names_to frames) (names_to trail)) apart in
    let long = path_length frame frames _ is_one e in
    let left : left_of source object (entered items trail) ≡ entries in_it =
    ap (λ (n : ℕ). entries_left object.gathered top n (entered items trail)) own
    ∙ ap (λ b. entries_left b top 1 (entered items trail)) apart
    ∙ ap (λ (l : List Item). entries_left false top 1 (entered l trail)) (sym items_are)
    ∙ step.starts top frame frames name in_it e refl in
    let empty_is : none_listed items ≡ emptiness in_it = ap none_listed (sym items_are) ∙ none_is in_it in
    let emptier : emptiness object_is.inside ≡ emptiness in_it = ap emptiness inside_is in
    let step_in = moved_in listed stands in
    let first : HasScanned job object_is held.rows (object.empty + none_listed items) (left_of source object (entered items trail)) = record {
      shallow = ap (λ b. not b && nat_lt job.limits.depth (length object_is.at)) apart ∙ ap (λ (n : ℕ). nat_lt job.limits.depth n) (ap length at_is ∙ long)
          ∙ shallow;
      front = [];
      all = ap entries inside_is ∙ sym left;
      good = refl;
      rows_are = none_held;
      empty_is = omega (arith, empty, empty_is, emptier);
    } in
    record {
      stands = still_counted _ step_in.stands;
      inside = omega (arith, own);
      scanned = scanned_as step_in.same first;
    }

pub starts_in_site : (job : Job) {source : Forest} {prefix : List ℕ} {object : Object} (held : Held) (trail : List Frame) {count : ℕ}
    → object.gathered ≡ true → IsInObject job source prefix object trail count → length trail ≡ object.site → object.empty ≡ 0 → held.rows ≡ []
    → IsScanning job source prefix object (with_trail held (sought 0 trail)) count
starts_in_site job held [] gathered stands at_site empty none_held = absurd (let some = stands.some in omega (arith, some, at_site))
starts_in_site job {source} {prefix} {object} held (frame ∷ frames) {count} gathered stands at_site empty none_held =
    let top = pairtree_of source in
    let trail = frame ∷ frames in
    let site = site_itself object trail at_site in
    let own : own_listings object (sought 0 trail) ≡ 1 = own_at_site object (sought 0 trail) at_site ∙ ap (λ b. cond b 1 0) gathered in
    let object_is = object_at source object (to_site object trail) in
    let inside_is : object_is.inside ≡ without_shorties (inside_at top (names_to frames)) =
    ap (λ (t : List Frame). inside_object source object t) site ∙ ap (λ b. cond b (without_shorties (inside_at top (names_to frames)))
    (inside_at top (names_to trail))) gathered in
    let left : left_of source object (sought 0 trail) ≡ entries (without_shorties (inside_at top (names_to frames))) =
    ap (λ (n : ℕ). entries_left object.gathered top n (sought 0 trail)) own
    ∙ ap (λ b. entries_left b top 1 (sought 0 trail)) gathered
    ∙ step.starts_gathered top frame frames in
    let filled = stands.site.filled gathered in
    let step_to = moved_at_site job source prefix object trail 0 count gathered at_site stands in
    let first : HasScanned job object_is held.rows object.empty (left_of source object (sought 0 trail)) = record {
      shallow = ap (λ b. not b && nat_lt job.limits.depth (length object_is.at)) gathered;
      front = [];
      all = ap entries inside_is ∙ sym left;
      good = refl;
      rows_are = none_held;
      empty_is = omega (arith, empty, filled);
    } in
    record {
      stands = step_to.stands;
      inside = omega (arith, own);
      scanned = scanned_as step_to.same first;
    }
