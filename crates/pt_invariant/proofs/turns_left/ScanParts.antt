-- What of an object is still to scan, from entry to entry.
use Rattle.std.proofs.Common.{
  ◌≡◌,
  ◌<◌,
  ◌≤◌,
  ◌-◌,
  ℕ,
  zero,
  suc,
  ◌+◌,
  Bool,
  true,
  false,
  List,
  [],
  ◌∷◌,
  ◌++◌,
  refl,
  ap,
  sym,
  ◌∙◌,
  append-nil,
  arith,
  cond,
  drop,
  length,
}
use Rattle.std.specs.Prelude.{Option, None, Some, is_none, nat_le, nat_lt, option_to_list, sum_by, ◌||◌}
use Rattle.std.specs.Option.{option_map}
use Rattle.std.proofs.lemmas.Bool.{and_parts, eqb-true}
use Rattle.std.proofs.lemmas.List.{length-map}
use Rattle.std.proofs.lemmas.List.Sums.{sum_by-cons}
use Rattle.std.proofs.lemmas.Option.{slice_get_within}
use Rattle.pt_object.proofs.ObjectScripts.{in_order_apart}
use Rattle.pt_object.specs.Algorithm.{digest_of}
use Rattle.pt_object.specs.FilePaths.{File as a_file, row_paths}
use Rattle.pt_object.specs.Object.{row_of_file, rows_of}
use Rattle.pt_object.specs.Scripts.{script_of}
use Rattle.pt_object.specs.declared.rows.Row.{Row}
use Rattle.pt_tree.specs.Forest.{Forest, Dir, File, Other, is_proper, listing_at, listing_of}
use Rattle.pt_tree.specs.Listing.{Item}
use Rattle.pt_tree.specs.Path.{Path, joined}
use Rattle.pt_tree.specs.declared.kind.Kind.TheVariants as kind
use Rattle.pt_walk.proofs.TrailSteps.{directory_there, path_grows}
use Rattle.pt_walk.specs.Left.{Fits, bytes_at, inside_at}
use Rattle.pt_walk.specs.Site.{is_shorty}
use Rattle.pt_walk.specs.Limits.{Bounds}
use Rattle.pt_walk.specs.Object.{Entry, bad_or, before_bad, entries, entry_cause, files, files_with, first_bad}
use Rattle.pt_walk.specs.Trail.{advanced, current_entry, entered, is_trail, names_to, parent, sought, trail_path}
use Rattle.pt_walk.specs.declared.cause.Cause.{Cause}
use Rattle.pt_walk.specs.declared.frame.Frame.{Frame}
use Rattle.pt_plan.specs.Bound.{scanned}
use Rattle.pt_plan.specs.Items.{PairtreeObject, bad_entry, is_too_deep, outcome}
use Rattle.pt_plan.specs.Job.{Job}
use Rattle.pt_plan.specs.Run.{Held}
use Rattle.pt_plan.specs.Store.{pairtree_of}
use Rattle.pt_plan.specs.TurnScan.{is_in_site, is_passed, logical_path, own_listings, to_site}
use Rattle.pt_plan.specs.Work.{met, reads, work_at, work_by_outcome, work_to_copy, work_to_make}
use Rattle.pt_plan.specs.declared.object.Object.{Object}
use Rattle.pt_invariant.specs.HeldInvariant.{AreRows}
use Rattle.pt_invariant.specs.SourceInvariant.{AreHeldThere, HasScanned, left_of, object_at}
use Rattle.pt_invariant.specs.PartsMade.{script_of_object}
use Rattle.pt_invariant.specs.History.{files_held}
use Rattle.pt_invariant.proofs.source.InObject.{is_gathered, own_at_site, own_entered, own_parent, path_in_object, path_length, site_itself, site_parent}
use Rattle.pt_invariant.proofs.source.InPairtree.{some_same}
use Rattle.pt_invariant.proofs.held.OwnFiles.{own_files}
use Rattle.pt_invariant.proofs.items.PlacesTell.{comes_whole, files_are}
use Rattle.pt_invariant.proofs.source.ScanSteps.{left_directory, left_file}
use Rattle.pt_invariant.proofs.source.ScanEnters.{no_cause_dir}
use Rattle.pt_invariant.proofs.source.ScansKeep.{no_cause_file}
use Rattle.pt_invariant.specs.Rank.{bytes_there, still_here, still_listed, to_copy_from, to_leave, to_meet, to_meet_behind}
use Rattle.pt_invariant.proofs.turns_left.Copying.{copies_all}
use Rattle.pt_invariant.proofs.turns_left.WalksLower.{listed_there}

-- ---- the entries

-- the first, and those behind it
pub meets_first : (limits : Bounds) (depth held : ℕ) (entry : Entry) (others : List Entry)
    → to_meet limits depth held (entry ∷ others) ≡ work_at entry.1 + to_meet_behind limits depth held (entry ∷ others)
meets_first _ _ _ _ _ = refl

-- unless it is bad
pub meets_good : (limits : Bounds) (depth held : ℕ) (entry : Entry) (others : List Entry) → entry_cause limits depth held entry ≡ None
    → to_meet_behind limits depth held (entry ∷ others) ≡ to_meet limits depth (files_with held entry) others
meets_good limits depth held entry others good = ap (λ (c : Option Cause). cond (is_none c) (to_meet limits depth (files_with held entry) others) 0) good

-- they are the entries up to the first bad one
abbrev up_to_bad : Bounds → ℕ → ℕ → List Entry → List Entry
up_to_bad limits depth held some = before_bad limits depth held some ++ option_to_list
    (option_map (λ (bad : Entry × Cause). bad.0) (first_bad limits depth held some))

meets_those : (limits : Bounds) (depth held : ℕ) (some : List Entry) → sum_by (λ (entry : Entry). work_at entry.1) (up_to_bad limits depth held some)
    ≡ to_meet limits depth held some
meets_those _ _ _ [] = refl
meets_those limits depth held (entry ∷ others) = by (entry_cause limits depth held entry) (meets_those limits depth (files_with held entry) others)
  where
    cost : Entry → ℕ
    cost entry = work_at entry.1

    by : (c : Option Cause) → sum_by (λ (entry : Entry). work_at entry.1) (up_to_bad limits depth (files_with held entry) others)
        ≡ to_meet limits depth (files_with held entry) others
        → sum_by (λ (entry : Entry). work_at entry.1)
        (cond (is_none c) (entry ∷ before_bad limits depth (files_with held entry) others) []
        ++ option_to_list (option_map (λ (bad : Entry × Cause). bad.0) (bad_or c entry (first_bad limits depth (files_with held entry) others))))
        ≡ work_at entry.1 + cond (is_none c) (to_meet limits depth (files_with held entry) others) 0
    by None later = sum_by-cons (λ (entry : Entry). work_at entry.1) entry (up_to_bad limits depth (files_with held entry) others)
        ∙ ap (λ (n : ℕ). work_at entry.1 + n) later
    by (Some why) later = sum_by-cons (λ (entry : Entry). work_at entry.1) entry []

pub meets_all : (limits : Bounds) (object : PairtreeObject) → is_too_deep limits object ≡ false
    → sum_by (λ (entry : Entry). work_at entry.1) (met limits object) ≡ to_meet limits (length object.at) 0 (entries object.inside)
meets_all limits object shallow =
    ap (λ b. sum_by (λ (entry : Entry). work_at entry.1) (cond b [] (scanned limits object
    ++ option_to_list (option_map (λ (bad : Entry × Cause). bad.0) (bad_entry limits object))))) shallow
    ∙ meets_those limits (length object.at) 0 (entries object.inside)

-- of entries without a cause no more is left behind
meets_behind : (limits : Bounds) (depth held : ℕ) (front left : List Entry) → first_bad limits depth held front ≡ None
    → to_meet limits depth (held + length (files front)) left ≤ to_meet limits depth held (front ++ left)
meets_behind limits depth held [] left good =
    let none : held + 0 ≡ held = omega arith in
    let same = ap (λ (n : ℕ). to_meet limits depth n left) none in
    omega (arith, same)
meets_behind limits depth held (entry ∷ front) left good = by (entry_cause limits depth held entry)
    (λ later. meets_behind limits depth (files_with held entry) front left later) good
  where
    more : (e : Entry) → files_with held e + length (files front) ≡ held + length (files (e ∷ front))
    more (path, File bytes) = omega arith
    more (path, Dir inside) = omega arith
    more (path, Other) = omega arith

    by : (c : Option Cause) → (first_bad limits depth (files_with held entry) front ≡ None
        → to_meet limits depth (files_with held entry + length (files front)) left ≤ to_meet limits depth (files_with held entry) (front ++ left))
        → bad_or c entry (first_bad limits depth (files_with held entry) front) ≡ None
        → to_meet limits depth (held + length (files (entry ∷ front))) left ≤ work_at entry.1
        + cond (is_none c) (to_meet limits depth (files_with held entry) (front ++ left)) 0
    by None all good =
        let later = all good in
        let same = ap (λ (n : ℕ). to_meet limits depth n left) (more entry) in
        omega (arith, later, same)
    by (Some why) all good = absurd (cc)

-- where no row is held yet, all entries are left at most
pub none_met : {job : Job} {object : PairtreeObject} {rows : List Row} {empty : ℕ} {left : List Entry} → HasScanned job object rows empty left → rows ≡ []
    → to_meet job.limits (length object.at) 0 left ≤ sum_by (λ (entry : Entry). work_at entry.1) (met job.limits object)
none_met {job} {object} {rows} {left} it none =
    let many : length rows ≡ length (files it.front) = ap length it.rows_are ∙ length-map (files it.front) (row_of_file job.algorithm) in
    let no : 0 + length (files it.front) ≡ 0 = (let zero_rows = ap length none in omega (arith, many, zero_rows)) in
    let behind = meets_behind job.limits (length object.at) 0 it.front left it.good in
    let same = ap (λ (n : ℕ). to_meet job.limits (length object.at) n left) no in
    let all = ap (to_meet job.limits (length object.at) 0) it.all in
    let whole = meets_all job.limits object it.shallow in
    omega (arith, behind, same, all, whole)

-- ---- the site

-- one entry on, the site's walk is the same, and no more of it is to be passed
pub site_on : (object : Object) (trail : List Frame) → (still_listed (sought 0 (to_site object (advanced trail)))
    ≡ still_listed (sought 0 (to_site object trail))) × (still_here (to_site object (advanced trail)) ≤ still_here (to_site object trail))
site_on object [] = (refl, omega arith)
site_on object (frame ∷ frames) = by (length (frame ∷ frames) - object.site)
  where
    by : (n : ℕ) → (still_listed (sought 0 (drop n (advanced (frame ∷ frames)))) ≡ still_listed (sought 0 (drop n (frame ∷ frames))))
        × (still_here (drop n (advanced (frame ∷ frames))) ≤ still_here (drop n (frame ∷ frames)))
    by zero = (refl, omega arith)
    by (suc n) = (refl, omega arith)

-- an entry that is there is one to pass
pub here_less : (trail : List Frame) {item : Item} → current_entry trail ≡ Some item → still_here (advanced trail) + 1 ≤ still_here trail
here_less [] e = absurd (cc)
here_less (frame ∷ frames) {item} e = let within = slice_get_within frame.listing frame.place item e in omega (arith, within)

-- an object has as many listings of its own one entry on
pub own_on : (object : Object) (trail : List Frame) → own_listings object (advanced trail) ≡ own_listings object trail
own_on _ [] = refl
own_on _ (_ ∷ _) = refl

-- at the site's start all of it is to be passed
pub here_at_start : (trail : List Frame) → still_here (sought 0 trail) ≤ still_listed (sought 0 trail)
here_at_start [] = omega arith
here_at_start (frame ∷ frames) = omega arith

-- ---- all is scanned

-- the object's script, its copies, the tuple directories, the renaming and the line are the work that comes of it
pub comes_to : {job : Job} (source : Forest) (object : Object) {held : Held} (site : List Frame) {bytes : Path → List ℕ} → is_proper (pairtree_of source) ≡ true
    → HasScanned job (object_at source object site) held.rows object.empty [] → AreRows job bytes held → AreHeldThere source object site bytes held.rows
    → work_by_outcome job object.id (outcome job.limits (object_at source object site))
    ≡ length (script_of_object job object held.rows (bytes_there source object site)) + to_copy_from held.rows 0 + job.tuples.count + 2
comes_to {job} source object {held} site proper it rows there =
    let what = object_at source object site in
    let whole = files (entries what.inside) in
    let b = bytes_there source object site in
    let files_is : files_held held.rows b ≡ whole = files_are source object site b proper it (λ k d h. refl) in
    let script : script_of_object job object held.rows b ≡ script_of object.id (files_held held.rows b) job.meta job.algorithm =
    (own_files object.id held.rows b job.meta job.algorithm (in_order_apart (row_paths held.rows) rows.order)
    (λ k d h. ap (digest_of job.algorithm) (sym (there k d h)) ∙ rows.digests k d h)).1 in
    let long : length (script_of_object job object held.rows b) ≡ length (script_of object.id whole job.meta job.algorithm) = ap length (script
    ∙ ap (λ (l : List a_file). script_of object.id l job.meta job.algorithm) files_is) in
    let all : entries what.inside ≡ it.front = it.all ∙ append-nil it.front in
    let rows_is : held.rows ≡ rows_of job.algorithm whole = it.rows_are ∙ sym (ap (λ (l : List Entry). rows_of job.algorithm (files l)) all) in
    let copies : to_copy_from held.rows 0 ≡ work_to_copy (rows_of job.algorithm whole) = copies_all held.rows ∙ ap work_to_copy rows_is in
    let made : work_by_outcome job object.id (outcome job.limits what) ≡ work_to_make job object.id whole = ap (work_by_outcome job object.id) (comes_whole it)
    in
    omega (arith, long, copies, made)

-- ---- the next entry

-- a directory is entered
pub enters_meets : (job : Job) (source : Forest) (object : Object) (rows : List Row) (trail : List Frame) {name : List ℕ} {items : List Item}
    → is_proper (pairtree_of source) ≡ true → is_trail trail ≡ true → current_entry trail ≡ Some (name, kind.Dir)
    → is_passed object trail (name, kind.Dir) ≡ false
    → nat_lt job.limits.depth (length trail) ≡ false → listing_at (pairtree_of source) (names_to trail) ≡ Some items → Fits (pairtree_of source) trail
    → object.site ≤ length trail → 0 < own_listings object trail
    → to_meet job.limits (length (object_at source object (to_site object trail)).at) (length rows) (left_of source object trail)
    ≡ 2 + to_meet job.limits (length (object_at source object (to_site object trail)).at) (length rows) (left_of source object (entered items trail))
enters_meets job source object rows [] proper is_one e apart shallow listed fits within inside = absurd (cc)
enters_meets job source object rows (frame ∷ frames) {name} {items} proper is_one e apart shallow listed fits within inside =
    let top = pairtree_of source in
    let trail = frame ∷ frames in
    let path = names_to frames ++ name ∷ [] in
    let in_it = inside_at top path in
    let here : names_to trail ≡ path = path_grows frame frames (name, kind.Dir) e in
    let there = directory_there top frame frames name proper fits e in
    let items_are : listing_of in_it ≡ items = some_same _ items (sym (ap (option_map listing_of) there) ∙ ap (listing_at top) (sym here) ∙ listed) in
    let left = left_directory source object frame frames name items in_it proper fits within inside e apart refl items_are in
    let what = object_at source object (to_site object trail) in
    let good = no_cause_dir job what.at (logical_path object trail) _ rows trail in_it (path_in_object object trail) (path_length frame frames _ is_one e)
    shallow in
    ap (to_meet job.limits (length what.at) (length rows)) left
    ∙ ap (λ (n : ℕ). 2 + n) (meets_good job.limits (length what.at) (length rows) (logical_path object trail, Dir in_it)
    (left_of source object (entered items trail)) good)

-- a file is next
pub file_meets : (job : Job) (source : Forest) (object : Object) (rows : List Row) (trail : List Frame) {name : List ℕ} → is_proper (pairtree_of source) ≡ true
    → current_entry trail ≡ Some (name, kind.File) → Fits (pairtree_of source) trail → 0 < own_listings object trail
    → to_meet job.limits (length (object_at source object (to_site object trail)).at) (length rows) (left_of source object trail)
    ≡ (1 + reads (length (bytes_at (pairtree_of source) (names_to trail))))
    + to_meet_behind job.limits (length (object_at source object (to_site object trail)).at) (length rows) (left_of source object trail)
file_meets job source object rows [] proper e fits inside = absurd (cc)
file_meets job source object rows (frame ∷ frames) {name} proper e fits inside =
    let trail = frame ∷ frames in
    let depth = length (object_at source object (to_site object trail)).at in
    let cost = 1 + reads (length (bytes_at (pairtree_of source) (names_to trail))) in
    let left = left_file source object frame frames name proper fits inside e in
    ap (to_meet job.limits depth (length rows)) left ∙ sym (ap (λ (l : List Entry). cost + to_meet_behind job.limits depth (length rows) l) left)

-- it is noted
pub noted_meets : (job : Job) (source : Forest) (object : Object) (rows : List Row) (trail : List Frame) {name : List ℕ} → is_proper (pairtree_of source) ≡ true
    → current_entry trail ≡ Some (name, kind.File) → Fits (pairtree_of source) trail → 0 < own_listings object trail
    → nat_le job.limits.files (length rows) || nat_lt job.limits.path_bytes (length (joined (logical_path object trail))) ≡ false
    → length (bytes_at (pairtree_of source) (names_to trail)) ≤ job.limits.file_bytes
    → to_meet_behind job.limits (length (object_at source object (to_site object trail)).at) (length rows) (left_of source object trail)
    ≡ to_meet job.limits (length (object_at source object (to_site object trail)).at) (length rows + 1) (left_of source object (advanced trail))
noted_meets job source object rows [] proper e fits inside room short = absurd (cc)
noted_meets job source object rows (frame ∷ frames) {name} proper e fits inside room short =
    let trail = frame ∷ frames in
    let what = object_at source object (to_site object trail) in
    let bytes = bytes_at (pairtree_of source) (names_to trail) in
    let left = left_file source object frame frames name proper fits inside e in
    let good = no_cause_file job what.at (logical_path object trail) rows bytes room short in
    ap (to_meet_behind job.limits (length what.at) (length rows)) left
    ∙ meets_good job.limits (length what.at) (length rows) (logical_path object trail, File bytes) (left_of source object (advanced trail)) good

-- ---- the listings

either_way : (g : Bool) {n m : ℕ} → n ≤ m → cond g n 0 ≤ cond g m 0
either_way true less = less
either_way false less = omega arith

-- one entry on no more is to be left and passed
pub leave_on : (object : Object) (trail : List Frame) → to_leave object (advanced trail) ≤ to_leave object trail
leave_on object trail =
    let own = own_on object trail in
    let less = either_way object.gathered (site_on object trail).1 in
    omega (arith, own, less)

long_on : (trail : List Frame) → length (advanced trail) ≡ length trail
long_on [] = refl
long_on (_ ∷ _) = refl

-- an entry of the site that isn't of the object is passed
pub pass_less : (object : Object) (trail : List Frame) {item : Item} → current_entry trail ≡ Some item → is_passed object trail item ≡ true
    → 0 < own_listings object trail → to_leave object (advanced trail) + 1 ≤ to_leave object trail
pass_less object trail {item} e passed inside =
    let tests = and_parts (is_in_site object trail) (is_shorty item) passed in
    let same = eqb-true (length trail) object.site tests.0 in
    let gathered = is_gathered object trail same inside in
    let before = ap (λ b. cond b (still_here (to_site object trail)) 0) gathered ∙ ap still_here (site_itself object trail same) in
    let after = ap (λ b. cond b (still_here (to_site object (advanced trail))) 0) gathered
    ∙ ap still_here (site_itself object (advanced trail) (long_on trail ∙ same)) in
    let own = own_on object trail in
    let less = here_less trail e in
    omega (arith, before, after, own, less)

-- a listing of the object is left
pub leave_less : (object : Object) (trail : List Frame) → object.site < length trail → to_leave object (advanced (parent trail)) + 1 ≤ to_leave object trail
leave_less object [] below = absurd (omega (arith, below))
leave_less object (frame ∷ frames) below =
    let trail = frame ∷ frames in
    let own = own_parent object frame frames (omega (arith, below)) in
    let less = leave_on object frames in
    let same = ap (λ (t : List Frame). cond object.gathered (still_here t) 0) (site_parent object trail below) in
    omega (arith, own, less, same)

-- the site's walk behind a listing that is left
pub site_behind : (object : Object) (trail : List Frame) → object.site < length trail
    → still_listed (sought 0 (to_site object (advanced (parent trail)))) ≡ still_listed (sought 0 (to_site object trail))
site_behind object trail below = (site_on object (parent trail)).0 ∙ ap (λ (t : List Frame). still_listed (sought 0 t)) (site_parent object trail below)

-- ---- the site's start

sought_twice : (trail : List Frame) → sought 0 (sought 0 trail) ≡ sought 0 trail
sought_twice [] = refl
sought_twice (_ ∷ _) = refl

long_sought : (trail : List Frame) → length (sought 0 trail) ≡ length trail
long_sought [] = refl
long_sought (_ ∷ _) = refl

here_listed : (top : Forest) (trail : List Frame) → Fits top trail → still_here (sought 0 trail) ≤ length (listing_of (inside_at top (trail_path trail)))
here_listed top [] fits = omega arith
here_listed top (frame ∷ frames) fits = let same = ap length (listed_there top frame frames fits) in omega (arith, same)

-- of a gathered object one listing is to be left, and its site's entries are to be passed
pub leave_site : (top : Forest) (object : Object) (trail : List Frame) → object.gathered ≡ true → length trail ≡ object.site → Fits top trail
    → to_leave object (sought 0 trail) ≤ 1 + cond object.gathered (length (listing_of (inside_at top (trail_path (to_site object trail))))) 0
leave_site top object trail gathered at_site fits =
    let long = long_sought trail ∙ at_site in
    let own = own_at_site object (sought 0 trail) long ∙ ap (λ b. cond b 1 0) gathered in
    let here = ap (λ b. cond b (still_here (to_site object (sought 0 trail))) 0) gathered ∙ ap still_here (site_itself object (sought 0 trail) long) in
    let there = ap (λ b. cond b (length (listing_of (inside_at top (trail_path (to_site object trail))))) 0) gathered
    ∙ ap (λ (t : List Frame). length (listing_of (inside_at top (trail_path t)))) (site_itself object trail at_site) in
    let few = here_listed top trail fits in
    omega (arith, own, here, there, few)

pub site_sought : (object : Object) (trail : List Frame) → length trail ≡ object.site
    → still_listed (sought 0 (to_site object (sought 0 trail))) ≡ still_listed (sought 0 (to_site object trail))
site_sought object trail at_site =
    ap (λ (t : List Frame). still_listed (sought 0 t)) (site_itself object (sought 0 trail) (long_sought trail ∙ at_site))
    ∙ ap still_listed (sought_twice trail) ∙ sym (ap (λ (t : List Frame). still_listed (sought 0 t)) (site_itself object trail at_site))

-- of any other its directory's listing is to be left
pub leave_directory : (object : Object) (items : List Item) (trail : List Frame) → object.gathered ≡ false → length trail ≡ object.site
    → to_leave object (entered items trail) ≡ 1
leave_directory object items trail apart at_site =
    let own = own_entered object items trail (omega (arith, at_site)) in
    let none = own_at_site object trail at_site ∙ ap (λ b. cond b 1 0) apart in
    let nothing = ap (λ b. cond b (still_here (to_site object (entered items trail))) 0) apart in
    omega (arith, own, none, nothing)
