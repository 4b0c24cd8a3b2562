-- Each turn of the scan that goes on keeps what holds of what is held.
use Rattle.std.proofs.Common.{◌≡◌, ◌<◌, ◌≤◌, ℕ, zero, suc, ◌-◌, true, false, List, [], ◌∷◌, ◌++◌, refl, ap, sym, ◌∙◌, arith, cond, length, map, take}
use Rattle.std.specs.List.{list_all}
use Rattle.std.specs.Prelude.{Ok, Some}
use Rattle.std.proofs.lemmas.Bool.{and_from, and_parts, eqb-true}
use Rattle.std.proofs.lemmas.List.{map-append}
use Rattle.std.proofs.lemmas.List.Sums.{fold_push}
use Rattle.pt_object.proofs.Noting.{noting_gives_distinct}
use Rattle.pt_object.specs.Algorithm.{digest_of}
use Rattle.pt_object.specs.Contents.{noted}
use Rattle.pt_object.specs.Distinct.{content_of_row, distinct}
use Rattle.pt_object.specs.FilePaths.{row_paths}
use Rattle.pt_tree.specs.PathOrder.{part_in_order, parts_before}
use Rattle.pt_object.specs.Rows.{row_of}
use Rattle.pt_object.specs.declared.table.contents.Content.{Content}
use Rattle.pt_object.specs.declared.rows.Row.{Row}
use Rattle.pt_tree.specs.Listing.{Item}
use Rattle.pt_tree.specs.Path.{Path}
use Rattle.pt_walk.specs.Trail.{advanced, are_outer, current_entry, entered, is_trail, names_to, parent, sought}
use Rattle.pt_walk.specs.declared.frame.Frame.{Frame}
use Rattle.pt_plan.specs.Job.{Job}
use Rattle.pt_plan.specs.Run.{Held, with_fed, with_trail}
use Rattle.pt_plan.specs.TurnScan.{
  ScanStep,
  back_at_site,
  StartsInSite,
  EntersObject,
  IsTooDeep,
  PassesShorty,
  EntersDirectory,
  MeetsDeep,
  OpensFile,
  MeetsLimit,
  MeetsOther,
  EndsSite,
  EndsObject,
  LeavesDirectory,
  ReadsOn,
  IsTooLong,
  EndsFile,
  is_in_site,
  is_own_directory,
  logical_path,
  own_listings,
  with_directory,
  with_file,
}
use Rattle.pt_plan.specs.DeviceStates.{Calls}
use Rattle.pt_plan.specs.declared.phase.Phase.{Phase}
use Rattle.pt_plan.specs.declared.phase.Phase.TheVariants as phase
use Rattle.pt_plan.specs.declared.object.Object.{Object}
use Rattle.pt_invariant.specs.HeldInvariant.{AreRows, HeldAt, EndsInObject, HoldsNoObject, IsBehindRows, IsObject, all_behind}
use Rattle.pt_invariant.specs.HeldLaws.{ScanningKeepsHeld}
use Rattle.pt_invariant.specs.History.{History, bytes_after, with_bytes}
use Rattle.pt_invariant.proofs.held.BehindRows.{behind_advanced, behind_entered, behind_here, behind_left, behind_none, behind_noted}
use Rattle.pt_invariant.proofs.held.HeldKeeps.{RestAt, with_rest}
use Rattle.pt_invariant.proofs.held.Feeding.{scans_feed}
use Rattle.pt_invariant.proofs.source.InObject.{own_advanced, own_at_site, own_entered, own_parent}
use Rattle.pt_invariant.proofs.dest.Ordering.{order_push}
use Rattle.pt_invariant.proofs.source.ScansKeep.{below_site_of, some_around}
use Rattle.pt_invariant.proofs.held.TrailKeeps as trail
use Rattle.pt_invariant.proofs.held.WithBytes.{rows_push}

-- ---- no row yet

no_rows : (job : Job) {bytes : Path → List ℕ} {held : Held} → HoldsNoObject held → AreRows job bytes held
no_rows job {bytes} none = record {
  order = ap (λ (l : List Row). part_in_order (row_paths l)) none.rows;
  digests = rw none.rows (λ k d h. absurd (omega (arith, h)));
  contents = none.contents ∙ sym (ap (λ (l : List Row). map content_of_row (distinct l)) none.rows);
}

none_behind : (object : Object) (held : Held) → held.rows ≡ [] → IsBehindRows object held
none_behind object held none = ap (λ (l : List Row). all_behind (row_paths l) (take (own_listings object held.trail) held.trail)) none
    ∙ behind_none (take (own_listings object held.trail) held.trail)

-- ---- the trail moves

own_same : (object : Object) (t : List Frame) → own_listings object (advanced t) ≡ own_listings object t
own_same object [] = refl
own_same object (frame ∷ frames) = refl

take_advanced : (n : ℕ) (t : List Frame) → take n (advanced t) ≡ advanced (take n t)
take_advanced zero [] = refl
take_advanced zero (frame ∷ frames) = refl
take_advanced (suc n) [] = refl
take_advanced (suc n) (frame ∷ frames) = refl

long_same : (t : List Frame) → length (advanced t) ≡ length t
long_same [] = refl
long_same (frame ∷ frames) = refl

ends_advanced : {object : Object} (t : List Frame) → EndsInObject object t → EndsInObject object (advanced t)
ends_advanced {object} t it = record {
  within = let long = long_same t in let within = it.within in omega (arith, long, within);
  own = own_advanced object t it.own;
}

all_advanced : (earlier : List Path) (object : Object) (t : List Frame) → all_behind earlier (take (own_listings object t) t) ≡ true
    → all_behind earlier (take (own_listings object (advanced t)) (advanced t)) ≡ true
all_advanced earlier object t it =
    ap (all_behind earlier) (ap (λ n. take n (advanced t)) (own_same object t) ∙ take_advanced _ t)
    ∙ behind_advanced earlier (take (own_listings object t) t) it

one_less : (n : ℕ) → 0 < n → n ≡ suc (n - 1)
one_less n some = omega (arith, some)

-- the object's own listings have the innermost one, and those around it
own_front : (object : Object) {frame : Frame} (frames : List Frame) → 0 < own_listings object (frame ∷ frames)
    → take (own_listings object (frame ∷ frames)) (frame ∷ frames) ≡ frame ∷ take (own_listings object (frame ∷ frames) - 1) frames
own_front object {frame} frames some = ap (λ n. take n (frame ∷ frames)) (one_less _ some)

all_entered : (earlier : List Path) {object : Object} (t : List Frame) {item : Item} (items : List Item) → current_entry t ≡ Some item → EndsInObject object t
    → all_behind earlier (take (own_listings object t) t) ≡ true
    → all_behind earlier (take (own_listings object (entered items t)) (entered items t)) ≡ true
all_entered earlier [] items e ends it = absurd (cc)
all_entered earlier {object} (frame ∷ frames) items e ends it =
    let own = own_listings object (frame ∷ frames) in
    let front = own_front object frames ends.own in
    ap (λ n. all_behind earlier (take n (entered items (frame ∷ frames)))) (own_entered object items (frame ∷ frames) ends.within)
    ∙ ap (λ (l : List Frame). all_behind earlier (entered items l)) front
    ∙ behind_entered earlier frame (take (own - 1) frames) items e (sym (ap (all_behind earlier) front) ∙ it)

ends_entered : (object : Object) (items : List Item) (t : List Frame) → EndsInObject object t → EndsInObject object (entered items t)
ends_entered object items t ends =
    let own = own_entered object items t ends.within in
    let within = ends.within in
    record { within = omega (arith, within); own = omega (arith, own) }

all_left : (earlier : List Path) (object : Object) (t : List Frame) → object.site < length t → all_behind earlier (take (own_listings object t) t) ≡ true
    → all_behind earlier (take (own_listings object (advanced (parent t))) (advanced (parent t))) ≡ true
all_left earlier object [] below it = absurd (omega (arith, below))
all_left earlier object (frame ∷ frames) below it =
    let own = own_parent object frame frames (omega (arith, below)) in
    ap (all_behind earlier) (ap (λ n. take n (advanced frames)) (own_same object frames) ∙ take_advanced _ frames)
    ∙ behind_left earlier frame (take (own_listings object frames) frames) (sym (ap (λ n. all_behind earlier (take n (frame ∷ frames))) own) ∙ it)

shorter : (t : List Frame) (site : ℕ) → site < length t → site ≤ length (parent t)
shorter [] site below = absurd (omega (arith, below))
shorter (frame ∷ frames) site below = omega (arith, below)

ends_left : (object : Object) (t : List Frame) → is_in_site object t ≡ false → is_own_directory object t ≡ false → EndsInObject object t
    → EndsInObject object (advanced (parent t))
ends_left object t apart outside ends =
    let below = below_site_of object t apart ends.within in
    ends_advanced (parent t) (record { within = shorter t object.site below; own = some_around object t outside below })

-- at the end of the object's own directory the trail ends at its site
at_site_again : (object : Object) (t : List Frame) → is_own_directory object t ≡ true → length (parent t) ≡ object.site
at_site_again object t own = eqb-true (length (parent t)) object.site (and_parts _ _ own).1

-- ---- a file is noted

contents_push : (rows : List Row) {contents : List Content} (row : Row) → contents ≡ map content_of_row (distinct rows)
    → noted contents row.digest row.path ≡ map content_of_row (distinct (rows ++ row ∷ []))
contents_push rows row is =
    ap (λ (l : List Content). noted l row.digest row.path) (is ∙ sym (noting_gives_distinct rows))
    ∙ sym (fold_push (λ (l : List Content) (r : Row). noted l r.digest r.path) [] rows row)
    ∙ noting_gives_distinct (rows ++ row ∷ [])

-- the file at the place comes behind all rows
pub here_behind : (earlier : List Path) {object : Object} (t : List Frame) {item : Item} → current_entry t ≡ Some item → EndsInObject object t
    → all_behind earlier (take (own_listings object t) t) ≡ true
    → list_all (λ path. parts_before path (logical_path object t)) earlier ≡ true
here_behind earlier [] e ends it = absurd (cc)
here_behind earlier {object} (frame ∷ frames) e ends it =
    let front = own_front object frames ends.own in
    ap (λ (l : List Frame). list_all (λ path. parts_before path (names_to l)) earlier) front
    ∙ behind_here earlier frame (take (own_listings object (frame ∷ frames) - 1) frames) e (sym (ap (all_behind earlier) front) ∙ it)

-- the first listings of a trail are one
first_ones : (n : ℕ) (t : List Frame) → is_trail t ≡ true → is_trail (take n t) ≡ true
first_ones zero t is_one = refl
first_ones (suc n) [] is_one = refl
first_ones (suc n) (frame ∷ frames) is_one =
    let parts = and_parts _ _ is_one in
    and_from _ _ parts.0 (outer_ones n frames parts.1)
  where
    outer_ones : (n : ℕ) (t : List Frame) → are_outer t ≡ true → are_outer (take n t) ≡ true
    outer_ones zero t outer = refl
    outer_ones (suc n) [] outer = refl
    outer_ones (suc n) (frame ∷ frames) outer =
        let first = and_parts _ _ outer in
        let second = and_parts _ _ first.1 in
        and_from _ _ first.0
        (and_from _ _ second.0 (outer_ones n frames second.1))

all_noted : (earlier : List Path) {object : Object} (t : List Frame) {item : Item} → is_trail t ≡ true → current_entry t ≡ Some item → EndsInObject object t
    → all_behind earlier (take (own_listings object t) t) ≡ true
    → all_behind (earlier ++ logical_path object t ∷ []) (take (own_listings object (advanced t)) (advanced t)) ≡ true
all_noted earlier [] is_one e ends it = absurd (cc)
all_noted earlier {object} (frame ∷ frames) {item} is_one e ends it =
    let own = own_listings object (frame ∷ frames) in
    let front = own_front object frames ends.own in
    ap (all_behind (earlier ++ logical_path object (frame ∷ frames) ∷ [])) (take_advanced own (frame ∷ frames))
    ∙ ap (λ (l : List Frame). all_behind (earlier ++ names_to l ∷ []) (advanced l)) front
    ∙ behind_noted earlier frame (take (own - 1) frames) item (ap is_trail (sym front) ∙ first_ones own (frame ∷ frames) is_one) e
    (sym (ap (all_behind earlier) front) ∙ it)

-- the rows with the file that was read
rows_noted : (job : Job) (bytes : Path → List ℕ) (object : Object) (held : Held) {item : Item} (read : ℕ) → current_entry held.trail ≡ Some item
    → EndsInObject object held.trail → IsBehindRows object held → AreRows job bytes held
    → AreRows job (with_bytes (logical_path object held.trail) held.fed bytes) (with_file job object held read)
rows_noted job bytes object held read e ends behind rows =
    let path = logical_path object held.trail in
    let row = row_of path (digest_of job.algorithm held.fed) read in
    let last = here_behind _ held.trail e ends behind in
    record {
      order = ap part_in_order (map-append (λ (r : Row). r.path) held.rows (row ∷ [])) ∙ order_push _ path rows.order last;
      digests = rows_push (λ b r. digest_of job.algorithm b ≡ r.digest) bytes held.fed row refl refl held.rows last rows.digests;
      contents = contents_push held.rows row rows.contents;
    }

behind_file : (job : Job) (object : Object) (held : Held) {item : Item} (read : ℕ) → is_trail held.trail ≡ true → current_entry held.trail ≡ Some item
    → EndsInObject object held.trail → IsBehindRows object held → IsBehindRows object (with_file job object held read)
behind_file job object held read is_one e ends behind =
    let row = row_of (logical_path object held.trail) (digest_of job.algorithm held.fed) read in
    ap (λ (l : List Path). all_behind l (take (own_listings object (advanced held.trail)) (advanced held.trail)))
    (map-append (λ (r : Row). r.path) held.rows (row ∷ []))
    ∙ all_noted _ held.trail is_one e ends behind

-- ---- each turn

first_in_site : (object : Object) (t : List Frame) → object.gathered ≡ true → length t ≡ object.site → EndsInObject object (sought 0 t)
first_in_site object [] gathered same =
    let own : own_listings object [] ≡ 1 = own_at_site object [] same ∙ ap (λ b. cond b 1 0) gathered in
    record { within = omega (arith, same); own = omega (arith, own) }
first_in_site object (frame ∷ frames) gathered same =
    let own : own_listings object (sought 0 (frame ∷ frames)) ≡ 1 = own_at_site object (sought 0 (frame ∷ frames)) same ∙ ap (λ b. cond b 1 0) gathered in
    record { within = omega (arith, same); own = omega (arith, own) }

first_in_directory : (object : Object) (items : List Item) (t : List Frame) → length t ≡ object.site → EndsInObject object (entered items t)
first_in_directory object items t same =
    let own = own_entered object items t (omega (arith, same)) in
    record { within = omega (arith, same); own = omega (arith, own) }

counted : {job : Job} {object : Object} (items : List Item) → IsObject job object → IsObject job (with_directory object items)
counted items it = record { some = it.some; place = it.place }

counted_ends : {object : Object} (items : List Item) (t : List Frame) → EndsInObject object t → EndsInObject (with_directory object items) t
counted_ends items t it = record { within = it.within; own = it.own }

pub fed_rows : (job : Job) (bytes : Path → List ℕ) (held : Held) (fed : List ℕ) → AreRows job bytes held → AreRows job bytes (with_fed held fed)
fed_rows job bytes held fed it = record { order = it.order; digests = it.digests; contents = it.contents }

moved_rows : {job : Job} {bytes : Path → List ℕ} {held : Held} (t : List Frame) → AreRows job bytes held → AreRows job bytes (with_trail held t)
moved_rows t it = record { order = it.order; digests = it.digests; contents = it.contents }

no_object_rest : {job : Job} {bytes : Path → List ℕ} (object : Object) (held : Held) → RestAt job bytes phase.Walk (back_at_site object held)
no_object_rest object held = record { ends = tt; rows = record { rows = refl; contents = refl }; behind = tt; numbers = tt }

scans_rest : {job : Job} {past : History} {here next : Phase} {held after : Held} {calls : Calls} → ScanStep job here held after calls (Ok next)
    → HeldAt job past here held → RestAt job (bytes_after here next held past.bytes) next after
scans_rest {job} {after} (StartsInSite was object gathered) at = record {
  ends = (at.ends.0, first_in_site object was.trail gathered at.ends.1);
  rows = moved_rows after.trail (no_rows job at.rows);
  behind = none_behind object after at.rows.rows;
  numbers = tt;
}
scans_rest {job} {after} (EntersObject was object items apart shallow) at = record {
  ends = (counted items at.ends.0, counted_ends items after.trail (first_in_directory object items was.trail at.ends.1));
  rows = moved_rows after.trail (no_rows job at.rows);
  behind = none_behind (with_directory object items) after at.rows.rows;
  numbers = tt;
}
scans_rest (IsTooDeep was object apart deep) at = no_object_rest object was
scans_rest {after} (PassesShorty was object item e passed) at = record {
  ends = (at.ends.0, ends_advanced was.trail at.ends.1);
  rows = moved_rows after.trail at.rows;
  behind = all_advanced _ object was.trail at.behind;
  numbers = tt;
}
scans_rest {after} (EntersDirectory was object name items e apart shallow) at = record {
  ends = (counted items at.ends.0, counted_ends items after.trail (ends_entered object items was.trail at.ends.1));
  rows = moved_rows after.trail at.rows;
  behind = all_entered _ was.trail items e at.ends.1 at.behind;
  numbers = tt;
}
scans_rest (MeetsDeep was object name e apart deep) at = no_object_rest object was
scans_rest {job} {past} (OpensFile was object name e room) at = record {
  ends = at.ends;
  rows = fed_rows job past.bytes was [] at.rows;
  behind = at.behind;
  numbers = tt;
}
scans_rest (MeetsLimit was object name e room) at = no_object_rest object was
scans_rest (MeetsOther was object name e) at = no_object_rest object was
scans_rest (EndsSite was object e there) at = record {
  ends = (at.ends.0, eqb-true (length was.trail) object.site there);
  rows = at.rows;
  behind = tt;
  numbers = tt;
}
scans_rest (EndsObject was object e apart own) at =
    record { ends = (at.ends.0, at_site_again object was.trail own); rows = moved_rows (parent was.trail) at.rows; behind = tt; numbers = tt }
scans_rest {after} (LeavesDirectory was object e apart outside) at = record {
  ends = (at.ends.0, ends_left object was.trail apart outside at.ends.1);
  rows = moved_rows after.trail at.rows;
  behind = all_left _ object was.trail (below_site_of object was.trail apart at.ends.1.within) at.behind;
  numbers = tt;
}
scans_rest {job} {past} {after} (ReadsOn was object bytes byte block short) at = record
    { ends = at.ends; rows = fed_rows job past.bytes was after.fed at.rows; behind = at.behind; numbers = tt }
scans_rest (IsTooLong was object bytes byte block long) at = no_object_rest object was
scans_rest {job} {past} (EndsFile was object bytes) at = record {
  ends = (at.ends.0, ends_advanced was.trail at.ends.1);
  rows = rows_noted job past.bytes object was bytes at.trail.entry.1 at.ends.1 at.behind at.rows;
  behind = behind_file job object was bytes at.trail.is_one at.trail.entry.1 at.ends.1 at.behind;
  numbers = tt;
}

pub scans_hold : ScanningKeepsHeld
scans_hold job past old new here next held after calls turn answers at = with_rest (scans_rest turn at) (trail.scans_keep old new turn answers at.trail)
    (scans_feed turn)
