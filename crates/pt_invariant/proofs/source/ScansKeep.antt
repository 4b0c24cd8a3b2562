-- The turns of the scan keep what holds where the source tells.
use Rattle.std.proofs.Common.{◌≡◌, ◌<◌, ◌≤◌, ◌-◌, ℕ, suc, ◌+◌, ◌==◌, ◌&&◌, Bool, true, false, List, [], ◌∷◌, ◌++◌, refl, ap, sym, ◌∙◌, cond, length, arith}
use Rattle.std.specs.Prelude.{None, Some, Ok, nat_le, nat_lt, not, ◌||◌}
use Rattle.std.proofs.lemmas.Bool.{and_parts, eqb-true, le-ltb, ltb-false, or_from}
use Rattle.pt_object.specs.Algorithm.{digest_of}
use Rattle.pt_object.specs.Rows.{row_of}
use Rattle.pt_object.specs.declared.rows.Row.{Row}
use Rattle.pt_tree.specs.Forest.{Forest, file, File, file_at, is_proper}
use Rattle.pt_tree.specs.Listing.{Item}
use Rattle.pt_tree.specs.Path.{Path, joined}
use Rattle.pt_tree.specs.Source.{Reading, IsListed, IsRead}
use Rattle.pt_tree.specs.declared.kind.Kind.TheVariants as kind
use Rattle.pt_walk.proofs.TrailSteps.{file_there, path_grows}
use Rattle.pt_walk.specs.Left.{Fits, bytes_at}
use Rattle.pt_walk.specs.Object.{entry_cause}
use Rattle.pt_walk.specs.Trail.{advanced, current_entry, is_trail, names_to, parent, sought}
use Rattle.pt_walk.specs.declared.cause.Cause.TheVariants as cause
use Rattle.pt_walk.specs.declared.frame.Frame.{Frame}
use Rattle.pt_invariant.specs.SourceInvariant.{HasScanned, HasStarted, IsInObject, IsOnWay, IsReadingFile, IsScanned, IsScanning, SourceAt, left_of, object_at}
use Rattle.pt_invariant.specs.HeldInvariant.{HoldsNoObject}
use Rattle.pt_invariant.specs.History.{done_after}
use Rattle.pt_plan.specs.Job.{Job}
use Rattle.pt_plan.specs.Run.{Held, with_fed, with_trail}
use Rattle.pt_plan.specs.Store.{is_store, pairtree_of, pairtree_root}
use Rattle.pt_plan.specs.TurnScan.{
  ScanStep,
  StartsInSite,
  EntersObject,
  IsTooDeep,
  PassesShorty,
  EntersDirectory,
  MeetsDeep,
  OpensFile,
  MeetsLimit,
  MeetsOther,
  EndsSite,
  EndsObject,
  LeavesDirectory,
  ReadsOn,
  IsTooLong,
  EndsFile,
  back_at_site,
  is_in_site,
  is_own_directory,
  is_passed,
  logical_path,
  own_listings,
  to_site,
  with_directory,
}
use Rattle.pt_plan.specs.DeviceStates.{Answers, Calls}
use Rattle.pt_plan.specs.declared.phase.Phase.{Phase}
use Rattle.pt_plan.specs.declared.object.Object.{Object}
use Rattle.pt_invariant.proofs.source.InObject.{is_gathered, own_advanced, own_at_site, scans_more, scans_same}
use Rattle.pt_invariant.proofs.source.InPairtree.{file_in_pairtree, listing_in, pairtree_proper, stays}
use Rattle.pt_invariant.proofs.source.ReadsOn.{reads_block, reads_end, reads_first}
use Rattle.pt_invariant.proofs.source.ScanSteps.{left_behind, left_file, left_none, left_shorty, moved_behind, moved_on, moved_out, below_site}
use Rattle.pt_invariant.proofs.source.ScanEnters.{enters_directory, enters_object, scanned_as, starts_in_site}

-- ---- the object is given up

given_up : {job : Job} {s new : Reading} {prefix : List ℕ} {object : Object} (held : Held) {count : ℕ} → Some new ≡ Some s → HasStarted s.tree prefix
    → IsInObject job s.tree prefix object held.trail count
    → HoldsNoObject (back_at_site object held) × HasStarted new.tree prefix × IsOnWay job new.tree (sought 0 (to_site object held.trail)) (suc count)
given_up {job} {prefix} {object} held {count} same started it =
    stays (λ r. HoldsNoObject (back_at_site object held) × HasStarted r.tree prefix × IsOnWay job r.tree (sought 0 (to_site object held.trail)) (suc count))
    same
    (record { rows = refl; contents = refl }, started, it.site.way)

-- ---- the scan goes on

-- where an entry that isn't of the object is passed, or a listing is left
scans_on : (job : Job) {source : Forest} {prefix : List ℕ} {object : Object} {held : Held} {trail : List Frame} {count : ℕ}
    → IsInObject job source prefix object trail count
    → object_at source object (to_site object held.trail) ≡ object_at source object (to_site object trail) → 0 < own_listings object trail
    → left_of source object held.trail ≡ left_of source object trail
    → IsScanning job source prefix object held count → IsScanning job source prefix object (with_trail held trail) count
scans_on job stands same inside left it = record {
  stands = stands;
  inside = inside;
  scanned =
      scanned_as same
      (scans_same left it.scanned);
}

-- ---- at the end of a listing

-- the trail is below the site, if it isn't at it
pub below_site_of : (object : Object) (trail : List Frame) → is_in_site object trail ≡ false → object.site ≤ length trail → object.site < length trail
below_site_of object trail apart within = below_site (length trail) object.site apart within

-- where a listing is left that isn't the object's own directory, one of its own is around it
own_around : (g : Bool) (n m site : ℕ) → not g && (m == site) ≡ false → n ≡ suc m → site ≤ m → 0 < cond g (m - site + 1) (m - site)
own_around true n m site apart is within = omega arith
own_around false n m site apart is within = let less = below_site m site apart within in omega (arith, less)

pub some_around : (object : Object) (trail : List Frame) → is_own_directory object trail ≡ false → object.site < length trail
    → 0 < own_listings object (parent trail)
some_around object [] apart below = absurd (omega (arith, below))
some_around object (frame ∷ frames) apart below = own_around object.gathered _ _ object.site apart refl (omega (arith, below))

leaves_directory : (job : Job) (source : Forest) (prefix : List ℕ) (object : Object) (held : Held) (count : ℕ) → current_entry held.trail ≡ None
    → is_in_site object held.trail ≡ false → is_own_directory object held.trail ≡ false
    → IsScanning job source prefix object held count → IsScanning job source prefix object (with_trail held (advanced (parent held.trail))) count
leaves_directory job source prefix object held count e apart outside it =
    let below = below_site_of object held.trail apart it.stands.within in
    let around = some_around object held.trail outside below in
    let moved = moved_behind job source prefix object held.trail count below around it.stands in
    scans_on job moved.stands moved.same (own_advanced object (parent held.trail) around)
    (left_behind source object held.trail it.stands.fits e it.stands.some below around) it

ends_site : {job : Job} (source : Forest) {prefix : List ℕ} (object : Object) (held : Held) {count : ℕ} → current_entry held.trail ≡ None
    → is_in_site object held.trail ≡ true
    → IsScanning job source prefix object held count → IsScanned job source prefix object held count
ends_site source object held e here it =
    let same = eqb-true (length held.trail) object.site here in
    let gathered = is_gathered object held.trail same it.inside in
    let own : own_listings object held.trail ≡ 1 = own_at_site object held.trail same ∙ ap (λ b. cond b 1 0) gathered in
    record {
      stands = it.stands;
      at_site = same;
      scanned = scans_same (left_none source object held.trail it.stands.fits e own) it.scanned;
    }

own_one : (g : Bool) (n m site : ℕ) → not g && (m == site) ≡ true → n ≡ suc m → cond g (n - site + 1) (n - site) ≡ 1
own_one true n m site is next = absurd (cc)
own_one false n m site is next = let same = eqb-true m site is in omega (arith, same, next)

ends_object : (job : Job) {source : Forest} {prefix : List ℕ} {object : Object} (held : Held) (trail : List Frame) {count : ℕ} → held.trail ≡ trail
    → current_entry trail ≡ None → is_in_site object trail ≡ false → is_own_directory object trail ≡ true
    → IsInObject job source prefix object trail count → HasScanned job (object_at source object (to_site object trail)) held.rows object.empty
    (left_of source object trail)
    → IsScanned job source prefix object (with_trail held (parent trail)) count
ends_object job held [] is e apart own stands scanned = absurd (let some = stands.some in let within = stands.within in omega (arith, some, within))
ends_object job {source} {object} held (frame ∷ frames) is e apart own stands scanned =
    let trail = frame ∷ frames in
    let below = below_site_of object trail apart stands.within in
    let same = eqb-true (length frames) object.site (and_parts _ _ own).1 in
    let one = own_one object.gathered _ _ object.site own refl in
    let moved = moved_out trail below stands in
    record {
      stands = moved.stands;
      at_site = same;
      scanned =
          scanned_as moved.same
          (scans_same (left_none source object trail stands.fits e one) scanned);
    }

passes_shorty : (job : Job) (source : Forest) (prefix : List ℕ) (object : Object) (held : Held) (item : Item) (count : ℕ)
    → is_proper (pairtree_of source) ≡ true → current_entry held.trail ≡ Some item → is_passed object held.trail item ≡ true
    → IsScanning job source prefix object held count → IsScanning job source prefix object (with_trail held (advanced held.trail)) count
passes_shorty job source prefix object held item count proper e passed it =
    let moved = moved_on job source prefix object held.trail count it.inside it.stands in
    scans_on job moved.stands moved.same (own_advanced object held.trail it.inside)
    (left_shorty source object held.trail item proper it.stands.fits e passed it.inside) it

-- ---- a file

pub opened : (source : Forest) (trail : List Frame) (name : List ℕ) → is_store source ≡ true → is_proper (pairtree_of source) ≡ true
    → Fits (pairtree_of source) trail → current_entry trail ≡ Some (name, kind.File)
    → file_at source (pairtree_root ∷ names_to trail) ≡ Some (bytes_at (pairtree_of source) (names_to trail))
opened source [] name store proper fits e = absurd (cc)
opened source (frame ∷ frames) name store proper fits e =
    let top = pairtree_of source in
    let here : names_to (frame ∷ frames) ≡ names_to frames ++ name ∷ [] = path_grows frame frames (name, kind.File) e in
    file_in_pairtree source _ store ∙ ap (file_at top) here ∙ file_there top frame frames name proper fits e
    ∙ ap (λ (p : Path). Some (bytes_at top p)) (sym here)

same_scan : {job : Job} {source : Forest} {prefix : List ℕ} {object : Object} {held : Held} (fed : List ℕ) {count : ℕ}
    → IsScanning job source prefix object held count → IsScanning job source prefix object (with_fed held fed) count
same_scan fed it = record { stands = it.stands; inside = it.inside; scanned = it.scanned }

-- there is no cause against a file that may have a row
pub no_cause_file : (job : Job) (at path : Path) (rows : List Row) (bytes : List ℕ)
    → nat_le job.limits.files (length rows) || nat_lt job.limits.path_bytes (length (joined path)) ≡ false → length bytes ≤ job.limits.file_bytes
    → entry_cause job.limits (length at) (length rows) (path, File bytes) ≡ None
no_cause_file job at path rows bytes room short =
    ap (λ b. cond b (Some cause.Limit) None)
    (or_from _ _ room (le-ltb job.limits.file_bytes (length bytes) short))

ends_file : (job : Job) {source : Forest} {prefix : List ℕ} {object : Object} (held : Held) (trail : List Frame) {name : List ℕ} {read count : ℕ}
    → is_proper (pairtree_of source) ≡ true → current_entry trail ≡ Some (name, kind.File)
    → nat_le job.limits.files (length held.rows) || nat_lt job.limits.path_bytes (length (joined (logical_path object trail))) ≡ false
    → read ≤ job.limits.file_bytes
    → held.fed ≡ bytes_at (pairtree_of source) (names_to trail) → read ≡ length (bytes_at (pairtree_of source) (names_to trail))
    → IsInObject job source prefix object trail count → 0 < own_listings object trail
    → HasScanned job (object_at source object (to_site object trail)) held.rows object.empty (left_of source object trail)
    → IsInObject job source prefix object (advanced trail) count
    × (0 < own_listings object (advanced trail))
    × HasScanned job (object_at source object (to_site object (advanced trail)))
    (held.rows ++ row_of (logical_path object trail) (digest_of job.algorithm held.fed) read ∷ []) object.empty (left_of source object (advanced trail))
ends_file job held [] proper e room short whole long stands inside scanned = absurd (cc)
ends_file job {source} {prefix} {object} held (frame ∷ frames) {name} {read} {count} proper e room short whole long stands inside scanned =
    let top = pairtree_of source in
    let trail = frame ∷ frames in
    let bytes = bytes_at top (names_to trail) in
    let object_is = object_at source object (to_site object trail) in
    let left = left_file source object frame frames name proper stands.fits inside e in
    let none_cause = no_cause_file job object_is.at (logical_path object trail) held.rows bytes room (omega (arith, short, long)) in
    let next = scans_more job none_cause (omega arith)
    (scans_same left scanned) in
    let row_is : row_of (logical_path object trail) (digest_of job.algorithm bytes) (length bytes)
    ≡ row_of (logical_path object trail) (digest_of job.algorithm held.fed) read =
    ap (λ (b : List ℕ). row_of (logical_path object trail) (digest_of job.algorithm b) (length bytes)) (sym whole)
    ∙ ap (λ (n : ℕ). row_of (logical_path object trail) (digest_of job.algorithm held.fed) n) (sym long) in
    let moved = moved_on job source prefix object trail count inside stands in (
      moved.stands,
      own_advanced object trail inside,
      scanned_as moved.same
          (rw (← row_is) next),
    )

-- ---- each turn

abbrev InScan : Job → List ℕ → Object → ℕ → Held → Reading → Type 0
InScan job prefix object count held s = HasStarted s.tree prefix × IsScanning job s.tree prefix object held count

abbrev AllScanned : Job → List ℕ → Object → ℕ → Held → Reading → Type 0
AllScanned job prefix object count held s = HasStarted s.tree prefix × IsScanned job s.tree prefix object held count

abbrev InFile : Job → List ℕ → Object → ℕ → ℕ → Held → Reading → Type 0
InFile job prefix object count bytes held s =
    HasStarted s.tree prefix × IsScanning job s.tree prefix object held count × IsReadingFile job s.tree object held s.unread bytes

pub scans_keep : {job : Job} (s new : Reading) (prefix : List ℕ) (count : ℕ) {here next : Phase} {held after : Held} {calls : Calls}
    → is_proper s.tree ≡ true → is_trail held.trail ≡ true → ScanStep job here held after calls (Ok next) → SourceAt job s prefix count here held
    → Answers calls.asked (Some s) (Some new) → SourceAt job new prefix (done_after here held.trail next count) next after
unfolding Answers IsListed IsRead
scans_keep {job} s new prefix count {after} proper is_one (StartsInSite was object gathered) at answers =
    stays (InScan job prefix object count after) answers
    (at.1, starts_in_site job was was.trail gathered at.2 at.3 at.4 at.0.rows)
scans_keep {job} s new prefix count {after} proper is_one (EntersObject was object items apart shallow) at answers =
    stays (InScan job prefix (with_directory object items) count after) answers.2 (
      at.1,
      enters_object job was was.trail (pairtree_proper s.tree at.1.store proper) is_one apart shallow
          (sym (listing_in s.tree (names_to was.trail) at.1.store) ∙ answers.0 s refl) at.2 at.3 at.4 at.0.rows,
    )
scans_keep s new prefix count proper is_one (IsTooDeep was object apart deep) at answers =
    given_up was answers at.1 at.2
scans_keep {job} s new prefix count {after} proper is_one (PassesShorty was object item e passed) at answers =
    stays (InScan job prefix object count after) answers
    (at.0, passes_shorty job s.tree prefix object was item count (pairtree_proper s.tree at.0.store proper) e passed at.1)
scans_keep {job} s new prefix count {after} proper is_one (EntersDirectory was object name items e apart shallow) at answers =
    stays (InScan job prefix (with_directory object items) count after) answers.2 (
      at.0,
      enters_directory job was was.trail (pairtree_proper s.tree at.0.store proper) is_one e apart shallow
          (sym (listing_in s.tree (names_to was.trail) at.0.store) ∙ answers.0 s refl) at.1.stands at.1.inside at.1.scanned,
    )
scans_keep s new prefix count proper is_one (MeetsDeep was object name e apart deep) at answers =
    given_up was answers at.0 at.1.stands
scans_keep {job} s new prefix count {after} proper is_one (OpensFile was object name e room) at answers =
    let path = pairtree_root ∷ names_to was.trail in
    let top_proper = pairtree_proper s.tree at.0.store proper in
    stays (InFile job prefix object count 0 after) answers (
      at.0,
      same_scan [] at.1,
      record {
        name = name;
        file = e;
        room = room;
        short = omega arith;
        read = reads_first (opened s.tree was.trail name at.0.store top_proper at.1.stands.fits e);
      },
    )
scans_keep s new prefix count proper is_one (MeetsLimit was object name e room) at answers =
    given_up was answers at.0 at.1.stands
scans_keep s new prefix count proper is_one (MeetsOther was object name e) at answers =
    given_up was answers at.0 at.1.stands
scans_keep {job} s new prefix count {after} proper is_one (EndsSite was object e there) at answers =
    stays (AllScanned job prefix object count after) answers (at.0, ends_site s.tree object was e there at.1)
scans_keep {job} s new prefix count {after} proper is_one (EndsObject was object e apart own) at answers =
    stays (AllScanned job prefix object count after) answers (at.0, ends_object job was was.trail refl e apart own at.1.stands at.1.scanned)
scans_keep {job} s new prefix count {after} proper is_one (LeavesDirectory was object e apart outside) at answers =
    stays (InScan job prefix object count after) answers
    (at.0, leaves_directory job s.tree prefix object was count e apart outside at.1)
scans_keep {job} s new prefix count {after} proper is_one (ReadsOn was object bytes byte block short) at answers =
    let whole = bytes_at (pairtree_of s.tree) (names_to was.trail) in
    stays (InFile job prefix object count (bytes + length (byte ∷ block)) after) answers.1 (
      at.0,
      same_scan (was.fed ++ byte ∷ block) at.1,
      record {
        name = at.2.name;
        file = at.2.file;
        room = at.2.room;
        short = ltb-false job.limits.file_bytes (bytes + length (byte ∷ block)) short;
        read = reads_block 8192 whole bytes was.fed _ s.unread at.2.read (answers.0 s refl);
      },
    )
scans_keep s new prefix count proper is_one (IsTooLong was object bytes byte block long) at answers =
    given_up was answers.1 at.0 at.1.stands
scans_keep {job} s new prefix count {after} proper is_one (EndsFile was object bytes) at answers =
    let whole = bytes_at (pairtree_of s.tree) (names_to was.trail) in
    let all = reads_end 8192 whole bytes was.fed s.unread (omega arith) at.2.read (answers.0 s refl) in
    let it = ends_file job was was.trail (pairtree_proper s.tree at.0.store proper) at.2.file at.2.room at.2.short all.all all.length_is at.1.stands at.1.inside
    at.1.scanned in
    stays (InScan job prefix object count after) answers.1 (at.0, record { stands = it.0; inside = it.1; scanned = it.2 })
