-- What the turns of the scan tell is the line of the item that they give up.
use Rattle.std.proofs.Common.{◌≡◌, ◌<◌, ◌≤◌, ◌+◌, ◌-◌, ℕ, suc, ◌&&◌, true, false, List, [], ◌∷◌, ◌++◌, refl, ap, sym, ◌∙◌, arith, cond, length}
use Rattle.std.specs.Prelude.{None, Some, Ok, nat_le, nat_lt, not, slice_get, ◌||◌}
use Rattle.std.specs.Option.{option_map}
use Rattle.std.proofs.lemmas.Bool.{lt-ltb, ltb-true, or_left, or_right}
use Rattle.std.proofs.lemmas.List.{length-append, length-map}
use Rattle.pt_object.specs.Object.{row_of_file}
use Rattle.pt_object.specs.declared.rows.Row.{Row}
use Rattle.pt_tree.specs.Forest.{Forest, Dir, Other, is_proper, listing_of}
use Rattle.pt_tree.specs.Path.{Path, joined}
use Rattle.pt_tree.specs.Source.{Reading, IsRead}
use Rattle.pt_tree.specs.Tree.{Tree}
use Rattle.pt_tree.specs.declared.kind.Kind.TheVariants as kind
use Rattle.pt_walk.proofs.BadEntries.{bad_first}
use Rattle.pt_walk.proofs.ObjectSteps as step
use Rattle.pt_walk.specs.Left.{Fits, bytes_at, entries_left, inside_at}
use Rattle.pt_walk.specs.Object.{Entry, entries, entry_cause, files, first_bad}
use Rattle.pt_walk.specs.Sites.{Listed}
use Rattle.pt_walk.specs.Trail.{advanced, current_entry, entry_at, is_dir_entry, is_trail, names_to, trail_path}
use Rattle.pt_walk.specs.declared.cause.Cause.{Cause}
use Rattle.pt_walk.specs.declared.cause.Cause.TheVariants as cause
use Rattle.pt_walk.specs.declared.frame.Frame.{Frame}
use Rattle.pt_plan.proofs.TakenPlaces.{marked_item}
use Rattle.pt_plan.specs.Carried.{marked}
use Rattle.pt_plan.specs.Items.{Fails, Item, Named, PairtreeObject, bad_entry, is_too_deep, item_of, items, outcome, outcome_by, verdict_of}
use Rattle.pt_plan.specs.Job.{Job, reach_of}
use Rattle.pt_plan.specs.Run.{Held}
use Rattle.pt_plan.specs.Store.{pairtree_of, prefix_of, sites_of}
use Rattle.pt_plan.specs.TurnMake.{path_of_source}
use Rattle.pt_plan.specs.TurnScan.{
  ScanStep,
  StartsInSite,
  EntersObject,
  IsTooDeep,
  PassesShorty,
  EntersDirectory,
  MeetsDeep,
  OpensFile,
  MeetsLimit,
  MeetsOther,
  EndsSite,
  EndsObject,
  LeavesDirectory,
  ReadsOn,
  IsTooLong,
  EndsFile,
  is_beyond,
  is_passed,
  logical_path,
  own_listings,
  skipped,
  to_site,
}
use Rattle.pt_plan.specs.DeviceStates.{Answers, Calls}
use Rattle.pt_plan.specs.declared.object.Object.{Object}
use Rattle.pt_plan.specs.declared.phase.Phase.{Phase}
use Rattle.pt_plan.specs.declared.phase.Phase.TheVariants as phase
use Rattle.pt_invariant.specs.RunInvariant.{IsFreeAt, IsNextFree}
use Rattle.pt_invariant.specs.SourceInvariant.{HasScanned, HasStarted, IsInObject, IsSiteOf, SourcePart, left_of, object_at}
use Rattle.pt_invariant.specs.History.{History, done_after}
use Rattle.pt_invariant.proofs.held.DistinctRows.{get_map}
use Rattle.pt_invariant.proofs.source.InObject.{logical_is, path_in_object, path_length, site_itself}
use Rattle.pt_invariant.proofs.source.InPairtree.{pairtree_proper, some_same}
use Rattle.pt_invariant.proofs.items.ItemLines.{Nothing, OneItem, Tells, free_item}
use Rattle.pt_invariant.proofs.source.ReadsOn.{reads_block}
use Rattle.pt_invariant.proofs.source.ScanSteps.{left_directory, left_file}
use Rattle.pt_invariant.proofs.source.ScanEnters.{dir_entry}

-- ---- the item of the object under way

abbrev pub item_of_site : Job → Forest → List Frame → Item
item_of_site job source site = item_of job (prefix_of source) (trail_path site, Listed (inside_at (pairtree_of source) (trail_path site)))

-- it is the next one, and its place isn't taken
pub free_mark : {job : Job} {source : Forest} (root : Tree) {prefix : List ℕ} {object : Object} {site : List Frame} {count : ℕ}
    → IsSiteOf job source prefix object site count → IsNextFree job source root count
    → slice_get (marked job source root) count ≡ Some (item_of_site job source site, false)
free_mark {job} {source} root {site} {count} it (item, is) =
    let mine : slice_get (items job source) count ≡ Some (item_of_site job source site) = get_map (item_of job (prefix_of source))
    (sites_of (reach_of job) source) count _ it.here.site in
    let same : item ≡ item_of_site job source site = some_same item _ (sym (marked_item job source root count (item, false) is).0 ∙ mine) in
    is ∙ ap (λ (i : Item). Some (i, false)) same

pub named_so : {job : Job} {source : Forest} {prefix : List ℕ} {object : Object} {site : List Frame} {count : ℕ} → HasStarted source prefix
    → IsSiteOf job source prefix object site count → (item_of_site job source site).verdict ≡ Named object.id (object_at source object site)
named_so {job} {source} {site} started it =
    ap (λ (p : List ℕ). verdict_of job p (trail_path site) (Listed (inside_at (pairtree_of source) (trail_path site)))) (sym started.read) ∙ it.named

-- ---- why it is given up

-- the first entry that was not scanned is a cause against it
fails_at : {job : Job} {object : PairtreeObject} {rows : List Row} {empty : ℕ} {left rest : List Entry} {entry : Entry} {why : Cause}
    → HasScanned job object rows empty left → left ≡ entry ∷ rest → entry_cause job.limits (length object.at) (length rows) entry ≡ Some why
    → outcome job.limits object ≡ Fails why
fails_at {job} {object} {rows} {rest} {entry} {why} it next bad =
    let many : 0 + length (files it.front) ≡ length rows = (let long : length rows ≡ length (files it.front) = ap length it.rows_are
    ∙ length-map (files it.front) (row_of_file job.algorithm) in omega (arith, long)) in
    let first = (bad_first job.limits (length object.at) 0 it.front rest entry why it.good
    (ap (λ (n : ℕ). entry_cause job.limits (length object.at) n entry) many ∙ bad)).0 in
    let found : bad_entry job.limits object ≡ Some (entry, why) = ap (first_bad job.limits (length object.at) 0) (it.all
    ∙ ap (λ (l : List Entry). it.front ++ l) next) ∙ first in
    ap (outcome_by (files (entries object.inside))) (ap (λ b. cond b (Some cause.Limit)
    (option_map (λ (bad : Entry × Cause). bad.1) (bad_entry job.limits object))) it.shallow ∙ ap (option_map (λ (bad : Entry × Cause). bad.1)) found)

fails_deep : (job : Job) (object : PairtreeObject) → is_too_deep job.limits object ≡ true → outcome job.limits object ≡ Fails cause.Limit
fails_deep job object deep = ap (λ b. outcome_by (files (entries object.inside))
    (cond b (Some cause.Limit) (option_map (λ (bad : Entry × Cause). bad.1) (bad_entry job.limits object)))) deep

-- so it is told
gives_up : {job : Job} {source : Forest} {root : Tree} {prefix : List ℕ} {object : Object} (held : Held) {count : ℕ} {why : Cause} → HasStarted source prefix
    → IsInObject job source prefix object held.trail count → IsNextFree job source root count
    → outcome job.limits (object_at source object (to_site object held.trail)) ≡ Fails why
    → Tells job source root count phase.Walk (Some (skipped object held why)) (suc count) []
gives_up {job} {source} {root} {object} held {count} {why} started it free comes =
    let site = to_site object held.trail in
    OneItem
    (free_item (free_mark root it.site free) (named_so started it.site) comes)

-- ---- at an entry

deep_entry : (job : Job) (at path : Path) {whole : Path} (held : ℕ) (t : List Frame) (inside : Forest) → whole ≡ at ++ path → length whole ≡ length t
    → nat_lt job.limits.depth (length t) ≡ true → entry_cause job.limits (length at) held (path, Dir inside) ≡ Some cause.Limit
deep_entry job at path _ t _ is long deep =
    let sum : length at + length path ≡ length t = sym (ap length is ∙ length-append at path) ∙ long in
    ap (λ (n : ℕ). cond (nat_lt job.limits.depth n) (Some cause.Limit) None) sum ∙ ap (λ b. cond b (Some cause.Limit) None) deep

pub fails_at_directory : {job : Job} (source : Forest) (object : Object) {rows : List Row} {empty : ℕ} (t : List Frame) {name : List ℕ}
    → is_proper (pairtree_of source) ≡ true → is_trail t ≡ true → current_entry t ≡ Some (name, kind.Dir) → is_passed object t (name, kind.Dir) ≡ false
    → nat_lt job.limits.depth (length t) ≡ true → Fits (pairtree_of source) t → object.site ≤ length t → 0 < own_listings object t
    → HasScanned job (object_at source object (to_site object t)) rows empty (left_of source object t)
    → outcome job.limits (object_at source object (to_site object t)) ≡ Fails cause.Limit
fails_at_directory source object [] proper is_one e apart deep fits within own it = absurd (cc)
fails_at_directory {job} source object {rows} (frame ∷ frames) {name} proper is_one e apart deep fits within own it =
    let t = frame ∷ frames in
    let in_it = inside_at (pairtree_of source) (names_to frames ++ name ∷ []) in
    let what = object_at source object (to_site object t) in
    fails_at it
    (left_directory source object frame frames name (listing_of in_it) in_it proper fits within own e apart refl refl)
    (deep_entry job what.at (logical_path object t) (length rows) t in_it (path_in_object object t) (path_length frame frames _ is_one e) deep)

pub fails_at_file : {job : Job} (source : Forest) (object : Object) {rows : List Row} {empty : ℕ} (t : List Frame) {name : List ℕ}
    → is_proper (pairtree_of source) ≡ true → current_entry t ≡ Some (name, kind.File)
    → (nat_le job.limits.files (length rows) || nat_lt job.limits.path_bytes (length (joined (logical_path object t))))
    || nat_lt job.limits.file_bytes (length (bytes_at (pairtree_of source) (names_to t))) ≡ true
    → Fits (pairtree_of source) t → 0 < own_listings object t → HasScanned job (object_at source object (to_site object t)) rows empty (left_of source object t)
    → outcome job.limits (object_at source object (to_site object t)) ≡ Fails cause.Limit
fails_at_file source object [] proper e bad fits own it = absurd (cc)
fails_at_file source object (frame ∷ frames) {name} proper e bad fits own it =
    let t = frame ∷ frames in
    fails_at it
    (left_file source object frame frames name proper fits own e) (ap (λ b. cond b (Some cause.Limit) None) bad)

one_less : {n : ℕ} → 0 < n → n ≡ suc (n - 1)
one_less some = omega (arith, some)

left_other : (source : Forest) (object : Object) (frame : Frame) (frames : List Frame) {name : List ℕ} → is_proper (pairtree_of source) ≡ true
    → Fits (pairtree_of source) (frame ∷ frames) → 0 < own_listings object (frame ∷ frames)
    → entry_at frame ≡ Some (name, kind.Other) → left_of source object (frame ∷ frames) ≡ (logical_path object (frame ∷ frames), Other)
    ∷ left_of source object (advanced (frame ∷ frames))
left_other source object frame frames {name} proper fits some e =
    let top = pairtree_of source in
    let t = frame ∷ frames in
    let k = own_listings object t - 1 in
    let own : own_listings object t ≡ suc k = one_less some in
    ap (λ (n : ℕ). entries_left object.gathered top n t) own
    ∙ step.meets object.gathered top k frame frames name proper fits e
    ∙ ap (λ (p : Path). (p, Other) ∷ entries_left object.gathered top (suc k) (advanced t)) (logical_is object frame frames k (name, kind.Other) e own)
    ∙ ap (λ (n : ℕ). (logical_path object t, Other) ∷ entries_left object.gathered top n (advanced t)) (sym own)

pub fails_at_other : {job : Job} (source : Forest) (object : Object) {rows : List Row} {empty : ℕ} (t : List Frame) {name : List ℕ}
    → is_proper (pairtree_of source) ≡ true → current_entry t ≡ Some (name, kind.Other) → Fits (pairtree_of source) t → 0 < own_listings object t
    → HasScanned job (object_at source object (to_site object t)) rows empty (left_of source object t)
    → outcome job.limits (object_at source object (to_site object t)) ≡ Fails cause.Other
fails_at_other source object [] proper e fits own it = absurd (cc)
fails_at_other source object (frame ∷ frames) {name} proper e fits own it =
    let t = frame ∷ frames in
    fails_at it (left_other source object frame frames proper fits own e) refl

-- before its directory is entered
pub fails_before : {job : Job} {source : Forest} {prefix : List ℕ} {object : Object} (t : List Frame) {count : ℕ} → is_trail t ≡ true → object.gathered ≡ false
    → nat_lt job.limits.depth (length t) ≡ true → length t ≡ object.site → IsInObject job source prefix object t count
    → outcome job.limits (object_at source object (to_site object t)) ≡ Fails cause.Limit
fails_before [] is_one apart deep same it = absurd (let some = it.some in omega (arith, some, same))
fails_before {job} {source} {object} (frame ∷ frames) is_one apart deep same it =
    let t = frame ∷ frames in
    let site = site_itself object t same in
    let entry = dir_entry (entry_at frame) (sym (ap (λ (l : List Frame). is_dir_entry (current_entry l)) site) ∙ it.site.leads apart) in
    let what = object_at source object (to_site object t) in
    let at_is : what.at ≡ names_to t = ap (path_of_source object) site ∙ ap (λ b. cond b (names_to frames) (names_to t)) apart in
    fails_deep job what
    (ap (λ b. not b && nat_lt job.limits.depth (length what.at)) apart
    ∙ ap (λ (n : ℕ). nat_lt job.limits.depth n) (ap length at_is ∙ path_length frame frames _ is_one entry.1) ∙ deep)

-- a file is too long where too much of it was read
pub too_long : (most count more : ℕ) {long : ℕ} → nat_lt most (count + more) ≡ true → count + more ≤ long → nat_lt most long ≡ true
too_long most count more {long} is within = let above = ltb-true most (count + more) is in lt-ltb most long (omega (arith, above, within))

-- ---- each turn

pub scans_tell : {job : Job} {past : History} {s : Reading} {prefix : List ℕ} {root : Tree} {here next : Phase} {held after : Held} {calls : Calls}
    → ScanStep job here held after calls (Ok next) → is_trail held.trail ≡ true → SourcePart job past here prefix held s
    → IsFreeAt here job s.tree root past.count → (new : Reading) → Answers calls.asked (Some s) (Some new)
    → Tells job s.tree root past.count next calls.line (done_after here held.trail next past.count) []
unfolding Answers IsRead
scans_tell (StartsInSite _ _ _) _ _ _ _ _ = Nothing
scans_tell (EntersObject _ _ _ _ _) _ _ _ _ _ = Nothing
scans_tell {root} (IsTooDeep was _ apart deep) is_one source_part free _ _ = gives_up was source_part.at.1 source_part.at.2 free
    (fails_before was.trail is_one apart deep source_part.at.3 source_part.at.2)
scans_tell (PassesShorty _ _ _ _ _) _ _ _ _ _ = Nothing
scans_tell (EntersDirectory _ _ _ _ _ _ _) _ _ _ _ _ = Nothing
scans_tell {s} {root} (MeetsDeep was object _ e apart deep) is_one source_part free _ _ = gives_up was source_part.at.0 source_part.at.1.stands free
    (fails_at_directory s.tree object was.trail (pairtree_proper s.tree source_part.at.0.store source_part.proper) is_one e apart deep
    source_part.at.1.stands.fits source_part.at.1.stands.within source_part.at.1.inside source_part.at.1.scanned)
scans_tell (OpensFile _ _ _ _ _) _ _ _ _ _ = Nothing
scans_tell {job} {s} {root} (MeetsLimit was object _ e room) _ source_part free _ _ = gives_up was source_part.at.0 source_part.at.1.stands free
    (fails_at_file s.tree object was.trail (pairtree_proper s.tree source_part.at.0.store source_part.proper) e
    (or_left (is_beyond job was (logical_path object was.trail)) (nat_lt job.limits.file_bytes
    (length (bytes_at (pairtree_of s.tree) (names_to was.trail)))) room) source_part.at.1.stands.fits source_part.at.1.inside source_part.at.1.scanned)
scans_tell {s} {root} (MeetsOther was object _ e) _ source_part free _ _ = gives_up was source_part.at.0 source_part.at.1.stands free
    (fails_at_other s.tree object was.trail (pairtree_proper s.tree source_part.at.0.store source_part.proper) e source_part.at.1.stands.fits
    source_part.at.1.inside source_part.at.1.scanned)
scans_tell (EndsSite _ _ _ _) _ _ _ _ _ = Nothing
scans_tell (EndsObject _ _ _ _ _) _ _ _ _ _ = Nothing
scans_tell (LeavesDirectory _ _ _ _ _) _ _ _ _ _ = Nothing
scans_tell (ReadsOn _ _ _ _ _ _) _ _ _ _ _ = Nothing
scans_tell {job} {s} {root} (IsTooLong was object bytes byte block long) _ source_part free _ answers =
    let whole = bytes_at (pairtree_of s.tree) (names_to was.trail) in
    let within = (reads_block 8192 whole bytes was.fed _ s.unread source_part.at.2.read (answers.0 s refl)).within in
    gives_up was source_part.at.0 source_part.at.1.stands free
    (fails_at_file s.tree object was.trail (pairtree_proper s.tree source_part.at.0.store source_part.proper) source_part.at.2.file
    (or_right (is_beyond job was (logical_path object was.trail)) (nat_lt job.limits.file_bytes (length whole))
    (too_long job.limits.file_bytes bytes (length (byte ∷ block)) long within)) source_part.at.1.stands.fits source_part.at.1.inside
    source_part.at.1.scanned)
scans_tell (EndsFile _ _ _) _ _ _ _ _ = Nothing
