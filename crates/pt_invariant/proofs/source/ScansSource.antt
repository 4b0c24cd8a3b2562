-- Each turn of the scan that goes on keeps what holds where the source tells.
use Rattle.std.proofs.Common.{◌≡◌, ◌≤◌, ℕ, ◌+◌, ◌-◌, true, false, List, [], ◌∷◌, ◌++◌, refl, ap, sym, ◌∙◌, subst, append-nil, arith, cond, length}
use Rattle.std.specs.Prelude.{All, Some, Ok, nat_lt}
use Rattle.pt_object.specs.Algorithm.{digest_of}
use Rattle.pt_object.specs.Rows.{row_of}
use Rattle.pt_object.specs.declared.rows.Row.{Row}
use Rattle.pt_tree.specs.Forest.{Forest, is_proper, listing_at}
use Rattle.pt_tree.specs.Listing.{Item}
use Rattle.pt_tree.specs.Path.{Path}
use Rattle.pt_tree.specs.Source.{Reading, IsListed, IsRead}
use Rattle.pt_tree.specs.declared.kind.Kind.TheVariants as kind
use Rattle.pt_walk.specs.Left.{bytes_at}
use Rattle.pt_walk.specs.Trail.{advanced, current_entry, entered, entries_held, is_trail, names_to, parent, sought, trail_path}
use Rattle.pt_walk.specs.declared.frame.Frame.{Frame}
use Rattle.pt_plan.specs.Bound.{bound}
use Rattle.pt_plan.specs.Items.{PairtreeObject}
use Rattle.pt_plan.specs.Job.{Job}
use Rattle.pt_plan.specs.Run.{Held, with_trail}
use Rattle.pt_plan.specs.Store.{pairtree_of}
use Rattle.pt_plan.specs.TurnMake.{path_of_source}
use Rattle.pt_plan.specs.TurnScan.{
  ScanStep,
  StartsInSite,
  EntersObject,
  IsTooDeep,
  PassesShorty,
  EntersDirectory,
  MeetsDeep,
  OpensFile,
  MeetsLimit,
  MeetsOther,
  EndsSite,
  EndsObject,
  LeavesDirectory,
  ReadsOn,
  IsTooLong,
  EndsFile,
  back_at_site,
  is_passed,
  logical_path,
  to_site,
  with_directory,
  with_file,
}
use Rattle.pt_plan.specs.DeviceStates.{Answers, Calls}
use Rattle.pt_plan.specs.declared.object.Object.{Object}
use Rattle.pt_plan.specs.declared.phase.Phase.{Phase}
use Rattle.pt_plan.specs.declared.phase.Phase.TheVariants as phase
use Rattle.pt_plan.specs.declared.phase.Stage.TheVariants as stage
use Rattle.pt_invariant.specs.HeldInvariant.{HeldAt}
use Rattle.pt_invariant.specs.SourceInvariant.{AreHeldThere, HasRoom, HasStarted, IsScanning, IsWithinBound, SourcePart, object_at}
use Rattle.pt_invariant.specs.History.{bytes_after, History, history_after, with_bytes}
use Rattle.pt_invariant.specs.SourceLaws.{ScanningKeepsSource}
use Rattle.pt_invariant.proofs.source.InObject.{path_in_object, site_entered, site_itself}
use Rattle.pt_invariant.proofs.source.InPairtree.{listing_in, pairtree_proper}
use Rattle.pt_invariant.proofs.source.ReadsOn.{reads_end}
use Rattle.pt_invariant.proofs.bounds.Rooms.{
  directory_scanned,
  entries_advanced,
  entries_dropped,
  entries_parent,
  entries_sought,
  records_held,
  room_at,
  room_moved,
}
use Rattle.pt_invariant.proofs.source.ScanSteps.{moved_behind, moved_on, moved_out}
use Rattle.pt_invariant.proofs.held.ScansHold.{here_behind}
use Rattle.pt_invariant.proofs.held.TrailKeeps as trail
use Rattle.pt_invariant.proofs.source.ScansKeep.{below_site_of, scans_keep, some_around}
use Rattle.pt_invariant.proofs.source.SourceKeeps.{BesideAt, behind_parent, with_beside}
use Rattle.pt_invariant.proofs.held.WithBytes.{rows_push}

-- ---- the bytes of the rows

-- of no rows
none_there : (source : Forest) (object : Object) (site : List Frame) (bytes : Path → List ℕ) {rows : List Row} → rows ≡ []
    → AreHeldThere source object site bytes rows
none_there source object site bytes none = subst (AreHeldThere source object site bytes) (sym none) (λ k d h. absurd (omega (arith, h)))

-- the same object's
still_there : (source : Forest) (object : Object) (old new : List Frame) (bytes : Path → List ℕ) (rows : List Row)
    → object_at source object old ≡ object_at source object new → AreHeldThere source object old bytes rows → AreHeldThere source object new bytes rows
still_there source object old new bytes rows same there =
    subst (λ (o : PairtreeObject). All (λ row. bytes row.path ≡ bytes_at (pairtree_of source) (o.at ++ row.path)) rows) same there

-- with the file that was read
one_more_there : {job : Job} (source : Forest) (object : Object) (held : Held) (item : Item) (read : ℕ) (bytes : Path → List ℕ) {past : History} {count : ℕ}
    → current_entry held.trail ≡ Some item → HeldAt job past (phase.Carrying object (stage.Read count)) held
    → held.fed ≡ bytes_at (pairtree_of source) (names_to held.trail) → AreHeldThere source object (to_site object held.trail) bytes held.rows
    → AreHeldThere source object (to_site object held.trail) (with_bytes (logical_path object held.trail) held.fed bytes)
    (held.rows ++ row_of (logical_path object held.trail) (digest_of job.algorithm held.fed) read ∷ [])
one_more_there source object held item read bytes e at whole there =
    let path = logical_path object held.trail in
    rows_push (λ b r. b ≡ bytes_at (pairtree_of source) (path_of_source object (to_site object held.trail) ++ r.path)) bytes held.fed
    _ refl (whole ∙ ap (bytes_at (pairtree_of source)) (path_in_object object held.trail))
    held.rows (here_behind _ held.trail e at.ends.1 at.behind) there

-- ---- how much is held

module _ (job : Job) (source : Forest) (object : Object) (held : Held) where
  -- the object is given up
  back_room : (others : ℕ) → entries_held held.trail + others ≤ bound job source → IsWithinBound job source (back_at_site object held)
  back_room others few =
      let one = entries_sought 0 (to_site object held.trail) in
      let two = entries_dropped (length held.trail - object.site) held.trail in
      omega (arith, one, two, few)

  given_room : HasRoom job source object held → IsWithinBound job source (back_at_site object held)
  given_room room = back_room _ room

  early_room : IsWithinBound job source held → IsWithinBound job source (back_at_site object held)
  early_room few = back_room (length held.rows + length held.contents) (omega (arith, few))

-- all of it was scanned
made_room : (job : Job) {source : Forest} {prefix : List ℕ} {past : History} {object : Object} {held : Held} (t : List Frame) {count : ℕ}
    → HeldAt job past (phase.Carrying object stage.Scan) held → IsScanning job source prefix object held count → entries_held t ≤ entries_held held.trail
    → HasRoom job source object held → IsWithinBound job source (with_trail held t)
made_room job {object} {held} t at it less room =
    let records = records_held job _ held object.empty _ at.rows.contents it.scanned in
    omega (arith, less, records, room)

-- at the object's own directory, or in its site
room_in_site : (job : Job) {source : Forest} {prefix : List ℕ} {object : Object} (held : Held) (t : List Frame) {count : ℕ} → object.gathered ≡ true
    → length t ≡ object.site → HasStarted source prefix → is_trail (sought 0 t) ≡ true
    → IsScanning job source prefix object (with_trail held (sought 0 t)) count → HasRoom job source object (with_trail held (sought 0 t))
room_in_site job held [] gathered same started is_one it = absurd (let some = it.stands.some in omega (arith, some, same))
room_in_site job {source} {prefix} {object} held (frame ∷ frames) {count} gathered same started is_one it =
    let t = sought 0 (frame ∷ frames) in
    room_at job source prefix object _ count [] started it is_one
    (sym (append-nil (names_to frames))
    ∙ ap (λ (p : Path). p ++ []) (sym (ap (path_of_source object) (site_itself object t same) ∙ ap (λ b. cond b (names_to frames) (names_to t)) gathered)))
    (record { index = 0; is = refl })

room_in_directory : (job : Job) (source : Forest) (prefix : List ℕ) (object : Object) (held : Held) (items : List Item) (t : List Frame) (count : ℕ)
    → object.gathered ≡ false → length t ≡ object.site → HasStarted source prefix → is_trail (entered items t) ≡ true
    → IsScanning job source prefix (with_directory object items) (with_trail held (entered items t)) count
    → HasRoom job source (with_directory object items) (with_trail held (entered items t))
room_in_directory job source prefix object held items t count apart same started is_one it =
    let within : object.site ≤ length t = omega (arith, same) in
    room_at job source prefix _ _ count [] started it is_one
    (sym (append-nil (names_to t))
    ∙ ap (λ (p : Path). p ++ []) (sym (ap (path_of_source object) (site_entered object items t within ∙ site_itself object t same)
    ∙ ap (λ b. cond b (trail_path t) (names_to t)) apart)))
    (record { index = 0; is = refl })

-- in a directory of it
room_below : (job : Job) (source : Forest) (prefix : List ℕ) (object : Object) (held : Held) (items : List Item) (name : List ℕ) (count : ℕ)
    → is_proper (pairtree_of source) ≡ true → is_trail held.trail ≡ true
    → current_entry held.trail ≡ Some (name, kind.Dir) → is_passed object held.trail (name, kind.Dir) ≡ false
    → nat_lt job.limits.depth (length held.trail) ≡ false → listing_at (pairtree_of source) (names_to held.trail) ≡ Some items
    → HasStarted source prefix → is_trail (entered items held.trail) ≡ true → IsScanning job source prefix object held count
    → IsScanning job source prefix (with_directory object items) (with_trail held (entered items held.trail)) count
    → HasRoom job source (with_directory object items) (with_trail held (entered items held.trail))
room_below job source prefix object held items name count proper is_one e apart shallow listing started one_later before it =
    let t = held.trail in
    let same : to_site object (entered items t) ≡ to_site object t = site_entered object items t before.stands.within in
    room_at job source prefix _ _ count _ started it one_later
    (path_in_object object t ∙ ap (λ (s : List Frame). path_of_source object s ++ logical_path object t) (sym same))
    (rw same
    (directory_scanned job source object held.rows object.empty t name items proper is_one e apart shallow listing before.stands.fits before.stands.within
    before.inside before.scanned))

-- ---- each turn

same_entries : (t : List Frame) → entries_held (advanced t) ≤ entries_held t
same_entries t = let one = entries_advanced t in omega (arith, one)

-- the trail moved in the object
moved_beside : (job : Job) {source : Forest} {bytes : Path → List ℕ} {object : Object} (held : Held) (t : List Frame)
    → object_at source object (to_site object held.trail) ≡ object_at source object (to_site object t) → entries_held t ≤ entries_held held.trail
    → AreHeldThere source object (to_site object held.trail) bytes held.rows → HasRoom job source object held
    → BesideAt job source bytes (phase.Carrying object stage.Scan) (with_trail held t)
moved_beside job {source} {bytes} {object} held t same less there room = record {
  bytes_are = still_there source object (to_site object held.trail) (to_site object t) bytes held.rows same there;
  few = room_moved job source object held (with_trail held t) same less room;
}

-- where a turn goes on with the scan, what it keeps of the trail and of the object
in_scan : {job : Job} {past : History} (s : Reading) {prefix : List ℕ} {here : Phase} {held after : Held} {calls : Calls} {object : Object}
    → ScanStep job here held after calls (Ok (phase.Carrying object stage.Scan))
    → Answers calls.asked (Some s) (Some s) → HeldAt job past here held → SourcePart job past here prefix held s
    → (is_trail after.trail ≡ true) × IsScanning job s.tree prefix object after past.count
in_scan {past} s {prefix} turn answers at part =
    ((trail.scans_keep (Some s) (Some s) turn answers at.trail).is_one, (scans_keep s s prefix past.count part.proper at.trail.is_one turn part.at answers).1)

scans_beside : (job : Job) {past : History} (s new : Reading) {prefix : List ℕ} {here next : Phase} {held after : Held} {calls : Calls}
    → ScanStep job here held after calls (Ok next) → Answers calls.asked (Some s) (Some new) → HeldAt job past here held
    → SourcePart job past here prefix held s → BesideAt job s.tree (bytes_after here next held past.bytes) next after
unfolding Answers IsListed IsRead
scans_beside job {past} s new {after} (StartsInSite was object gathered) answers at part =
    let now = in_scan s (StartsInSite was object gathered) refl at part in
    record {
      bytes_are = none_there s.tree object (to_site object after.trail) past.bytes at.rows.rows;
      few = room_in_site job was was.trail gathered at.ends.1 part.at.1 now.0 now.1;
    }
scans_beside job {past} s new {prefix} {after} (EntersObject was object items apart shallow) answers at part =
    let now = in_scan s (EntersObject was object items apart shallow) (answers.0, answers.1, refl) at part in
    record {
      bytes_are = none_there s.tree (with_directory object items) (to_site object after.trail) past.bytes at.rows.rows;
      few = room_in_directory job s.tree prefix object was items was.trail past.count apart at.ends.1 part.at.1 now.0 now.1;
    }
scans_beside job s new (IsTooDeep was object apart deep) answers at part =
    record { bytes_are = tt; few = early_room job s.tree object was part.few }
scans_beside job {past} s new {prefix} (PassesShorty was object item e passed) answers at part =
    moved_beside job was _ (moved_on job s.tree prefix object was.trail past.count part.at.1.inside part.at.1.stands).same (same_entries was.trail) part.bytes
    part.few
scans_beside job {past} s new {prefix} {after} (EntersDirectory was object name items e apart shallow) answers at part =
    let now = in_scan s (EntersDirectory was object name items e apart shallow) (answers.0, answers.1, refl) at part in
    record {
      bytes_are = still_there s.tree object (to_site object was.trail) (to_site object after.trail) past.bytes was.rows
          (ap (object_at s.tree object) (sym (site_entered object items was.trail part.at.1.stands.within))) part.bytes;
      few = room_below job s.tree prefix object was items name past.count (pairtree_proper s.tree part.at.0.store part.proper) at.trail.is_one e apart shallow
          (sym (listing_in s.tree _ part.at.0.store) ∙ answers.0 s refl) part.at.0 now.0 part.at.1 now.1;
    }
scans_beside job s new (MeetsDeep was object name e apart deep) answers at part =
    record { bytes_are = tt; few = given_room job s.tree object was part.few }
scans_beside job s new (OpensFile was object name e room) answers at part =
    record { bytes_are = part.bytes; few = part.few }
scans_beside job s new (MeetsLimit was object name e room) answers at part =
    record { bytes_are = tt; few = given_room job s.tree object was part.few }
scans_beside job s new (MeetsOther was object name e) answers at part =
    record { bytes_are = tt; few = given_room job s.tree object was part.few }
scans_beside job s new (EndsSite was object e there) answers at part =
    record { bytes_are = part.bytes; few = made_room job was.trail at part.at.1 (omega arith) part.few }
scans_beside job {past} s new (EndsObject was object e apart own) answers at part =
    record {
      bytes_are = still_there s.tree object (to_site object was.trail) (to_site object (parent was.trail)) past.bytes was.rows
          (moved_out was.trail (below_site_of object was.trail apart part.at.1.stands.within) part.at.1.stands).same part.bytes;
      few = made_room job (parent was.trail) at part.at.1 (entries_parent was.trail) part.few;
    }
scans_beside job {past} s new {prefix} (LeavesDirectory was object e apart outside) answers at part =
    let below = below_site_of object was.trail apart part.at.1.stands.within in
    moved_beside job was _ (moved_behind job s.tree prefix object was.trail past.count below (some_around object was.trail outside below) part.at.1.stands).same
    (behind_parent was.trail) part.bytes part.few
scans_beside job s new (ReadsOn was object bytes byte block short) answers at part =
    record { bytes_are = part.bytes; few = part.few }
scans_beside job s new (IsTooLong was object bytes byte block long) answers at part =
    record { bytes_are = tt; few = given_room job s.tree object was part.few }
scans_beside job {past} s new {prefix} (EndsFile was object bytes) answers at part =
    let whole = (reads_end 8192 _ bytes was.fed s.unread (omega arith) part.at.2.read (answers.0 s refl)).all in
    let same = (moved_on job s.tree prefix object was.trail past.count part.at.1.inside part.at.1.stands).same in
    record {
      bytes_are = still_there s.tree object (to_site object was.trail) (to_site object (advanced was.trail))
          (with_bytes (logical_path object was.trail) was.fed past.bytes) _ same
          (one_more_there s.tree object was at.trail.entry.0 bytes past.bytes at.trail.entry.1 at whole part.bytes);
      few = room_moved job s.tree object was (with_file job object was bytes) same (same_entries was.trail) part.few;
    }

pub scans_source : ScanningKeepsSource
scans_source job past s new prefix here next held after calls turn answers at part =
    with_beside (history_after here next held past) calls.asked s new answers part.proper
    (scans_keep s new prefix past.count part.proper at.trail.is_one turn part.at answers)
    (scans_beside job s new turn answers at part)
