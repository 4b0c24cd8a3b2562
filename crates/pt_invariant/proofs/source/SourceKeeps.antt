-- Each turn that goes on keeps what holds where the source tells: the turns of the start and of the walk, and those that make and place an object.
use Rattle.std.proofs.Common.{◌≡◌, ◌≤◌, ℕ, true, List, [], ◌++◌, refl, ap, sym, ◌∙◌, arith, length}
use Rattle.std.specs.Prelude.{Option, None, Some, Ok, slice_get, take}
use Rattle.std.specs.Option.{ForSome, option_map}
use Rattle.pt_object.specs.FilePaths.{row_paths}
use Rattle.pt_tree.specs.PathOrder.{part_in_order}
use Rattle.pt_object.specs.declared.rows.Row.{Row}
use Rattle.pt_tree.specs.Forest.{Forest, is_proper}
use Rattle.pt_tree.specs.Path.{Path}
use Rattle.pt_tree.specs.Source.{Reading, IsRead, after_next, after_open}
use Rattle.pt_walk.specs.Left.{bytes_at}
use Rattle.pt_walk.specs.Trail.{advanced, entries_held, parent}
use Rattle.pt_walk.specs.declared.frame.Frame.{Frame}
use Rattle.pt_plan.specs.Job.{Job}
use Rattle.pt_plan.specs.Run.{Counts, Held}
use Rattle.pt_plan.specs.Store.{pairtree_of}
use Rattle.pt_plan.specs.TurnMake.{MakeStep, EndsCopy, MakesSidecar, path_of_source}
use Rattle.pt_plan.specs.TurnPlace.{PlaceStep, after_tuple, MakesTuple, FindsTuple, RenamesObject, TellsDone, TellsEnd, restarted}
use Rattle.pt_plan.specs.TurnScan.{to_site}
use Rattle.pt_plan.specs.TurnStart.{StartStep, MakesRoot, IsSame}
use Rattle.pt_plan.specs.TurnWalk.{WalkStep, OpensRoot, IsNew, IsPast, IsDeep, PassesElsewhere, EntersSite, PassesEntry, LeavesSite, at_object}
use Rattle.pt_plan.specs.DeviceStates.{Answers, Asked, AsksNothing, Lists, Looks, LooksAndLists, Opens, Reads, OpensAndReads, Calls}
use Rattle.pt_plan.specs.declared.object.Object.{Object}
use Rattle.pt_plan.specs.declared.phase.Phase.{Phase}
use Rattle.pt_plan.specs.declared.phase.Phase.TheVariants as phase
use Rattle.pt_plan.specs.declared.phase.Position.{Position}
use Rattle.pt_invariant.specs.HeldInvariant.{HeldAt}
use Rattle.pt_invariant.specs.SourceInvariant.{AreHeldThere, BytesAt, FewAt, IsCopyingFile, IsWithinBound, SourceAt, SourcePart}
use Rattle.pt_invariant.specs.History.{History, bytes_after, history_after, with_bytes_of}
use Rattle.pt_invariant.specs.SourceLaws.{MakingKeepsSource, PlacingKeepsSource, StartingKeepsSource, WalkingKeepsSource}
use Rattle.pt_invariant.proofs.held.EitherPhase.{after_root_file, after_root_item, after_sidecar, after_tuple_folder}
use Rattle.pt_invariant.proofs.held.TrailKeeps as trail
use Rattle.pt_invariant.proofs.source.InObject.{site_itself}
use Rattle.pt_invariant.proofs.source.InPairtree.{some_same}
use Rattle.pt_invariant.proofs.source.MakesKeep.{makes_keep}
use Rattle.pt_invariant.proofs.source.PlacesKeep.{places_keep}
use Rattle.pt_invariant.proofs.source.ReadsOn.{reads_end}
use Rattle.pt_invariant.proofs.bounds.Rooms.{entries_advanced, entries_parent, entries_sought, room_at_site}
use Rattle.pt_invariant.proofs.source.StartsKeep.{starts_keep}
use Rattle.pt_invariant.proofs.source.WalksKeep.{walks_keep}
use Rattle.pt_invariant.proofs.held.WithBytes.{rows_again}

-- no call changes the source's tree
pub tree_kept : (asked : Asked) (s new : Reading) → Answers asked (Some s) (Some new) → new.tree ≡ s.tree
unfolding Answers
tree_kept AsksNothing s new answers = ap (λ (r : Reading). r.tree) (some_same new s answers)
tree_kept (Looks seen) s new answers = ap (λ (r : Reading). r.tree) (some_same new s answers.1)
tree_kept (Lists path entries) s new answers = ap (λ (r : Reading). r.tree) (some_same new s answers.2)
tree_kept (LooksAndLists seen path entries) s new answers = ap (λ (r : Reading). r.tree) (some_same new s answers.3)
tree_kept (Opens path) s new answers = ap (λ (r : Reading). r.tree) (some_same new (after_open path s) answers)
tree_kept (Reads block) s new answers = ap (λ (r : Reading). r.tree) (some_same new (after_next s) answers.1)
tree_kept (OpensAndReads path block) s new answers = ap (λ (r : Reading). r.tree) (some_same new (after_next (after_open path s)) answers.1)

-- what is said of the tree beside where the run stands
pub record BesideAt (job : Job) (source : Forest) (bytes : Path → List ℕ) (here : Phase) (held : Held) : Type 0 where
  pub bytes_are : BytesAt source bytes here held
  pub few : FewAt job source here held

module _ {job : Job} (past : History) {here : Phase} {prefix : List ℕ} {held : Held} (asked : Asked) (s new : Reading) where
  pub with_beside : Answers asked (Some s) (Some new) → is_proper s.tree ≡ true → SourceAt job new prefix past.count here held
      → BesideAt job s.tree past.bytes here held → SourcePart job past here prefix held new
  with_beside answers proper at beside =
      let same = tree_kept asked s new answers in
      let moved = rw (← same) at beside in
      record { proper = ap is_proper same ∙ proper; at = at; bytes = moved.bytes_are; few = moved.few }

-- ---- the start

starts_beside : {job : Job} {source : Forest} {bytes : Path → List ℕ} {prefix read : List ℕ} {here next : Phase} {held : Held} {calls : Calls}
    → StartStep job here prefix read calls (Ok next) → FewAt job source here held → BesideAt job source bytes next held
starts_beside {job} {source} {bytes} {held} (MakesRoot was number item is) few =
    after_root_item (λ p. BesideAt job source bytes p held) number (λ last. record { bytes_are = tt; few = few }) (λ more. record { bytes_are = tt; few = few })
starts_beside {job} {source} {bytes} {held} (IsSame was number path read is) few =
    after_root_file (λ p. BesideAt job source bytes p held) number (λ last. record { bytes_are = tt; few = few }) (λ more. record { bytes_are = tt; few = few })
starts_beside turn few = record { bytes_are = tt; few = few }

pub starts_source : StartingKeepsSource
starts_source job past s new prefix read here next held calls turn answers at part =
    let after = history_after here next held past in
    with_beside after calls.asked s new answers part.proper (starts_keep s new past.count held turn part.at answers) (starts_beside turn part.few)

-- ---- the walk

-- with the trail moved so that it lists no more
fewer : (job : Job) (source : Forest) (held new : Held) → new.rows ≡ held.rows → new.contents ≡ held.contents → entries_held new.trail ≤ entries_held held.trail
    → IsWithinBound job source held → IsWithinBound job source new
fewer job source held new rows contents less few = let one = ap length rows in let two = ap length contents in omega (arith, one, two, less, few)

object_sought : (index : Option ℕ) (t : List Frame) → entries_held (at_object index t) ≡ entries_held t
object_sought None t = refl
object_sought (Some index) t = entries_sought index t

pub behind_parent : (t : List Frame) → entries_held (advanced (parent t)) ≤ entries_held t
behind_parent t = let one = entries_advanced (parent t) in let two = entries_parent t in omega (arith, one, two)

-- at a site nothing is held but its listings
within_at_site : (job : Job) {past : History} (s : Reading) {prefix : List ℕ} {here : Phase} {held after : Held} {calls : Calls}
    → WalkStep job prefix here held after calls (Ok phase.Judge) → Answers calls.asked (Some s) (Some s)
    → HeldAt job past here held → SourcePart job past here prefix held s → IsWithinBound job s.tree after
within_at_site job {past} s {after} turn answers at part =
    let one = (trail.walks_keep (Some s) (Some s) turn answers at.trail).is_one in
    let there = walks_keep job s s past.count part.proper at.trail.is_one turn part.at answers in
    let room = room_at_site job s.tree after.trail past.count one there.2 in
    let rows = ap length there.0.rows in
    let contents = ap length there.0.contents in
    omega (arith, rows, contents, room)

module _ (job : Job) (past : History) (s new : Reading) (prefix : List ℕ) where
  walks_beside : (here next : Phase) (held after : Held) (calls : Calls) → WalkStep job prefix here held after calls (Ok next)
      → Answers calls.asked (Some s) (Some new) → HeldAt job past here held
      → SourcePart job past here prefix held s → BesideAt job s.tree (bytes_after here next held past.bytes) next after
  unfolding Answers
  walks_beside here next held after calls (OpensRoot was items) answers at part =
      record { bytes_are = tt; few = within_at_site job s (OpensRoot was items) (answers.0, answers.1, refl) at part }
  walks_beside here next held after calls (IsNew was index id is) answers at part =
      record { bytes_are = tt; few = fewer job s.tree was after refl refl (let same = object_sought index was.trail in omega (arith, same)) part.few }
  walks_beside here next held after calls (IsPast was name e short last) answers at part =
      record { bytes_are = tt; few = fewer job s.tree was after refl refl (let same = entries_advanced was.trail in omega (arith, same)) part.few }
  walks_beside here next held after calls (IsDeep was name e short last deep) answers at part =
      record { bytes_are = tt; few = fewer job s.tree was after refl refl (let same = entries_advanced was.trail in omega (arith, same)) part.few }
  walks_beside here next held after calls (PassesElsewhere was name e short last deep apart) answers at part =
      record { bytes_are = tt; few = fewer job s.tree was after refl refl (let same = entries_advanced was.trail in omega (arith, same)) part.few }
  walks_beside here next held after calls (EntersSite was name items e short last deep own) answers at part =
      record { bytes_are = tt; few = within_at_site job s (EntersSite was name items e short last deep own) (answers.0, answers.1, refl) at part }
  walks_beside here next held after calls (PassesEntry was item e apart) answers at part =
      record { bytes_are = tt; few = fewer job s.tree was after refl refl (let same = entries_advanced was.trail in omega (arith, same)) part.few }
  walks_beside here next held after calls (LeavesSite was e long) answers at part =
      record { bytes_are = tt; few = fewer job s.tree was after refl refl (behind_parent was.trail) part.few }
  walks_beside here next held after calls turn answers at part = record { bytes_are = tt; few = part.few }

pub walks_source : WalkingKeepsSource
walks_source job past s new prefix here next held after calls turn answers at part =
    with_beside (history_after here next held past) calls.asked s new answers part.proper
    (walks_keep job s new past.count part.proper at.trail.is_one turn part.at answers)
    (walks_beside job past s new prefix here next held after calls turn answers at part)

-- ---- an object at its place

after_a_tuple : (job : Job) {source : Forest} {bytes : Path → List ℕ} (object : Object) {held : Held} (number : ℕ)
    → AreHeldThere source object (to_site object held.trail) bytes held.rows → IsWithinBound job source held
    → BesideAt job source bytes (after_tuple job object number) held
after_a_tuple job {source} {bytes} object {held} number there few =
    after_tuple_folder (λ p. BesideAt job source bytes p held) job object number
    (λ more. record { bytes_are = there; few = few }) (λ last. record { bytes_are = there; few = few })

at_site_again : (job : Job) (source : Forest) (held : Held) → IsWithinBound job source held → IsWithinBound job source (restarted held)
at_site_again job source held few = let same = entries_sought 0 held.trail in omega (arith, same, few)

places_beside : {job : Job} {counts : Counts} {past : History} {s : Reading} {prefix : List ℕ} {here next : Phase} {held after : Held} {calls : Calls}
    → PlaceStep job counts here held after calls (Ok next)
    → SourcePart job past here prefix held s → BesideAt job s.tree (bytes_after here next held past.bytes) next after
places_beside {job} (MakesTuple was object number) part = after_a_tuple job object number part.bytes part.few
places_beside {job} (FindsTuple was object number) part = after_a_tuple job object number part.bytes part.few
places_beside (RenamesObject was object) part = record { bytes_are = part.bytes; few = part.few }
places_beside {job} {s} (TellsDone was object) part = record { bytes_are = tt; few = at_site_again job s.tree was part.few }
places_beside (TellsEnd was) part = record { bytes_are = tt; few = tt }

pub places_source : PlacingKeepsSource
places_source job counts past s new prefix here next held after calls turn answers at part =
    with_beside (history_after here next held past) calls.asked s new answers part.proper (places_keep job s new prefix past.count turn part.at answers)
    (places_beside turn part)

-- ---- an object that is made

-- what was read of a file a second time is what the source holds there
read_again : (s : Reading) (bytes : Path → List ℕ) (object : Object) (held : Held) (n : ℕ) (row : Row) → slice_get held.rows n ≡ Some row
    → part_in_order (row_paths held.rows) ≡ true → to_site object held.trail ≡ held.trail
    → held.fed ≡ bytes_at (pairtree_of s.tree) (path_of_source object held.trail ++ row.path)
    → AreHeldThere s.tree object (to_site object held.trail) bytes held.rows
    → AreHeldThere s.tree object (to_site object held.trail) (with_bytes_of (slice_get held.rows n) held.fed bytes) held.rows
read_again s bytes object held n row is order site whole there =
    rows_again (λ b r. b ≡ bytes_at (pairtree_of s.tree) (path_of_source object (to_site object held.trail) ++ r.path)) bytes held.fed held.rows n _ is order
    (whole ∙ ap (λ (t : List Frame). bytes_at (pairtree_of s.tree) (path_of_source object t ++ row.path)) (sym site)) there

-- at its end all of it was read
copied_whole : (s : Reading) (object : Object) (held : Held) {position : Position} {left : ℕ} (row : Row) → slice_get held.rows position.row ≡ Some row
    → ForSome (Some s) (λ (r : Reading). option_map (take 8192) r.unread ≡ Some []) → IsCopyingFile s.tree object held position s.unread left
    → held.fed ≡ bytes_at (pairtree_of s.tree) (path_of_source object held.trail ++ row.path)
copied_whole s object held row is ended it =
    let same : it.row ≡ row = some_same it.row row (sym it.is_row ∙ is) in
    (reads_end 8192 _ _ held.fed s.unread (omega arith) it.read (ended s refl)).all
    ∙ ap (λ (r : Row). bytes_at (pairtree_of s.tree) (path_of_source object held.trail ++ r.path)) same

makes_beside : {job : Job} (past : History) (s new : Reading) {prefix : List ℕ} {here : Phase} {held after : Held} {calls : Calls} {next : Phase}
    → MakeStep job here held after calls (Ok next) → Answers calls.asked (Some s) (Some new)
    → HeldAt job past here held → SourcePart job past here prefix held s → BesideAt job s.tree (bytes_after here next held past.bytes) next after
unfolding Answers IsRead
makes_beside past s new (EndsCopy was object position row left is same) answers at part = record {
  bytes_are =
      read_again s past.bytes object was position.row row is at.rows.order (site_itself object _ at.ends.1)
      (copied_whole s object was row is answers.0 part.at.2) part.bytes;
  few = part.few;
}
makes_beside {job} past s new {after} (MakesSidecar was object) answers at part =
    after_sidecar (λ p. BesideAt job s.tree past.bytes p after) job object
    (λ flat. record { bytes_are = part.bytes; few = part.few }) (λ some. record { bytes_are = part.bytes; few = part.few })
makes_beside past s new turn answers at part = record { bytes_are = part.bytes; few = part.few }

pub makes_source : MakingKeepsSource
makes_source job past s new prefix here held after calls next turn answers at part =
    with_beside (history_after here next held past) calls.asked s new answers part.proper
    (makes_keep job s new prefix past.count part.proper turn part.at answers) (makes_beside past s new turn answers at part)
