-- What a run in progress has behind it, and what a turn adds to it. No run keeps it: that there is such a past is what is said of a run in progress.
use Rattle.std.specs.Prelude.{ℕ, suc, ◌&&◌, ◌||◌, Bool, true, false, cond, not, List, [], ◌∷◌, ◌++◌, map, Option, None, Some, slice_get}
use Rattle.pt_object.specs.FilePaths.{File}
use Rattle.pt_object.specs.declared.rows.Row.{Row}
use Rattle.pt_tree.specs.Listing.{Item}
use Rattle.pt_tree.specs.Path.{Path, same_path}
use Rattle.pt_walk.specs.Site.{is_shorty}
use Rattle.pt_walk.specs.Trail.{current_entry}
use Rattle.pt_walk.specs.declared.frame.Frame.{Frame}
use Rattle.pt_plan.specs.Carried.{Carried}
use Rattle.pt_plan.specs.Run.{Held}
use Rattle.pt_plan.specs.TurnScan.{logical_path}
use Rattle.pt_plan.specs.declared.object.Object.{Object}
use Rattle.pt_plan.specs.declared.phase.Phase.{Phase}
use Rattle.pt_plan.specs.declared.phase.Opening.TheVariants as opening
use Rattle.pt_plan.specs.declared.phase.Phase.TheVariants as phase
use Rattle.pt_plan.specs.declared.phase.Stage.TheVariants as stage

-- how many items are done, the objects that were brought to their places, and what the files of the object under way hold, each at its logical path
pub record History : Type 0 where
  pub count : ℕ
  pub placed : List Carried
  pub bytes : Path → List ℕ

-- nothing was done yet
abbrev pub no_history : History
no_history = record { count = 0; placed = []; bytes = λ path. [] }

-- ---- how many items are done

-- the walk goes on from where the trail stands
abbrev pub is_walk : Phase → Bool
is_walk phase.Walk = true
is_walk _ = false

-- this entry is a shorty
abbrev pub is_shorty_there : Option Item → Bool
is_shorty_there None = false
is_shorty_there (Some item) = is_shorty item

-- a turn from this phase to that one is the last one of its item: the walk goes on behind a site, or passes a shorty, at which this trail stood
abbrev pub ends_item : Phase → List Frame → Phase → Bool
ends_item here trail next = is_walk next && (not (is_walk here) || is_shorty_there (current_entry trail))

-- how many items are done after the turn
abbrev pub done_after : Phase → List Frame → Phase → ℕ → ℕ
done_after here trail next count = cond (ends_item here trail next) (suc count) count

-- ---- what the files hold

-- with this at a path
abbrev pub with_bytes : Path → List ℕ → (Path → List ℕ) → Path → List ℕ
with_bytes path read bytes = λ p. cond (same_path p path) read (bytes p)

-- with this at the path of a row, if there is one
abbrev pub with_bytes_of : Option Row → List ℕ → (Path → List ℕ) → Path → List ℕ
with_bytes_of None read bytes = bytes
with_bytes_of (Some row) read bytes = with_bytes row.path read bytes

-- with what was read of the file at the innermost place, if the scan goes on behind it
abbrev pub bytes_scanned : Object → Phase → Held → (Path → List ℕ) → Path → List ℕ
bytes_scanned object (phase.Carrying next stage.Scan) held bytes = with_bytes (logical_path object held.trail) held.fed bytes
bytes_scanned object _ held bytes = bytes

-- with what was read of the file that was copied, once it is closed
abbrev pub bytes_copied : ℕ → Phase → Held → (Path → List ℕ) → Path → List ℕ
bytes_copied row (phase.Carrying next (stage.Make part)) held bytes = with_bytes_of (slice_get held.rows row) held.fed bytes
bytes_copied row _ held bytes = bytes

-- after a turn from this phase to that one: what was read of a file to its end
abbrev pub bytes_after : Phase → Phase → Held → (Path → List ℕ) → Path → List ℕ
bytes_after (phase.Carrying object (stage.Read count)) next held bytes = bytes_scanned object next held bytes
bytes_after (phase.Carrying object (stage.Copy position left)) next held bytes = bytes_copied position.row next held bytes
bytes_after _ next held bytes = bytes

-- ---- the objects placed

-- the files of these rows, each with what it holds
abbrev pub files_held : List Row → (Path → List ℕ) → List File
files_held rows bytes = map (λ row. (row.path, bytes row.path)) rows

-- the object under way, with the files that are held of it
abbrev pub object_held : Object → List Row → (Path → List ℕ) → Carried
object_held object rows bytes = record { id = object.id; files = files_held rows bytes }

-- with the object that was renamed to its place; none is when the pairtree is opened
abbrev pub placed_after : Phase → Phase → Held → History → List Carried
placed_after (phase.Carrying object stage.Rename) next held past =
    past.placed ++ object_held object held.rows past.bytes ∷ []
placed_after _ (phase.Opening opening.OpenRoot) held past = []
placed_after _ next held past = past.placed

-- ---- a turn

-- what is behind a run after a turn from this phase to that one, before which this was held
abbrev pub history_after : Phase → Phase → Held → History → History
history_after here next held past = record {
  count = done_after here held.trail next past.count;
  placed = placed_after here next held past;
  bytes = bytes_after here next held past.bytes;
}
