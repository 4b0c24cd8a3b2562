-- What the turn of a phase needs of what a run holds, and of its numbers, so that its code can be run.
use Rattle.std.specs.Prelude.{◌≡◌, ◌<◌, ◌≤◌, ◌^◌, [], IsSome, IsTrue, false, length, ⊤}
use Rattle.pt_walk.specs.Trail.{current_entry, is_dir_entry}
use Rattle.pt_plan.specs.RootNumbers.{root_file_count, root_item_count}
use Rattle.pt_plan.specs.TurnPlace.{bytes_in_rows}
use Rattle.pt_plan.specs.TurnScan.{own_listings}
use Rattle.pt_plan.specs.declared.phase.Phase.{Phase}
use Rattle.pt_plan.specs.declared.phase.Opening.TheVariants as opening
use Rattle.pt_plan.specs.declared.phase.Phase.TheVariants as phase
use Rattle.pt_plan.specs.declared.phase.Stage.TheVariants as stage
use Rattle.pt_make.specs.Making.{IsReadyFor}
use Rattle.pt_scan.specs.Scanning.{IsSite}
use Rattle.pt_state.specs.declared.state.State.{State}

-- where it stands: the trail is in the object under way, and rows and tuples of these numbers are there
abbrev pub Stands : Phase → State → Type 0
Stands (phase.Opening (opening.RootMake item)) s = item < root_item_count
Stands (phase.Opening (opening.RootCheck file)) s = file < root_file_count
Stands (phase.Opening opening.OpenRoot) s = s.trail ≡ []
Stands (phase.Carrying object stage.Open) s =
    IsSite object s.trail
    × (object.gathered ≡ false → IsTrue (is_dir_entry (current_entry s.trail)))
Stands (phase.Carrying object stage.Scan) s = IsSite object s.trail × (0 < own_listings object s.trail)
Stands (phase.Carrying object (stage.Read bytes)) s =
    IsSite object s.trail × (0 < own_listings object s.trail) × IsSome (current_entry s.trail)
Stands (phase.Carrying object (stage.Make part)) s = IsReadyFor part object s
Stands (phase.Carrying object (stage.Copy position left)) s = (position.row < length s.rows)
    × (position.stored < length s.contents)
Stands (phase.Carrying object (stage.Tuples number)) s = number < s.job.layout.count
Stands (phase.Carrying object stage.Line) s = 0 < length s.trail
Stands phase.Ended s = ⊥
Stands _ s = ⊤

-- the numbers that the phase's turn adds to are within their types
abbrev pub AddsWithin : Phase → Type 0
AddsWithin (phase.Carrying object stage.Open) = object.empty < 2 ^ 40
AddsWithin (phase.Carrying object stage.Scan) = object.empty < 2 ^ 40
AddsWithin (phase.Carrying object (stage.Read bytes)) = bytes ≤ 2 ^ 43
AddsWithin _ = ⊤

-- so are all others
pub record CanAdd (here : Phase) (s : State) : Type 0 where
  pub done : s.counts.done < 2 ^ 40
  pub present : s.counts.present < 2 ^ 40
  pub skipped : s.counts.skipped < 2 ^ 40
  pub lengths : bytes_in_rows s.rows < 2 ^ 64
  pub here_is : AddsWithin here
