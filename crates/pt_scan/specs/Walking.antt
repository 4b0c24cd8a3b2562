-- What the turns of the walk ask of where it stands.
use Rattle.std.specs.Prelude.{◌≡◌, ◌<◌, ◌^◌, ℕ, List, true, Ok, Some}
use Rattle.std.specs.String.{string_bytes}
use Rattle.pt_name.specs.Share.{tells_at}
use Rattle.pt_tree.specs.Listing.{Item}
use Rattle.pt_tree.specs.declared.kind.Kind.TheVariants as kind
use Rattle.pt_walk.specs.Site.{is_short}
use Rattle.pt_walk.specs.Trail.{advanced, current_entry, entered, names_to}
use Rattle.pt_walk.specs.declared.cause.Cause.{Cause}
use Rattle.pt_walk.specs.declared.frame.Frame.{Frame}
use Rattle.pt_plan.specs.Lines.{Skipped}
use Rattle.pt_plan.specs.Run.{with_trail}
use Rattle.pt_plan.specs.TurnWalk.{WalkStep, in_pairtree}
use Rattle.pt_plan.specs.DeviceStates.{Lists, asks, no_calls, tells_if}
use Rattle.pt_plan.specs.declared.phase.Phase.TheVariants as phase
use Rattle.pt_state.specs.States.{held_of, job_of}
use Rattle.pt_state.specs.declared.state.State.{State}

-- the entry at the trail's place is a shorty
unfoldable pub IsAtShorty : List Frame → Type 0
IsAtShorty trail = (name : List ℕ) × ((current_entry trail ≡ Some (name, kind.Dir)) × (is_short name ≡ true))

-- and a skip line of it can be counted
pub record CanPassShorty (s : State) : Type 0 where
  pub shorty : IsAtShorty s.trail
  pub few : s.counts.skipped < 2 ^ 40

-- it is to be passed over for this cause, which the share tells whose it is
unfoldable pub PassesShorty : State → Cause → Type 0
PassesShorty s why = (fed : List ℕ)
    → WalkStep (job_of s.job) (string_bytes s.prefix) phase.Walk (held_of s fed)
    (with_trail (held_of s fed) (advanced s.trail))
    (tells_if (tells_at s.job.share (names_to s.trail)) (Skipped (names_to s.trail) why)) (Ok phase.Walk)

-- it is to be passed, since another share lists it
unfoldable pub PassesElsewhere : State → Type 0
PassesElsewhere s = (fed : List ℕ)
    → WalkStep (job_of s.job) (string_bytes s.prefix) phase.Walk (held_of s fed)
    (with_trail (held_of s fed) (advanced s.trail)) no_calls (Ok phase.Walk)

-- it is to be entered
unfoldable pub EntersSite : State → Type 0
EntersSite s = (fed : List ℕ) (items : List Item)
    → WalkStep (job_of s.job) (string_bytes s.prefix) phase.Walk (held_of s fed)
    (with_trail (held_of s fed) (entered items s.trail))
    (asks (Lists (in_pairtree (names_to s.trail)) items)) (Ok phase.Judge)
