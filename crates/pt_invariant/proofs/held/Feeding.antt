-- After each turn that goes on, what the next one takes a digest of was fed.
use Rattle.std.proofs.Common.{ℕ, Bool, true, false, List, refl, cond, length}
use Rattle.std.specs.Prelude.{nat_lt, Ok}
use Rattle.pt_object.specs.declared.rows.Row.{Row}
use Rattle.pt_invariant.specs.HeldInvariant.{FedAt, IsFedBefore}
use Rattle.pt_invariant.proofs.held.EitherPhase.{after_root_file, after_root_item, after_sidecar, after_tuple_folder}
use Rattle.pt_plan.specs.Job.{Job}
use Rattle.pt_plan.specs.Run.{Counts, Held}
use Rattle.pt_plan.specs.TurnMake.{
  MakeStep,
  MakesVersion,
  PassesRow,
  EndsCopy,
  MakesVersionInventory,
  MakesVersionSidecar,
  MakesInventory,
  MakesSidecar,
  behind,
  behind_stored,
  content_at,
}
use Rattle.pt_plan.specs.TurnPlace.{PlaceStep, after_tuple, MakesTuple, FindsTuple}
use Rattle.pt_plan.specs.TurnScan.{ScanStep, StartsInSite, EndsSite}
use Rattle.pt_plan.specs.TurnStart.{StartStep, MakesRoot, IsSame}
use Rattle.pt_plan.specs.TurnWalk.{WalkStep, OpensRoot}
use Rattle.pt_plan.specs.DeviceStates.{Calls}
use Rattle.pt_plan.specs.declared.object.Object.{Object}
use Rattle.pt_plan.specs.declared.phase.Part.TheVariants as part
use Rattle.pt_plan.specs.declared.phase.Phase.{Phase}
use Rattle.pt_plan.specs.declared.phase.Position.{Position}

fed_content : (job : Job) (object : Object) (rows : List Row) (position : Position) (held : Held) → IsFedBefore job object (content_at rows position) held
fed_content job object rows position held = fed_part (nat_lt position.row (length rows))
  where
    fed_part : (more : Bool) → IsFedBefore job object (cond more (part.Content position) part.VersionInventory) held
    fed_part true = tt
    fed_part false = tt

-- only where an object is made is anything said of the hasher
pub starts_feed : {job : Job} {here next : Phase} {prefix read : List ℕ} (held : Held) {calls : Calls} → StartStep job here prefix read calls (Ok next)
    → FedAt job next held
starts_feed {job} held (MakesRoot was number item is) = after_root_item (λ p. FedAt job p held) number (λ last. tt) (λ more. tt)
starts_feed {job} held (IsSame was number path bytes is) = after_root_file (λ p. FedAt job p held) number (λ last. tt) (λ more. tt)
starts_feed held turn = tt

pub walks_feed : {job : Job} {here : Phase} {prefix : List ℕ} {held after : Held} {calls : Calls} {next : Phase}
    → WalkStep job prefix here held after calls (Ok next) → FedAt job next after
walks_feed (OpensRoot was items) = tt
walks_feed turn = tt

pub scans_feed : {job : Job} {here : Phase} {held after : Held} {calls : Calls} {next : Phase} → ScanStep job here held after calls (Ok next)
    → FedAt job next after
scans_feed (StartsInSite was object gathered) = tt
scans_feed (EndsSite was object e there) = tt
scans_feed turn = tt

pub makes_feed : {job : Job} {here : Phase} {held after : Held} {calls : Calls} {next : Phase} → MakeStep job here held after calls (Ok next)
    → FedAt job next after
makes_feed {job} {after} (MakesVersion was object) = fed_content job object was.rows (record { row = 0; stored = 0; directories = 0 }) after
makes_feed {job} {after} (PassesRow was object position row is other) = fed_content job object was.rows (behind position) after
makes_feed {job} {after} (EndsCopy was object position row left is same) = fed_content job object was.rows (behind_stored was.contents position row.path) after
makes_feed (MakesVersionInventory was object) = refl
makes_feed (MakesVersionSidecar was object) = refl
makes_feed (MakesInventory was object) = refl
makes_feed {job} {after} (MakesSidecar was object) = after_sidecar (λ p. FedAt job p after) job object (λ flat. tt) (λ some. tt)
makes_feed turn = tt

after_a_tuple : (job : Job) (held : Held) (object : Object) (number : ℕ) → FedAt job (after_tuple job object number) held
after_a_tuple job held object number = after_tuple_folder (λ p. FedAt job p held) job object number (λ more. tt) (λ last. tt)

pub places_feed : {job : Job} {counts : Counts} {here : Phase} {held after : Held} {calls : Calls} {next : Phase}
    → PlaceStep job counts here held after calls (Ok next) → FedAt job next after
places_feed {job} (MakesTuple was object number) = after_a_tuple job was object number
places_feed {job} (FindsTuple was object number) = after_a_tuple job was object number
places_feed turn = tt
