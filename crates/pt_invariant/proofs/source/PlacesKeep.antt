-- The turns that place an object, and that tell of it and of the end, keep what holds where the source tells.
use Rattle.std.proofs.Common.{◌≡◌, ℕ, suc, List, refl}
use Rattle.std.specs.Prelude.{Some, Ok}
use Rattle.pt_tree.specs.Source.{Reading}
use Rattle.pt_walk.specs.Trail.{sought}
use Rattle.pt_invariant.specs.SourceInvariant.{HasStarted, IsOnWay, IsScanned, SourceAt}
use Rattle.pt_invariant.specs.HeldInvariant.{HoldsNoObject}
use Rattle.pt_invariant.specs.History.{done_after}
use Rattle.pt_plan.specs.Job.{Job}
use Rattle.pt_plan.specs.Run.{Counts, Held}
use Rattle.pt_plan.specs.TurnPlace.{PlaceStep, after_tuple, MakesTuple, FindsTuple, RenamesObject, TellsDone, TellsEnd, restarted}
use Rattle.pt_plan.specs.DeviceStates.{Answers, Calls}
use Rattle.pt_plan.specs.declared.object.Object.{Object}
use Rattle.pt_plan.specs.declared.phase.Phase.{Phase}
use Rattle.pt_plan.specs.declared.phase.Phase.TheVariants as phase
use Rattle.pt_plan.specs.declared.phase.Stage.TheVariants as stage
use Rattle.pt_invariant.proofs.held.EitherPhase.{after_tuple_folder}
use Rattle.pt_invariant.proofs.source.InObject.{site_itself}
use Rattle.pt_invariant.proofs.source.InPairtree.{stays}

after_a_tuple : (job : Job) {s new : Reading} {prefix : List ℕ} {object : Object} {held : Held} {count : ℕ} (number : ℕ) → Some new ≡ Some s
    → HasStarted s.tree prefix × IsScanned job s.tree prefix object held count
    → SourceAt job new prefix (done_after (phase.Carrying object (stage.Tuples number)) held.trail (after_tuple job object number) count)
    (after_tuple job object number) held
after_a_tuple job {new} {prefix} {object} {held} {count} number same at =
    let next = λ (p : Phase). SourceAt job new prefix (done_after (phase.Carrying object (stage.Tuples number)) held.trail p count) p held in
    let it = stays (λ r. HasStarted r.tree prefix × IsScanned job r.tree prefix object held count) same at in
    after_tuple_folder next job object number (λ more. it) (λ last. it)

pub places_keep : (job : Job) {counts : Counts} (s new : Reading) (prefix : List ℕ) (count : ℕ) {here next : Phase} {held after : Held} {calls : Calls}
    → PlaceStep job counts here held after calls (Ok next) → SourceAt job s prefix count here held
    → Answers calls.asked (Some s) (Some new) → SourceAt job new prefix (done_after here held.trail next count) next after
unfolding Answers
places_keep job s new prefix count (MakesTuple was object number) at answers = after_a_tuple job number answers at
places_keep job s new prefix count (FindsTuple was object number) at answers = after_a_tuple job number answers at
places_keep job s new prefix count (RenamesObject was object) at answers = stays (λ r. HasStarted r.tree prefix × IsScanned job r.tree prefix object was count)
    answers at
places_keep job s new prefix count (TellsDone was object) at answers =
    stays (λ r. HoldsNoObject (restarted was) × HasStarted r.tree prefix × IsOnWay job r.tree (sought 0 was.trail) (suc count)) answers
    (record { rows = refl; contents = refl }, at.0, rw (site_itself object _ at.1.at_site) at at.1.stands.site.way)
places_keep job s new prefix count (TellsEnd was) at answers = tt
