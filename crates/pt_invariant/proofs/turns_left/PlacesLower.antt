-- The turns that bring an object to its place, and that tell of it and of the end, lower what is left.
use Rattle.std.proofs.Common.{◌<◌, ℕ, ◌+◌, Bool, true, false, List, ap, arith, cond}
use Rattle.std.specs.Prelude.{nat_lt}
use Rattle.pt_tree.specs.Forest.{Forest}
use Rattle.pt_walk.specs.Trail.{sought}
use Rattle.pt_walk.specs.declared.frame.Frame.{Frame}
use Rattle.pt_plan.specs.Carried.{Marked}
use Rattle.pt_plan.specs.Job.{Job}
use Rattle.pt_plan.specs.Run.{Held}
use Rattle.pt_plan.specs.TurnPlace.{FindsTuple, MakesTuple, TellsDone}
use Rattle.pt_plan.specs.declared.object.Object.{Object}
use Rattle.pt_plan.specs.declared.phase.Phase.TheVariants as phase
use Rattle.pt_plan.specs.declared.phase.Stage.TheVariants as stage
use Rattle.pt_invariant.proofs.source.InObject.{site_itself}
use Rattle.pt_invariant.specs.WorkLaws.{DecreasesRank, PlacingDecreasesRank}
use Rattle.pt_invariant.specs.Rank.{still_listed}

passes_tuple : (job : Job) (source : Forest) (marks : List Marked) (count : ℕ) (held : Held) (object : Object) {number : ℕ} (more : Bool)
    → number < job.tuples.count
    → DecreasesRank job source marks count (phase.Carrying object (stage.Tuples number)) held
    (cond more (phase.Carrying object (stage.Tuples (number + 1))) (phase.Carrying object stage.Rename)) held
passes_tuple job source marks count held object true within = omega (arith, within)
passes_tuple job source marks count held object false within = omega (arith, within)

pub places_lower : PlacingDecreasesRank
places_lower job _ past source marks _ _ _ _ _ (MakesTuple was object number) at = passes_tuple job source marks past.count was object
    (nat_lt (number + 1) job.tuples.count) at.numbers
places_lower job _ past source marks _ _ _ _ _ (FindsTuple was object number) at = passes_tuple job source marks past.count was object
    (nat_lt (number + 1) job.tuples.count) at.numbers
places_lower job counts past source marks here next held after calls (TellsDone was object) at =
    let same = ap (λ (t : List Frame). still_listed (sought 0 t)) (site_itself object was.trail at.ends.1) in
    omega (arith, same)
places_lower job counts past source marks here next held after calls _ at = omega arith
