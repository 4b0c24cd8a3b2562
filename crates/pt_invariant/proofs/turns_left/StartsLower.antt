-- The turns of the start lower what is left.
use Rattle.std.proofs.Common.{◌≡◌, ◌<◌, ℕ, List, ◌+◌, ◌==◌, Bool, true, false, refl, arith, cond}
use Rattle.std.proofs.lemmas.Bool.{eqb-true}
use Rattle.pt_tree.specs.Forest.{Forest}
use Rattle.pt_plan.specs.Carried.{Marked}
use Rattle.pt_plan.specs.Job.{Job}
use Rattle.pt_plan.specs.Run.{Held}
use Rattle.pt_plan.specs.TurnStart.{IsSame, MakesRoot}
use Rattle.pt_plan.specs.declared.phase.Opening.TheVariants as opening
use Rattle.pt_plan.specs.declared.phase.Phase.TheVariants as phase
use Rattle.pt_invariant.specs.WorkLaws.{DecreasesRank, StartingDecreasesRank}

makes_item : (job : Job) (source : Forest) (marks : List Marked) (count : ℕ) {number : ℕ} (held : Held) (last : Bool) → (number == 5) ≡ last → number < 6
    → DecreasesRank job source marks count (phase.Opening (opening.RootMake number)) held
    (cond last (phase.Opening opening.RootRename) (phase.Opening (opening.RootMake (number + 1)))) held
makes_item job source marks count {number} held true is within = let five = eqb-true number 5 is in omega (arith, five)
makes_item job source marks count held false is within = omega (arith, within)

compares_file : (job : Job) (source : Forest) (marks : List Marked) (count : ℕ) {number : ℕ} (held : Held) (last : Bool) → (number == 2) ≡ last → number < 3
    → DecreasesRank job source marks count (phase.Opening (opening.RootCheck number)) held
    (cond last (phase.Opening opening.OpenRoot) (phase.Opening (opening.RootCheck (number + 1)))) held
compares_file job source marks count {number} held true is within = let two = eqb-true number 2 is in omega (arith, two)
compares_file job source marks count held false is within = omega (arith, within)

pub starts_lower : StartingDecreasesRank
starts_lower job past source marks _ _ _ _ held _ (MakesRoot _ number _ _) at = makes_item job source marks past.count held (number == 5) refl at.numbers
starts_lower job past source marks _ _ _ _ held _ (IsSame _ number _ _ _) at = compares_file job source marks past.count held (number == 2) refl at.numbers
starts_lower job past source marks prefix read here next held calls _ at = omega arith
