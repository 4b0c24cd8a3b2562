-- Between two turns no more is held than the source's bound.
use Rattle.std.proofs.Common.{◌≡◌, ℕ, List, false, arith}
use Rattle.std.proofs.lemmas.Bool.{true≢false}
use Rattle.pt_tree.specs.Forest.{Forest}
use Rattle.pt_tree.specs.Source.{Reading}
use Rattle.pt_plan.specs.Job.{Job}
use Rattle.pt_plan.specs.Run.{Held}
use Rattle.pt_plan.specs.TurnScan.{to_site}
use Rattle.pt_plan.specs.declared.object.Object.{Object}
use Rattle.pt_plan.specs.declared.phase.Phase.{Phase}
use Rattle.pt_plan.specs.declared.phase.Phase.TheVariants as phase
use Rattle.pt_plan.specs.declared.phase.Stage.TheVariants as stage
use Rattle.pt_invariant.specs.RunInvariant.{RunInvariant}
use Rattle.pt_invariant.specs.HeldInvariant.{AreRows, HeldAt}
use Rattle.pt_invariant.specs.SourceInvariant.{HasRoom, IsScanning, IsWithinBound, SourcePart, left_of, object_at}
use Rattle.pt_invariant.specs.EndLaws.{InvariantIsWithinBound, is_ended}
use Rattle.pt_invariant.specs.History.{History}
use Rattle.pt_invariant.proofs.bounds.Rooms.{records_held}

-- with room for all the object's files there is room for those held
in_object : {job : Job} {source : Forest} {prefix : List ℕ} (past : History) {object : Object} {held : Held} {count : ℕ} → AreRows job past.bytes held
    → IsScanning job source prefix object held count → HasRoom job source object held → IsWithinBound job source held
in_object {job} {source} past {object} {held} rows it room =
    let few = records_held job (object_at source object (to_site object held.trail)) held object.empty (left_of source object held.trail) rows.contents
    it.scanned in
    omega (arith, few, room)

pub within : (job : Job) (past : History) (here : Phase) (prefix : List ℕ) (held : Held) (s : Reading) → HeldAt job past here held
    → SourcePart job past here prefix held s → is_ended here ≡ false → IsWithinBound job s.tree held
within _ past (phase.Carrying _ stage.Scan) _ _ _ has it _ = in_object past has.rows it.at.1 it.few
within _ past (phase.Carrying _ (stage.Read _)) _ _ _ has it _ = in_object past has.rows it.at.1 it.few
within _ _ phase.Ended _ _ _ _ _ not = absurd (true≢false not)
within _ _ _ _ _ _ _ it _ = it.few

pub invariant_is_within_bound : InvariantIsWithinBound
unfolding RunInvariant
invariant_is_within_bound job _ _ run s (past, is) not told = within job past run.phase run.kept.prefix run.kept.held s is.held (is.source s told) not
