-- A run halts for what stands at `staging` only where something stood there.
use Rattle.std.proofs.Common.{◌≡◌, ℕ, List, true, refl, ap, sym, ◌∙◌}
use Rattle.std.specs.Prelude.{None, Some, Err, Option, is_some}
use Rattle.std.specs.Option.{option_map}
use Rattle.pt_object.specs.Scripts.{staging}
use Rattle.pt_tree.specs.Dest.{IsKindAt, Writing}
use Rattle.pt_tree.specs.Tree.{Entry, Tree, kind_of_entry}
use Rattle.pt_tree.specs.declared.kind.Kind.{Kind}
use Rattle.pt_plan.specs.Job.{Job}
use Rattle.pt_plan.specs.Run.{Counts, Held, Kept, Run, turning}
use Rattle.pt_plan.specs.Turn.{Did, Next, Turn, IsRefused, FailsAtFirst, FailsLater, FailsPartway, FailsUnchanged, Start as a_start, Walk, Scan, Make, Place}
use Rattle.pt_plan.specs.TurnStart.{HasStaging}
use Rattle.pt_plan.specs.DeviceStates.{Calls, Changes, DeviceStates}
use Rattle.pt_plan.specs.declared.fault.Fault.TheVariants as fault
use Rattle.pt_plan.specs.declared.phase.Phase.{Phase}
use Rattle.pt_invariant.specs.RunInvariant.{RunInvariant, IsHistory, Start}
use Rattle.pt_invariant.specs.DestInvariant.{DestPart}
use Rattle.pt_invariant.specs.History.{History}
use Rattle.pt_invariant.specs.RefusalLaws.{FindsStaging}
use Rattle.pt_invariant.proofs.items.Telling.{both_tell}

some_kind : (o : Option Entry) {here : Kind} → option_map kind_of_entry o ≡ Some here → is_some o ≡ true
some_kind None is = absurd (cc)
some_kind (Some _) _ = refl

follows_find : {job : Job} {past : History} {t : Tree} {w : Writing} (new : Option Writing) {counts : Counts} {here : Phase} {prefix : List ℕ} {held : Held}
    {read : List ℕ} {after : Held} {calls : Calls}
    → Next job counts here prefix held read after calls (Err fault.StagingLeft) → DestPart job past here held t w → Changes calls.change (Some w) new
    → is_some (t staging) ≡ true
unfolding Changes IsKindAt
follows_find {w} _ (a_start (HasStaging _ _)) dest change =
    ap (λ (tree : Tree). is_some (tree staging)) (sym dest.at.tree) ∙ some_kind (w.tree staging) (change.0 w refl)
follows_find _ (Walk turn) _ _ = elim turn [ ]
follows_find _ (Scan turn) _ _ = elim turn [ ]
follows_find _ (Make turn) _ _ = elim turn [ ]
follows_find _ (Place turn) _ _ = elim turn [ ]

found : {job : Job} {past : History} {start : Start} {old new : DeviceStates} {run : Run} {after : Kept} {t : Tree} → IsHistory job start old run past
    → Turn job run.phase (turning run.kept) after old new (Err fault.StagingLeft) → start.dest ≡ Some t → is_some (t staging) ≡ true
unfolding Did FailsUnchanged FailsPartway
found {job} {past} {start} {old} {new} {run} is (IsRefused _ _ calls _ turn did _) told =
    let had = both_tell (DestPart job past run.phase run.kept.held) start.dest old.dest told is.dest in
    follows_find new.dest turn had.2 (rw had.1 at did.0.dest)
found _ (FailsAtFirst _ stays _) _ = absurd (stays.3)
found _ (FailsLater _ _ _ _ _ _ _ leaves _ _) _ = absurd (leaves.1)

pub finds_staging : FindsStaging
unfolding RunInvariant
finds_staging _ _ _ _ _ _ _ (_, is) turn told = found is turn told
