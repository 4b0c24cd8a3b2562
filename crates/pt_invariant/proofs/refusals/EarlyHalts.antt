-- A halt for what the source is, or for what stands at `staging`, leaves all as it was.
use Rattle.std.proofs.Common.{◌≡◌, ℕ, Bool, true, false, List, refl, ap, sym, ◌∙◌}
use Rattle.std.specs.Prelude.{Err}
use Rattle.std.proofs.lemmas.Bool.{true≢false}
use Rattle.pt_tree.specs.Dest.{Writing}
use Rattle.pt_tree.specs.Tree.{Tree}
use Rattle.pt_plan.specs.Job.{Job}
use Rattle.pt_plan.specs.Run.{Counts, Held, turning}
use Rattle.pt_plan.specs.Turn.{
  Did,
  FailsAtFirst,
  FailsLater,
  Next,
  HasFailed,
  IsRefused,
  FailsPartway,
  Start as a_start,
  FailsUnchanged,
  Walk,
  Scan,
  Make,
  Place,
}
use Rattle.pt_plan.specs.TurnMake.{ReadsMore, ReadsOther}
use Rattle.pt_plan.specs.TurnPlace.{IsInTheWay}
use Rattle.pt_plan.specs.TurnStart.{IsNoRoot, IsNoFile, Differs}
use Rattle.pt_plan.specs.DeviceStates.{Calls, Failures}
use Rattle.pt_plan.specs.declared.fault.Fault.{Fault}
use Rattle.pt_plan.specs.declared.fault.Fault.TheVariants as fault
use Rattle.pt_plan.specs.declared.phase.Phase.{Phase}
use Rattle.pt_plan.specs.declared.phase.Opening.TheVariants as opening
use Rattle.pt_plan.specs.declared.phase.Phase.TheVariants as phase
use Rattle.pt_invariant.specs.RunInvariant.{RunInvariant, IsQuiet}
use Rattle.pt_invariant.specs.DestInvariant.{DestPart}
use Rattle.pt_invariant.specs.History.{History}
use Rattle.pt_invariant.specs.RefusalLaws.{EarlyLeavesDest, EarlyLeavesLog, is_early}
use Rattle.pt_invariant.proofs.source.InPairtree.{some_same}
use Rattle.pt_invariant.proofs.items.QuietStart.{is_start, quiet_is}
use Rattle.pt_invariant.proofs.items.QuietTurns.{refused_quiet}
use Rattle.pt_invariant.proofs.ends.TurnEnds.{refused_same}
use Rattle.pt_invariant.proofs.items.Telling.{both_tell, log_tells, none_put}

-- ---- where such a halt comes

-- before anything is changed or done
abbrev is_first : Phase → Bool
is_first (phase.Opening opening.Begin) = true
is_first (phase.Opening (opening.Prefix here)) = true
is_first (phase.Opening opening.Staging) = true
is_first _ = false

follows_first : {job : Job} {counts : Counts} {here : Phase} {prefix : List ℕ} {held : Held} {read : List ℕ} {after : Held} {calls : Calls} {why : Fault}
    → Next job counts here prefix held read after calls (Err why) → is_early why ≡ true → is_first here ≡ true
follows_first (a_start (IsNoRoot _ _ _)) early = absurd (cc)
follows_first (a_start (IsNoFile _ _ _ _ _ _ _)) early = absurd (cc)
follows_first (a_start (Differs _ _ _ _ _ _ _)) early = absurd (cc)
follows_first (a_start _) _ = refl
follows_first (Walk turn) _ = elim turn [ ]
follows_first (Scan turn) _ = elim turn [ ]
follows_first (Make (ReadsMore _ _ _ _ _ _ _)) early = absurd (cc)
follows_first (Make (ReadsOther _ _ _ _ _ _ _)) early = absurd (cc)
follows_first (Place (IsInTheWay _ _ _ _ _)) early = absurd (cc)

-- a device that failed is none
failed_late : (why : Fault) (old new : Failures) → HasFailed why old new → is_early why ≡ false
failed_late fault.Source _ _ _ = refl
failed_late fault.Dest _ _ _ = refl
failed_late fault.Log _ _ _ = refl
failed_late fault.Memory _ _ _ = refl
failed_late _ _ _ it = absurd (it)

-- ---- what holds there

first_tree : {job : Job} {past : History} (here : Phase) {held : Held} {t : Tree} {now : Writing} → is_first here ≡ true → DestPart job past here held t now
    → now.tree ≡ t
first_tree (phase.Opening opening.Begin) _ dest = dest.at.tree
first_tree (phase.Opening (opening.Prefix _)) _ dest = dest.at.tree
first_tree (phase.Opening opening.Staging) _ dest = dest.at.tree
first_tree _ first dest = absurd (cc)

first_starts : (here : Phase) → is_first here ≡ true → is_start here ≡ true
first_starts (phase.Opening opening.Begin) _ = refl
first_starts (phase.Opening (opening.Prefix _)) _ = refl
first_starts (phase.Opening opening.Staging) _ = refl
first_starts _ first = absurd (cc)

-- ---- the laws

pub early_leaves_dest : EarlyLeavesDest
unfolding RunInvariant Did FailsUnchanged FailsPartway
early_leaves_dest job start old _ run _ _ _ now (past, is) (IsRefused _ _ _ _ turn did _) early start_is dest_is =
    let had = both_tell (DestPart job past run.phase run.kept.held) start.dest old.dest start_is is.dest in
    let same = refused_same turn did.0.dest in
    ap (λ (w : Writing). w.tree) (some_same now had.0 (sym dest_is ∙ same ∙ had.1))
    ∙ first_tree run.phase (follows_first turn early) had.2
early_leaves_dest _ _ old new _ _ why _ _ (_, _) (FailsAtFirst _ stays _) early _ _ = absurd
    (true≢false (sym early ∙ failed_late why old.failures new.failures stays.3))
early_leaves_dest _ _ old new _ _ why _ _ (_, _) (FailsLater _ _ _ _ _ _ _ leaves _ _) early _ _ = absurd
    (true≢false (sym early ∙ failed_late why old.failures new.failures leaves.1))

pub early_leaves_log : EarlyLeavesLog
unfolding RunInvariant Did FailsUnchanged FailsPartway
early_leaves_log _ start old _ run _ _ _ last (_, is) (IsRefused _ _ calls _ turn did _) early first_is last_is =
    let counts = (turning run.kept).counts in
    let had = log_tells (IsQuiet run.phase) start.log old.log first_is is.quiet in
    let same = none_put calls.line (refused_quiet turn) did.0.log in
    some_same last had.0 (sym last_is ∙ same ∙ had.1)
    ∙ quiet_is run.phase (first_starts run.phase (follows_first turn early)) had.2
early_leaves_log _ _ old new _ _ why _ _ (_, _) (FailsAtFirst _ stays _) early _ _ = absurd
    (true≢false (sym early ∙ failed_late why old.failures new.failures stays.3))
early_leaves_log _ _ old new _ _ why _ _ (_, _) (FailsLater _ _ _ _ _ _ _ leaves _ _) early _ _ = absurd
    (true≢false (sym early ∙ failed_late why old.failures new.failures leaves.1))
