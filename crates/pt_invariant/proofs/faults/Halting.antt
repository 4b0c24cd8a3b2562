-- What a run leaves of the destination and the log that stops or breaks off, where all three devices tell.
use Rattle.std.proofs.Common.{◌≡◌, ℕ, false, List, ◌++◌, ap, ◌∙◌, subst}
use Rattle.std.specs.Prelude.{Some}
use Rattle.pt_tree.specs.Dest.{Writing}
use Rattle.pt_tree.specs.Source.{Reading}
use Rattle.pt_tree.specs.Tree.{Tree}
use Rattle.pt_plan.specs.Answer.{Answer}
use Rattle.pt_plan.specs.Job.{Job}
use Rattle.pt_plan.specs.Lines.{text}
use Rattle.pt_plan.specs.Roots.{root_in}
use Rattle.pt_plan.specs.Run.{Held, Run, turning}
use Rattle.pt_plan.specs.Turn.{IsPartway, Next}
use Rattle.pt_plan.specs.DeviceStates.{Calls, WasFound, WasRead, DeviceStates}
use Rattle.pt_plan.specs.declared.phase.Phase.{Phase}
use Rattle.pt_plan.specs.declared.phase.Phase.TheVariants as phase
use Rattle.pt_invariant.specs.RunInvariant.{HasTold, IsHistory, Start}
use Rattle.pt_invariant.specs.DestInvariant.{DestPart}
use Rattle.pt_invariant.specs.EndLaws.{is_ended}
use Rattle.pt_invariant.specs.FaultState.{FaultStateAndLog}
use Rattle.pt_invariant.specs.History.{History}
use Rattle.pt_invariant.proofs.faults.BrokenPlaces.{follows_broken}
use Rattle.pt_invariant.proofs.faults.BrokenTurns.{IsBefore, left_quiet}
use Rattle.pt_invariant.proofs.source.InPairtree.{some_same}
use Rattle.pt_invariant.proofs.items.Telling.{both_tell, log_tells}
use Rattle.pt_invariant.proofs.ends.TurnKeeps.{still_counts}

-- a run that hasn't ended has told the lines of the items done
pub told_now : (job : Job) (s : Reading) (t : Tree) (past : History) (here : Phase) (first : List ℕ) {now : List ℕ} → is_ended here ≡ false
    → HasTold job s.tree (root_in t) past here first now → now ≡ first ++ text job s.tree (root_in t) past.count
told_now job s t past phase.Ended first runs had = absurd (cc)
told_now _ _ _ _ _ _ _ had = had

module _ (job : Job) (past : History) (start : Start) (old : DeviceStates) (run : Run) (s : Reading) (t : Tree) (first : List ℕ) where
  -- all three tell, and this is what is known of them
  pub record TellsAll : Type 0 where
    pub now : Writing
    pub dest_is : old.dest ≡ Some now
    pub log : List ℕ
    pub log_told : old.log ≡ Some log
    pub before : IsBefore job past s t run.kept.prefix run.kept.held (turning run.kept).counts now first log run.phase

  pub tells_all : IsHistory job start old run past → is_ended run.phase ≡ false → old.source ≡ Some s → start.dest ≡ Some t → start.log ≡ Some first → TellsAll
  tells_all is runs source_is start_is first_is =
      let dest = both_tell (DestPart job past run.phase run.kept.held) start.dest old.dest start_is is.dest in
      let logged = log_tells (HasTold job s.tree (root_in t) past run.phase) start.log old.log first_is (is.log s source_is t start_is) in
      record {
        now = dest.0;
        dest_is = dest.1;
        log = logged.0;
        log_told = logged.1;
        before = record {
          runs = runs;
          known = record { held_at = is.held; source = is.source s source_is; dest = dest.2; items = still_counts run.kept (is.items s source_is t start_is) };
          log_is = told_now job s t past run.phase first runs logged.2;
        };
      }

  -- what is left where nothing was changed
  pub same_leaves : {now : Writing} {last : List ℕ} → (had : TellsAll) → Some now ≡ old.dest → Some last ≡ old.log
      → FaultStateAndLog job s.tree t now.tree first last
  same_leaves {now} {last} had dest log =
      left_quiet now had.before
      (ap (λ (w : Writing). w.tree) (some_same now had.now (dest ∙ had.dest_is))) (log ∙ had.log_told)

  -- and where a turn broke off
  pub broken_leaves : {new : DeviceStates} {prefix : List ℕ} {held : Held} {calls : Calls} {answer : Answer} {now : Writing} {last : List ℕ} → TellsAll
      → Next job (turning run.kept).counts run.phase run.kept.prefix run.kept.held prefix held calls answer
      → IsPartway calls old new → old.source ≡ Some s → new.dest ≡ Some now → new.log ≡ Some last → FaultStateAndLog job s.tree t now.tree first last
  broken_leaves {calls} {now} {last} had turn broken source_is dest_is log_is =
      follows_broken job past s t run.kept.prefix (turning run.kept).counts had.now now first had.log last turn had.before
      (record { read = subst (WasRead calls.asked) source_is broken.read; found = subst (WasFound calls.line calls.change) had.dest_is broken.found })
      (rw had.dest_is at (rw dest_is at broken.dest))
      (rw had.log_told at (rw log_is at broken.log))
