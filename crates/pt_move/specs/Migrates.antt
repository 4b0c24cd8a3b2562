-- What `migrate` promises, over the states of its devices before and after. Each promise says itself which devices have to tell.
use Rattle.std.specs.Prelude.{◌≡◌, ◌≢◌, ◌≤◌, IfErr, IfOk, OnErr, Result}
use Rattle.pt_invariant.specs.RunInvariant.{start_of}
use Rattle.pt_plan.specs.DeviceStates.{DeviceStates, dest_tree}
use Rattle.pt_tree.specs.Source.{tree_in}
use Rattle.pt_state.specs.States.{counts_of}
use Rattle.pt_state.specs.declared.job.Job.{Job}
use Rattle.pt_state.specs.declared.job.Report.{Report}
use Rattle.pt_move.specs.Bounds.{lines_put}
use Rattle.pt_move.specs.Counting.{Counts}
use Rattle.pt_move.specs.Lines.{HasToldAll, HasToldFront}
use Rattle.pt_move.specs.Outcome.{
  EndsWhole,
  FaultStateTold,
  IfEarly,
  IfLog,
  LeavesAll,
  LeavesNoStaging,
  MadeWithinWork,
  SaysRightly,
  StandsStillIn,
  StatesAreFiles,
  WantsMemory,
}
use Rattle.pt_move.specs.Running.{DestFaultStateTold}
use Rattle.pt_move.specs.Runs.{IsRun}
use Rattle.pt_move.specs.Staying.{HoldsFieldsAlone, StaysBounded, StaysSmall}
use Rattle.pt_plan.specs.declared.fault.Fault.{Fault}
use Rattle.pt_plan.specs.declared.fault.Fault.TheVariants as fault

-- Where each promise is proved: a lemma of proofs/ here, by laws of the crates below, with the file of each.
--   ends: end_whole (Outcomes), by ends_well (Ending)
--   states: end_states (Outcomes), by ends_with_states (EndStates), carried_have_their_files (WholeObjects)
--   left: left_after (Outcomes), by stops_leave (TurnEnds), halts_leave (TurnEnds), rerun_leaves_the_same (LaterTrees)
--   early: leaves_all (Outcomes), by early_leaves_dest (EarlyHalts), early_leaves_log (EarlyHalts)
--   unstaged: unstaged_after (Outcomes), by failed_log_leaves_no_staging (LogHalts)
--   leaves: leaves_behind (Answering), by turn_ends_invariant (TurnEnds)
--   stands: stands_after (Outcomes), by left_behind_stands_still (StandingStill), invariant_stands_still (StandingStill)
--   says: halt_says (Outcomes), by refuses_rightly (Refusing), finds_staging (StagingFound), finds_target_of (TargetFound)
--   good: halt_good (Outcomes), by nothing_is_refused (GoodStarts)
--   work: work_after (Outcomes), by turns_are_within_work (Within)
--   source, dest, log: blames_ok (Ran), blames_err (Ran)
--   told, told_front: told_finished (WholeLog), told_front (WholeLog)
--   tree: tree_stays (Keeping)
--   run: ran_whole (Ran), ran_halted (Ran)
--   turns, lines, never_ended: turn_keeps_bounds (Bounding), not_ended (Ending)
--   bound, numbers: stays_small, stays_bounded (Staying), by turn_is_within_bound (TurnBound), turn_keeps_bounds (Bounding)
--   holds: holds_fields_alone (Staying), by holds_nothing_else (Whole)
--
-- what a run promises, by what its devices told before and after
pub record Migrates (job : Job) (old new : DeviceStates) (result : Result Report Fault) : Type 0 where
  -- at its end the root holds all objects that are carried, each whole, nothing else is changed, and the log has all lines
  pub ends : IfOk result (EndsWhole job (tree_in old.source) (start_of old) new.dest new.log)
  -- and the state of the version of each is its files
  pub states : IfOk result
      (λ report. StatesAreFiles job (tree_in old.source) (start_of old) new.dest new.log)
  -- however it ends, destination and log are such as a fault may leave
  pub left : FaultStateTold job (tree_in old.source) (start_of old) new.dest new.log
  -- and as they were after an early fault
  pub early : IfErr result (λ f. IfEarly f (LeavesAll (start_of old) new.dest new.log))
  -- and with nothing at `staging` where the log failed
  pub unstaged : IfErr result (λ f. IfLog f (LeavesNoStaging new.dest))
  -- whatever the source gives, the destination holds only whole objects at places where nothing stood, and a part of one more in `staging`
  pub leaves : DestFaultStateTold job (dest_tree old.dest) new.dest
  -- and what stood in it stands
  pub stands : StandsStillIn (dest_tree old.dest) new.dest
  -- the source's tree is as it was
  pub tree : tree_in new.source ≡ tree_in old.source
  -- a source or a destination is refused only for what it is
  pub says : IfErr result (SaysRightly job (tree_in old.source) (dest_tree old.dest))
  -- and over a good start none is
  pub good : IfErr result
      (WantsMemory job (tree_in old.source) (dest_tree old.dest) old.failures new.failures)
  -- a device is blamed exactly where it failed
  pub source : Counts 1 old.failures.source new.failures.source result
  pub dest : Counts 2 old.failures.dest new.failures.dest result
  pub log : Counts 3 old.failures.log new.failures.log result
  -- no run is told that it has ended
  pub never_ended : IfErr result (λ f. f ≢ fault.Ended)
  -- the log got whole lines, which the report counts, and their end line
  pub told : IfOk result (λ report. HasToldAll old.log new.log report)
  -- or whole lines, and a front of one more
  pub told_front : OnErr result (HasToldFront old.log new.log)
  -- it is so many turns of the definitions, one after another
  pub run : IsRun job old new result
  -- of which there are no more than the work, and than the limit; and no more lines than turns
  pub work : IfOk result (MadeWithinWork job (tree_in old.source) (dest_tree old.dest))
  pub turns : IfOk result (λ report. report.turns ≤ job.limits.turns)
  pub lines : IfOk result (λ report. lines_put (counts_of report) ≤ report.turns)
  -- after each of these turns no more is held than the source's bound, and the numbers are within theirs
  pub bound : StaysSmall job old
  pub numbers : StaysBounded job old
  -- and nothing is held beside
  pub holds : HoldsFieldsAlone
