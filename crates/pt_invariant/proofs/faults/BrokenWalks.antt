-- What a turn of the walk or of the scan leaves that breaks off may be left by a fault.
use Rattle.std.proofs.Common.{◌≡◌, ℕ, Bool, true, false, List, [], cond, refl}
use Rattle.std.specs.Prelude.{None, Some, Ok}
use Rattle.pt_name.specs.Share.{tells_at}
use Rattle.pt_object.specs.Holding.{IsFree}
use Rattle.pt_object.specs.Scripts.{staging}
use Rattle.pt_tree.specs.Dest.{Writing}
use Rattle.pt_tree.specs.Source.{Reading, after_next}
use Rattle.pt_tree.specs.Tree.{Tree}
use Rattle.pt_plan.proofs.MovedIn.{roots_have_no_gaps}
use Rattle.pt_plan.specs.Answer.{Answer}
use Rattle.pt_plan.specs.Carried.{after, carried_among}
use Rattle.pt_plan.specs.Job.{Job}
use Rattle.pt_plan.specs.Lines.{Line}
use Rattle.pt_plan.specs.Roots.{root_in, with_root}
use Rattle.pt_plan.specs.Run.{Counts, Held}
use Rattle.pt_plan.specs.TurnScan.{ScanStep, IsTooDeep, MeetsDeep, MeetsLimit, MeetsOther, IsTooLong}
use Rattle.pt_walk.specs.Trail.{names_to}
use Rattle.pt_plan.specs.TurnWalk.{WalkStep, IsSkipped, IsPresent, IsPast, IsDeep}
use Rattle.pt_plan.specs.DeviceStates.{Answers, Calls, Changes, LeavesFront, LeavesPart}
use Rattle.pt_plan.specs.declared.object.Object.{Object}
use Rattle.pt_plan.specs.declared.phase.Phase.{Phase}
use Rattle.pt_plan.specs.declared.phase.Phase.TheVariants as phase
use Rattle.pt_invariant.specs.RunInvariant.{items_through}
use Rattle.pt_invariant.specs.DestInvariant.{IsMakingObject}
use Rattle.pt_invariant.specs.FaultState.{FaultStateAndLog}
use Rattle.pt_invariant.specs.History.{History}
use Rattle.pt_invariant.proofs.faults.BrokenTurns.{WereAnswered, IsBefore, left_quiet, left_skipped}
use Rattle.pt_invariant.proofs.faults.LeavesBehind.{plain_same}
use Rattle.pt_invariant.proofs.faults.LeftNow.{tree_between, tree_entered}
use Rattle.pt_invariant.proofs.items.ScansTell.{scans_tell}
use Rattle.pt_invariant.proofs.items.WalksTell.{walks_tell}

module _ (job : Job) (past : History) (s : Reading) (start : Tree) (prefix : List ℕ) (counts : Counts) (old new : Writing) (first log last : List ℕ) where
  abbrev Before : Held → Phase → Type 0
  Before held here = IsBefore job past s start prefix held counts old first log here

  abbrev Left : Type 0
  Left = FaultStateAndLog job s.tree start new.tree first last

  -- ---- the walk

  -- it tells the line of an item of which nothing is carried
  walk_told : {held later : Held} {here : Phase} {calls : Calls} {line : Line} → WalkStep job prefix here held later calls (Ok phase.Walk) → Before held here
      → calls.line ≡ Some line → past.placed ≡ carried_among job s.tree (root_in start) (items_through here past.count)
      → Changes calls.change (Some old) (Some old) → IsFree start staging → old.tree ≡ with_root start (after job s.tree (root_in start) past.count)
      → new.tree ≡ old.tree → LeavesFront (Some line) (Some log) (Some last) → Left
  walk_told {held} {here} turn before is placed found free tree same put =
      let known = before.known in
      left_skipped new before refl
      (walks_tell start old old turn known.held_at.trail.is_one known.source (roots_have_no_gaps start known.dest.started).1 placed known.dest.at found)
      is free tree same put

  -- or none
  walk_passed : (told : Bool) {held later : Held} {here : Phase} {calls : Calls} (line : Line) → WalkStep job prefix here held later calls (Ok phase.Walk)
      → Before held here → calls.line ≡ cond told (Some line) None → past.placed ≡ carried_among job s.tree (root_in start) (items_through here past.count)
      → Changes calls.change (Some old) (Some old) → IsFree start staging → old.tree ≡ with_root start (after job s.tree (root_in start) past.count)
      → new.tree ≡ old.tree → LeavesFront calls.line (Some log) (Some last) → (LeavesFront None (Some log) (Some last) → Left) → Left
  walk_passed true _ turn before is placed found free tree same put _ =
      walk_told turn before is placed found free tree same (rw is at put)
  walk_passed false _ _ _ is _ _ _ _ _ put quiet = quiet (rw is at put)

  pub walks_broken : {here : Phase} {held later : Held} {calls : Calls} {answer : Answer} → WalkStep job prefix here held later calls answer → Before held here
      → WereAnswered calls s old → LeavesPart (Some old) (Some new) calls.change → LeavesFront calls.line (Some log) (Some last) → Left
  unfolding Changes
  walks_broken (IsSkipped was why is) before _ left put =
      walk_told (IsSkipped was why is) before refl before.known.items.places.placed refl before.known.dest.at.root.free
      (tree_between s.tree past.count before.known.items.places.placed before.known.dest.at) (plain_same refl left) put
  walks_broken (IsPresent was index id kind is) before answered left put =
      walk_told (IsPresent was index id kind is) before refl before.known.items.places.placed (answered.found, refl) before.known.dest.at.root.free
      (tree_between s.tree past.count before.known.items.places.placed before.known.dest.at) (plain_same refl left) put
  walks_broken {here} {held} (IsPast was name e short outermost) before _ left put =
      walk_passed (tells_at job.share (names_to held.trail)) _
      (IsPast was name e short outermost) before refl before.known.items.places.placed refl before.known.dest.at.root.free
      (tree_between s.tree past.count before.known.items.places.placed before.known.dest.at) (plain_same refl left) put
      (left_quiet new before (plain_same refl left))
  walks_broken {here} {held} (IsDeep was name e short inner deep) before _ left put =
      walk_passed (tells_at job.share (names_to held.trail)) _
      (IsDeep was name e short inner deep) before refl before.known.items.places.placed refl before.known.dest.at.root.free
      (tree_between s.tree past.count before.known.items.places.placed before.known.dest.at) (plain_same refl left) put
      (left_quiet new before (plain_same refl left))
  walks_broken {here} {held} _ before _ left put = left_quiet new before (plain_same refl left) put

  -- ---- the scan of an object

  scan_told : {held later : Held} {here : Phase} {object : Object} {calls : Calls} {line : Line} (read : Reading)
      → ScanStep job here held later calls (Ok phase.Walk) → Before held here → calls.line ≡ Some line → Answers calls.asked (Some s) (Some read)
      → past.placed ≡ carried_among job s.tree (root_in start) past.count → IsMakingObject job start past.placed object [] 0 old → new.tree ≡ old.tree
      → LeavesFront (Some line) (Some log) (Some last) → Left
  scan_told {held} {here} read turn before is answers placed making same put =
      let known = before.known in
      left_skipped new before refl
      (scans_tell turn known.held_at.trail.is_one known.source known.items.places.next read answers)
      is making.root.free (tree_entered s.tree past.count placed making) same put

  pub scans_broken : {here : Phase} {held later : Held} {calls : Calls} {answer : Answer} → ScanStep job here held later calls answer → Before held here
      → WereAnswered calls s old → LeavesPart (Some old) (Some new) calls.change → LeavesFront calls.line (Some log) (Some last) → Left
  unfolding Answers
  scans_broken (IsTooDeep was object apart deep) before _ left put =
      scan_told s (IsTooDeep was object apart deep) before refl refl before.known.items.places.placed before.known.dest.at (plain_same refl left) put
  scans_broken (MeetsDeep was object name e apart deep) before _ left put =
      scan_told s (MeetsDeep was object name e apart deep) before refl refl before.known.items.places.placed before.known.dest.at (plain_same refl left) put
  scans_broken (MeetsLimit was object name e room) before _ left put =
      scan_told s (MeetsLimit was object name e room) before refl refl before.known.items.places.placed before.known.dest.at (plain_same refl left) put
  scans_broken (MeetsOther was object name e) before _ left put =
      scan_told s (MeetsOther was object name e) before refl refl before.known.items.places.placed before.known.dest.at (plain_same refl left) put
  scans_broken (IsTooLong was object bytes byte block long) before answered left put =
      scan_told (after_next s) (IsTooLong was object bytes byte block long) before refl (answered.read, refl) before.known.items.places.placed
      before.known.dest.at (plain_same refl left) put
  scans_broken {here} {held} _ before _ left put = left_quiet new before (plain_same refl left) put
