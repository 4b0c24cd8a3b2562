-- What a turn leaves that places an object, or tells of it or of the end, and breaks off may be left by a fault; so for any turn.
use Rattle.std.proofs.Common.{◌≡◌, ◌≤◌, ℕ, suc, List, ◌++◌, refl, ap, sym, ◌∙◌, append_assoc, arith, drop, length, take}
use Rattle.std.specs.Prelude.{Some}
use Rattle.std.proofs.lemmas.List.{take-append-drop}
use Rattle.pt_tree.specs.Dest.{Writing}
use Rattle.pt_tree.specs.Source.{Reading}
use Rattle.pt_tree.specs.Tree.{Tree}
use Rattle.pt_plan.proofs.Growing.{all_items_are_all}
use Rattle.pt_plan.specs.Answer.{Answer}
use Rattle.pt_plan.specs.Carried.{after}
use Rattle.pt_plan.specs.Items.{items}
use Rattle.pt_plan.specs.Job.{Job}
use Rattle.pt_plan.specs.Lines.{End, end_line, line_text, lines, text}
use Rattle.pt_plan.specs.Roots.{root_in, with_root}
use Rattle.pt_plan.specs.Run.{Counts, Held}
use Rattle.pt_plan.specs.Turn.{Next, Start as a_start, Walk, Scan, Make, Place}
use Rattle.pt_plan.specs.TurnPlace.{PlaceStep, TellsDone, TellsEnd, done_line, last_line}
use Rattle.pt_plan.specs.DeviceStates.{Calls, LeavesFront, LeavesPart}
use Rattle.pt_plan.specs.declared.object.Object.{Object}
use Rattle.pt_plan.specs.declared.phase.Phase.{Phase}
use Rattle.pt_plan.specs.declared.phase.Phase.TheVariants as phase
use Rattle.pt_plan.specs.declared.phase.Stage.TheVariants as stage
use Rattle.pt_invariant.specs.FaultState.{FaultStateAndLog}
use Rattle.pt_invariant.specs.History.{History}
use Rattle.pt_invariant.proofs.faults.BrokenMakes.{makes_broken, starts_broken}
use Rattle.pt_invariant.proofs.faults.BrokenTurns.{WereAnswered, IsBefore, ends_item, left_quiet, left_told}
use Rattle.pt_invariant.proofs.faults.BrokenWalks.{scans_broken, walks_broken}
use Rattle.pt_invariant.proofs.ends.Ending.{all_done}
use Rattle.pt_invariant.proofs.faults.LeavesBehind.{plain_same}
use Rattle.pt_invariant.proofs.faults.LeftNow.{between_left, tree_between}
use Rattle.pt_invariant.proofs.faults.LogsLeft.{end_in_part, some_items}
use Rattle.pt_invariant.proofs.items.PlacesTell.{places_tell}

module _ (job : Job) (past : History) (s : Reading) (start : Tree) (prefix : List ℕ) (counts : Counts) (old new : Writing) (first log last : List ℕ) where
  abbrev Before : Held → Phase → Type 0
  Before held here = IsBefore job past s start prefix held counts old first log here

  abbrev Left : Type 0
  Left = FaultStateAndLog job s.tree start new.tree first last

  -- of the end line a front was put
  end_told : {held : Held} → Before held phase.End → new.tree ≡ old.tree → LeavesFront (Some (last_line counts)) (Some log) (Some last) → Left
  end_told before same (n, put) =
      let known = before.known in
      let root = root_in start in
      let so_far = text job s.tree root past.count in
      let whole = line_text (last_line counts) in
      let front = take n whole in
      let many = some_items job s.tree known.source.at.1.store in
      let all = all_done job s.tree {count = past.count} known.source.at.2 in
      let lines_are = known.items.lines_are in
      let line_is : last_line counts ≡ end_line (lines job s.tree root past.count) = (λ i. End (lines_are.done i) (lines_are.present i) (lines_are.skipped i))
      in
      let at_end : length (items job s.tree) ≤ suc many.0 = (let is = many.1 in omega (arith, is)) in
      let roots : after job s.tree root past.count ≡ after job s.tree root (suc many.0) =
      (all_items_are_all job s.tree root past.count all).1 ∙ sym (all_items_are_all job s.tree root (suc many.0) at_end).1 in
      record {
        told = so_far ++ front;
        log = put ∙ ap (λ l. l ++ front) before.log_is ∙ append_assoc first so_far front;
        left = between_left {job = job} {source = s.tree} {start = start} {k = suc many.0} {log = so_far ++ front} known.dest.at.root.free
            (let is = many.1 in omega (arith, is))
            (end_in_part job s.tree root {k = many.0} {count = past.count} front (drop n whole) many.1 all (ap line_text (sym line_is)
            ∙ sym (take-append-drop n whole)) refl)
            (same ∙ tree_between s.tree past.count known.items.places.placed known.dest.at ∙ ap (with_root start) roots);
      }

  -- of an object's line
  done_told : {object : Object} {held : Held} → Before held (phase.Carrying object stage.Line) → new.tree ≡ old.tree
      → LeavesFront (Some (done_line object held)) (Some log) (Some last) → Left
  done_told {object} {held} before same put =
      let known = before.known in
      let tells = places_tell {counts = counts} (TellsDone held object) known.held_at known.source known.items.places.next in
      left_told new before
      (ends_item tells.1 refl refl)
      known.dest.at.root.free (same ∙ tree_between s.tree (suc past.count) known.items.places.placed known.dest.at) put

  places_broken : {here : Phase} {held later : Held} {calls : Calls} {answer : Answer} → PlaceStep job counts here held later calls answer → Before held here
      → LeavesPart (Some old) (Some new) calls.change → LeavesFront calls.line (Some log) (Some last) → Left
  places_broken (TellsDone _ _) before left put = done_told before (plain_same refl left) put
  places_broken (TellsEnd _) before left put = end_told before (plain_same refl left) put
  places_broken {here} {held} _ before left put = left_quiet new before (plain_same refl left) put

  pub follows_broken : {here : Phase} {held : Held} {read : List ℕ} {later : Held} {calls : Calls} {answer : Answer}
      → Next job counts here prefix held read later calls answer → Before held here → WereAnswered calls s old
      → LeavesPart (Some old) (Some new) calls.change → LeavesFront calls.line (Some log) (Some last) → Left
  follows_broken {held} (a_start turn) before _ left put = starts_broken job past s start prefix counts old new first log last turn before left put
  follows_broken (Walk turn) before answered left put = walks_broken job past s start prefix counts old new first log last turn before answered left put
  follows_broken (Scan turn) before answered left put = scans_broken job past s start prefix counts old new first log last turn before answered left put
  follows_broken (Make turn) before answered left put = makes_broken job past s start prefix counts old new first log last turn before answered left put
  follows_broken (Place turn) before _ left put = places_broken turn before left put
