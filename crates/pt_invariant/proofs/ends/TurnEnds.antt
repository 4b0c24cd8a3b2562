-- A turn that halts the run leaves it ended.
use Rattle.std.proofs.Common.{◌≡◌, ℕ, Bool, true, false, List, refl, ap, sym, ◌∙◌}
use Rattle.std.specs.Prelude.{Option, None, Some, Err}
use Rattle.pt_tree.specs.Dest.{Writing}
use Rattle.pt_tree.specs.Forest.{is_proper}
use Rattle.pt_tree.specs.Source.{Reading, tree_in}
use Rattle.pt_tree.specs.Tree.{Tree}
use Rattle.pt_walk.specs.Trail.{is_trail}
use Rattle.pt_plan.specs.Job.{Job}
use Rattle.pt_plan.specs.Lines.{Line}
use Rattle.pt_plan.specs.Roots.{root_in}
use Rattle.pt_plan.specs.Run.{Counts, Held, Kept, Run, turning}
use Rattle.pt_plan.specs.Turn.{Did, FailsAtFirst, FailsLater, Next, IsRefused, FailsPartway, Start as a_start, FailsUnchanged, Turn, Walk, Scan, Make, Place}
use Rattle.pt_plan.specs.TurnMake.{ReadsMore, ReadsOther}
use Rattle.pt_plan.specs.TurnPlace.{IsInTheWay}
use Rattle.pt_plan.specs.TurnStart.{HasStaging, IsNoRoot, IsNoFile, Differs}
use Rattle.pt_plan.specs.DeviceStates.{
  Answers,
  Asked,
  AsksNothing,
  Calls,
  Change,
  Changes,
  LeavesFront,
  LeavesPart,
  Lists,
  Looks,
  LooksAndLists,
  NewFile,
  OfFile,
  OfPiece,
  Opens,
  OpensAndReads,
  Reads,
  Untouched,
  DeviceStates,
}
use Rattle.pt_plan.specs.declared.fault.Fault.{Fault}
use Rattle.pt_plan.specs.declared.phase.Phase.{Phase}
use Rattle.pt_plan.specs.declared.phase.Phase.TheVariants as phase
use Rattle.pt_invariant.specs.RunInvariant.{RunInvariant, HasTold, IsHistory as a_past, IsQuiet, FaultStateAt, Start, TellsAsBefore, TellsStill}
use Rattle.pt_invariant.specs.DestInvariant.{DestPart}
use Rattle.pt_invariant.specs.InvariantLaws.{TurnEndsInvariant}
use Rattle.pt_invariant.specs.EndLaws.{is_ended}
use Rattle.pt_invariant.specs.FaultState.{FaultStateAndLog}
use Rattle.pt_invariant.specs.HaltLaws.{HaltsLeave, StopsLeave}
use Rattle.pt_invariant.specs.History.{History}
use Rattle.pt_invariant.proofs.faults.Halting.{broken_leaves, same_leaves, tells_all}
use Rattle.pt_invariant.proofs.source.InPairtree.{some_same}
use Rattle.pt_invariant.proofs.faults.LeavesBehind.{IsLeftTree, follows_left, same_left}
use Rattle.pt_invariant.proofs.items.QuietTurns.{follows_runs, refused_quiet}
use Rattle.pt_invariant.proofs.items.Telling.{log_tells, none_put}
use Rattle.pt_invariant.proofs.ends.TurnKeeps.{told_log}

-- ---- what the answers that halt a run change

pub refused_same : {job : Job} {counts : Counts} {here : Phase} {prefix : List ℕ} {held : Held} {read : List ℕ} {after : Held} {calls : Calls} {why : Fault}
    {old new : Option Writing} → Next job counts here prefix held read after calls (Err why) → Changes calls.change old new → new ≡ old
unfolding Changes
refused_same (a_start (HasStaging _ _)) change = change.1
refused_same (a_start (IsNoRoot _ _ _)) change = change.1
refused_same (a_start (IsNoFile _ _ _ _ _ _ _)) change = change.1
refused_same (a_start (Differs _ _ _ _ _ _ _)) change = change.2
refused_same (a_start _) change = change
refused_same (Walk turn) _ = elim turn [ ]
refused_same (Scan turn) _ = elim turn [ ]
refused_same (Make (ReadsMore _ _ _ _ _ _ _)) change = change
refused_same (Make (ReadsOther _ _ _ _ _ _ _)) change = change
refused_same (Place (IsInTheWay _ _ _ _ _)) change = change.1

-- ---- which devices tell

pub answers_tree : (asked : Asked) (old new : Option Reading) → Answers asked old new → tree_in new ≡ tree_in old
unfolding Answers
answers_tree AsksNothing _ _ answers = ap tree_in answers
answers_tree (Looks _) _ _ answers = ap tree_in answers.1
answers_tree (Lists _ _) _ _ answers = ap tree_in answers.2
answers_tree (LooksAndLists _ _ _) _ _ answers = ap tree_in answers.3
answers_tree (Opens _) None _ answers = ap tree_in answers
answers_tree (Opens _) (Some _) _ answers = ap tree_in answers
answers_tree (Reads _) None _ answers = ap tree_in answers.1
answers_tree (Reads _) (Some _) _ answers = ap tree_in answers.1
answers_tree (OpensAndReads _ _) None _ answers = ap tree_in answers.1
answers_tree (OpensAndReads _ _) (Some _) _ answers = ap tree_in answers.1

-- the source that told tells the same tree
pub same_tree : (old : Option Reading) {new : Option Reading} {v : Reading} → tree_in new ≡ tree_in old → new ≡ Some v
    → (s : Reading) × (old ≡ Some s) × (v.tree ≡ s.tree)
same_tree None {v} same is = absurd (let no : Some v.tree ≡ None = sym (ap tree_in is) ∙ same in cc)
same_tree (Some s) {v} same is = (s, refl, some_same v.tree s.tree (sym (ap tree_in is) ∙ same))

-- a destination of which a part of a change is left tells where it told
part_told : {change : Change} {w : Writing} (new : Option Writing) → LeavesPart (Some w) new change → (v : Writing) × (new ≡ Some v)
part_told None (Untouched change same) = absurd (cc)
part_told None (OfFile path bytes count same) = absurd (cc)
part_told None (NewFile path same) = absurd (cc)
part_told None (OfPiece piece count same) = absurd (cc)
part_told (Some v) _ = (v, refl)

part_untold : {change : Change} (new : Option Writing) → LeavesPart None new change → new ≡ None
part_untold None _ = refl
part_untold (Some v) (Untouched change same) = absurd (cc)
part_untold (Some v) (OfFile path bytes count same) = absurd (cc)
part_untold (Some v) (NewFile path same) = absurd (cc)
part_untold (Some v) (OfPiece piece count same) = absurd (cc)

front_told : (line : Option Line) (old : List ℕ) (new : Option (List ℕ)) → LeavesFront line (Some old) new → (now : List ℕ) × (new ≡ Some now)
front_told None old _ left = (old, left)
front_told (Some _) _ None left = absurd (left.1)
front_told (Some _) _ (Some now) _ = (now, refl)

-- ---- the run has ended

module _ (job : Job) (past : History) (start : Start) (old new : DeviceStates) (run : Run) (after : Kept) where
  -- what holds of the destination before the turn, and after it
  abbrev DestHere : Tree → Writing → Type 0
  DestHere = DestPart job past run.phase run.kept.held

  abbrev DestEnded : Tree → Writing → Type 0
  DestEnded = DestPart job past phase.Ended after.held

  abbrev Ended : Type 0
  Ended = TellsAsBefore start.dest new.dest DestEnded

  -- where all three tell, this is left
  abbrev pub Leaves : Type 0
  Leaves = (s : Reading) (t : Tree) (now : Writing) (first last : List ℕ) → old.source ≡ Some s → start.dest ≡ Some t → new.dest ≡ Some now
      → start.log ≡ Some first → new.log ≡ Some last → FaultStateAndLog job s.tree t now.tree first last

  -- whatever of the destination is left
  dest_ends : a_past job start old run past → ((w : Writing) (t : Tree) → start.dest ≡ Some t → old.dest ≡ Some w → DestHere t w
      → (v : Writing) × (new.dest ≡ Some v) × IsLeftTree job t v) → (old.dest ≡ None → new.dest ≡ None) → Ended
  dest_ends is some none = by start.dest old.dest refl refl is.dest
    where
      by : (o : Option Tree) (w : Option Writing) → start.dest ≡ o → old.dest ≡ w → TellsAsBefore start.dest old.dest DestHere → Ended
      by None None a b tells = rw a (rw (none b) tt)
      by None (Some w) a b tells = absurd (rw b at (rw a at tells))
      by (Some t) None a b tells = absurd (rw b at (rw a at tells))
      by (Some t) (Some w) a b tells =
          let known = rw b at (rw a at tells) in
          let it = some w t a b known in
          rw a
          (rw it.1 (record { started = known.started; tree = it.2.tree; at = it.2.left }))

  ends : a_past job start old run past → after.held.trail ≡ run.kept.held.trail → after.counts ≡ (turning run.kept).counts
      → tree_in new.source ≡ tree_in old.source → Ended → ((l : List ℕ) → old.log ≡ Some l → (now : List ℕ) × (new.log ≡ Some now)) → Leaves
      → a_past job start new (record { phase = phase.Ended; kept = after }) past
  ends is trail counts source dest log leaves = record {
    layout = is.layout;
    held = record {
      trail = record { is_one = ap is_trail trail ∙ is.held.trail.is_one; none = tt; entry = tt };
      ends = tt;
      rows = tt;
      behind = tt;
      numbers = tt;
      fed = tt;
    };
    source = λ v same.
        let s = same_tree old.source source same in
        record { proper = ap is_proper s.2 ∙ (is.source s.0 s.1).proper; at = tt; bytes = tt; few = tt };
    dest = dest;
    items = λ v same t some.
        let s = same_tree old.source source same in
        let it = is.items s.0 s.1 t some in
        rw s.2
        (rw counts
        (record {
          places = record { placed = tt; next = tt };
          lines_are = record
              { done = it.lines_are.done; present = it.lines_are.present; skipped = it.lines_are.skipped };
        }));
    log = λ v same t some. log_at v same t some start.log refl;
    quiet = quiet_at start.log refl;
    left = λ v same t some now told first is_first last is_last.
        let s = same_tree old.source source same in
        rw s.2 (leaves s.0 t now first last s.1 some told is_first is_last);
  }
    where
      quiet_at : (o : Option (List ℕ)) → start.log ≡ o → TellsStill o new.log (IsQuiet phase.Ended)
      quiet_at None none = tt
      quiet_at (Some first) is_first =
          let had = log_tells (IsQuiet run.phase) start.log old.log is_first is.quiet in
          let now = log had.0 had.1 in
          rw now.1 tt

      log_at : (v : Reading) → new.source ≡ Some v → (t : Tree) → start.dest ≡ Some t → (o : Option (List ℕ)) → start.log ≡ o
          → TellsStill o new.log (HasTold job v.tree (root_in t) past phase.Ended)
      log_at v same t some None none = tt
      log_at v same t some (Some first) is_first =
          let s = same_tree old.source source same in
          let had = log_tells (HasTold job s.0.tree (root_in t) past run.phase) start.log old.log is_first (is.log s.0 s.1 t some) in
          let now = log had.0 had.1 in
          rw now.1 tt

  -- nothing of the destination was changed
  same_ends : a_past job start old run past → new.dest ≡ old.dest → Ended
  same_ends is same =
      dest_ends is
      (λ w t a b known. (w, same ∙ b, same_left job past t run.phase run.kept.held w w is.held known refl))
      (λ none. same ∙ none)

-- ---- what is left where all three tell

module _ (job : Job) (past : History) (start : Start) (old new : DeviceStates) (run : Run) (s : Reading) (t : Tree) (now : Writing) (first last : List ℕ) where
  -- nothing was changed
  left_same : a_past job start old run past → old.source ≡ Some s → start.dest ≡ Some t → Some now ≡ old.dest → start.log ≡ Some first → Some last ≡ old.log
      → {here : Phase} → run.phase ≡ here → FaultStateAndLog job s.tree t now.tree first last
  left_same is source_is start_is dest_is first_is last_is {here} at = by (is_ended here) refl
    where
      at_end : (p : Phase) → is_ended p ≡ true → FaultStateAt p job s.tree t now.tree first last → FaultStateAndLog job s.tree t now.tree first last
      at_end phase.Ended over left = left
      at_end _ over left = absurd (cc)

      by : (b : Bool) → is_ended here ≡ b → FaultStateAndLog job s.tree t now.tree first last
      by false runs = same_leaves job past start old run s t first (tells_all job past start old run s t first is (ap is_ended at ∙ runs) source_is start_is
          first_is) dest_is last_is
      by true over = at_end here over (rw (at) at (is.left s source_is t start_is now (sym dest_is) first first_is last (sym last_is)))

  pub halted_left : {after : Kept} {why : Fault} → a_past job start old run past → Turn job run.phase (turning run.kept) after old new (Err why)
      → old.source ≡ Some s → start.dest ≡ Some t → new.dest ≡ Some now → start.log ≡ Some first → new.log ≡ Some last
      → FaultStateAndLog job s.tree t now.tree first last
  unfolding Did FailsUnchanged FailsPartway
  halted_left is (IsRefused _ _ calls _ turn did _) source_is start_is dest_is first_is last_is =
      left_same is source_is start_is (sym dest_is ∙ refused_same turn did.0.dest) first_is
      (sym last_is ∙ none_put calls.line (refused_quiet turn) did.0.log) refl
  halted_left is (FailsAtFirst _ stays _) source_is start_is dest_is first_is last_is = left_same is source_is start_is (sym dest_is ∙ stays.1) first_is
      (sym last_is ∙ stays.2) refl
  halted_left is (FailsLater _ _ _ _ _ _ turn leaves _ _) source_is start_is dest_is first_is last_is =
      broken_leaves job past start old run s t first
      (tells_all job past start old run s t first is (follows_runs turn) source_is start_is first_is) turn leaves.0 source_is dest_is last_is

pub stops_leave : StopsLeave
unfolding RunInvariant
stops_leave job start states run s t now first last (past, is) source_is start_is dest_is first_is last_is = left_same job past start states states run s t now
    first last is source_is start_is (sym dest_is) first_is (sym last_is) refl

pub halts_leave : HaltsLeave
unfolding RunInvariant
halts_leave job start old new run _ _ s t now first last (past, is) turn source_is start_is dest_is first_is last_is = halted_left job past start old new run s
    t now first last is turn source_is start_is dest_is first_is last_is

-- ---- the law

pub turn_ends_invariant : TurnEndsInvariant
unfolding RunInvariant Did FailsUnchanged FailsPartway
turn_ends_invariant job start old new run after _ (past, is) (IsRefused prefix held calls reason turn did halted) = (
  past,
  ends job past start old new run after is halted.trail halted.counts (answers_tree calls.asked old.source new.source did.0.source)
      (same_ends job past start old new run after is (refused_same turn did.0.dest))
      (λ l some. told_log calls.line l new.log (rw some at did.0.log))
      (λ s t now first last source_is start_is dest_is first_is last_is. halted_left job past start old new run s t now first last is
      (IsRefused prefix held calls reason turn did halted) source_is start_is dest_is first_is last_is),
)
turn_ends_invariant job start old new run after _ (past, is) (FailsAtFirst reason stays halted) = (
  past,
  ends job past start old new run after is halted.trail halted.counts stays.0 (same_ends job past start old new run after is stays.1)
      (λ l some. (l, stays.2 ∙ some)) (λ s t now first last source_is start_is dest_is first_is last_is. halted_left job past start old new run s t now first
      last is (FailsAtFirst reason stays halted) source_is start_is dest_is first_is last_is),
)
turn_ends_invariant job start old new run after _ (past, is) (FailsLater prefix held calls answer rows reason turn leaves which halted) = (
  past,
  ends job past start old new run after is halted.trail halted.counts leaves.0.source
      (dest_ends job past start old new run after is
      (λ w t a b known.
      let left = rw b at leaves.0.dest in
      let v = part_told new.dest left in
      (v.0, v.1, follows_left turn is.held known (rw v.1 at left)))
      (λ none. part_untold new.dest (rw none at leaves.0.dest)))
      (λ l some. front_told calls.line l new.log (rw some at leaves.0.log))
      (λ s t now first last source_is start_is dest_is first_is last_is. halted_left job past start old new run s t now first last is
      (FailsLater prefix held calls answer rows reason turn leaves which halted) source_is start_is dest_is first_is last_is),
)
