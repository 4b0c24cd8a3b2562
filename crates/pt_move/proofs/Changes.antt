-- What a turn changes of what is held, and which line it tells, by the lines of the table of turns.
use Rattle.std.proofs.Common.{◌≡◌, ℕ, ◌+◌, ◌==◌, Bool, true, false, List, [], ◌∷◌, ◌++◌, drop, refl, ◌∙◌, inl, inr, cond, zero, suc}
use Rattle.std.specs.Prelude.{Option, None, Some, Ok, Err, nat_lt, ⊤}
use Rattle.pt_object.specs.Contents.{content_of, is_noted, noted}
use Rattle.pt_state.proofs.Words.{
  Content,
  tells_at,
  Item,
  Path,
  advanced,
  entered,
  names_to,
  parent,
  sought,
  Cause,
  Frame,
  Answer,
  Job,
  Line,
  End,
  Skipped,
  Counts,
  Held,
  Next,
  Make,
  Place,
  Scan,
  Start,
  Walk,
  Calls,
  Fault,
  Phase,
}
use Rattle.pt_state.proofs.Words.cause
use Rattle.pt_state.proofs.Words.fault
use Rattle.pt_state.proofs.Words.opening
use Rattle.pt_state.proofs.Words.phase
use Rattle.pt_state.proofs.Words.stage
use Rattle.pt_plan.specs.TurnMake as make
use Rattle.pt_plan.specs.TurnPlace as place
use Rattle.pt_plan.specs.TurnScan as scan
use Rattle.pt_plan.specs.TurnStart as start
use Rattle.pt_plan.specs.TurnWalk as walk
use Rattle.pt_plan.specs.TurnPlace.{last_line}
use Rattle.pt_plan.specs.TurnWalk.{at_object}
use Rattle.pt_move.specs.Held.{Gains, Moves, listings}

-- ---- trails

listings-drop : (n : ℕ) (t : List Frame) → listings (drop n t) ≡ drop n (listings t)
listings-drop zero t = refl
listings-drop (suc n) [] = refl
listings-drop (suc n) (f ∷ t) = listings-drop n t

listings-sought : (i : ℕ) (t : List Frame) → listings (sought i t) ≡ listings t
listings-sought i [] = refl
listings-sought i (f ∷ t) = refl

listings-advanced : (t : List Frame) → listings (advanced t) ≡ listings t
listings-advanced [] = refl
listings-advanced (f ∷ t) = refl

listings-parent : (t : List Frame) → listings (parent t) ≡ drop 1 (listings t)
listings-parent [] = refl
listings-parent (f ∷ t) = refl

moves_same : (t : List Frame) → Moves t t
unfolding Moves
moves_same t = inr (0, refl)

pub moves_to : {t : List Frame} (t' : List Frame) → t' ≡ t → Moves t t'
moves_to {t} t' is = rw is (moves_same t)

moves_entered : (items : List Item) (t : List Frame) → Moves t (entered items t)
unfolding Moves
moves_entered items t = inl (items, refl)

moves_advanced : (t : List Frame) → Moves t (advanced t)
unfolding Moves
moves_advanced t = inr (0, listings-advanced t)

moves_sought : (i : ℕ) (t : List Frame) → Moves t (sought i t)
unfolding Moves
moves_sought i t = inr (0, listings-sought i t)

moves_parent : (t : List Frame) → Moves t (parent t)
unfolding Moves
moves_parent t = inr (1, listings-parent t)

moves_past : (t : List Frame) → Moves t (advanced (parent t))
unfolding Moves
moves_past t = inr (1, listings-advanced (parent t) ∙ listings-parent t)

moves_left : (i n : ℕ) (t : List Frame) → Moves t (sought i (drop n t))
unfolding Moves
moves_left i n t = inr (n, listings-sought i (drop n t) ∙ listings-drop n t)

moves_object : (index : Option ℕ) (t : List Frame) → Moves t (at_object index t)
moves_object None t = moves_same t
moves_object (Some index) t = moves_sought index t

-- ---- tables

gains_none : {A : Type 0} (xs : List A) → Gains xs xs
unfolding Gains
gains_none xs = inl refl

pub gains_same : {A : Type 0} {xs ys : List A} → ys ≡ xs → Gains xs ys
unfolding Gains
gains_same is = inl is

gains_one : {A : Type 0} (xs : List A) (x : A) → Gains xs (xs ++ x ∷ [])
unfolding Gains
gains_one xs x = inr (inl (x, refl))

gains_empty : {A : Type 0} (xs : List A) → Gains xs []
unfolding Gains
gains_empty xs = inr (inr refl)

gains_noted : (xs : List Content) (digest : List ℕ) (path : Path) → Gains xs (noted xs digest path)
gains_noted xs digest path = by (is_noted xs digest)
  where
    by : (b : Bool) → Gains xs (cond b xs (xs ++ content_of digest path ∷ []))
    by true = gains_none xs
    by false = gains_one xs (content_of digest path)

-- ---- by the lines of the table

-- how what is held changes
pub record Changes (held new : Held) : Type 0 where
  pub trail : Moves held.trail new.trail
  pub rows : Gains held.rows new.rows
  pub contents : Gains held.contents new.contents

changes_trail : {held new : Held} → Moves held.trail new.trail → new.rows ≡ held.rows → new.contents ≡ held.contents → Changes held new
changes_trail moves rows contents = record { trail = moves; rows = gains_same rows; contents = gains_same contents }

changes_back : {held new : Held} → Moves held.trail new.trail → new.rows ≡ [] → new.contents ≡ [] → Changes held new
changes_back {held} moves rows contents = record { trail = moves; rows = rw rows (gains_empty held.rows); contents = rw contents (gains_empty held.contents) }

pub follows_change : {job : Job} {counts : Counts} {here : Phase} {prefix read : List ℕ} {held new : Held} {calls : Calls} {answer : Answer}
    → Next job counts here prefix held read new calls answer → Changes held new
follows_change {held} (Walk (walk.OpensRoot _ items)) = changes_trail (moves_entered items held.trail) refl refl
follows_change {held} (Walk (walk.IsNew _ index _ _)) = changes_trail (moves_object index held.trail) refl refl
follows_change {held} (Walk (walk.IsPast _ _ _ _ _)) = changes_trail (moves_advanced held.trail) refl refl
follows_change {held} (Walk (walk.IsDeep _ _ _ _ _ _)) = changes_trail (moves_advanced held.trail) refl refl
follows_change {held} (Walk (walk.PassesElsewhere _ _ _ _ _ _ _)) = changes_trail (moves_advanced held.trail) refl refl
follows_change {held} (Walk (walk.EntersSite _ _ items _ _ _ _ _)) = changes_trail (moves_entered items held.trail) refl refl
follows_change {held} (Walk (walk.PassesEntry _ _ _ _)) = changes_trail (moves_advanced held.trail) refl refl
follows_change {held} (Walk (walk.LeavesSite _ _ _)) = changes_trail (moves_past held.trail) refl refl
follows_change {held} (Scan (scan.StartsInSite _ _ _)) = changes_trail (moves_sought 0 held.trail) refl refl
follows_change {held} (Scan (scan.EntersObject _ _ items _ _)) = changes_trail (moves_entered items held.trail) refl refl
follows_change {held} (Scan (scan.IsTooDeep _ _ _ _)) = changes_back (moves_left 0 _ held.trail) refl refl
follows_change {held} (Scan (scan.PassesShorty _ _ _ _ _)) = changes_trail (moves_advanced held.trail) refl refl
follows_change {held} (Scan (scan.EntersDirectory _ _ _ items _ _ _)) = changes_trail (moves_entered items held.trail) refl refl
follows_change {held} (Scan (scan.MeetsDeep _ _ _ _ _ _)) = changes_back (moves_left 0 _ held.trail) refl refl
follows_change {held} (Scan (scan.MeetsLimit _ _ _ _ _)) = changes_back (moves_left 0 _ held.trail) refl refl
follows_change {held} (Scan (scan.MeetsOther _ _ _ _)) = changes_back (moves_left 0 _ held.trail) refl refl
follows_change {held} (Scan (scan.EndsObject _ _ _ _ _)) = changes_trail (moves_parent held.trail) refl refl
follows_change {held} (Scan (scan.LeavesDirectory _ _ _ _ _)) = changes_trail (moves_past held.trail) refl refl
follows_change {held} (Scan (scan.IsTooLong _ _ _ _ _ _)) = changes_back (moves_left 0 _ held.trail) refl refl
follows_change {held} (Scan (scan.EndsFile _ _ _)) = record {
  trail = moves_advanced held.trail;
  rows = gains_one held.rows _;
  contents = gains_noted
      held.contents _ _;
}
follows_change {held} (Make (make.MakesStaging _ _)) = changes_trail (moves_same held.trail) refl refl
follows_change {held} (Place (place.TellsDone _ _)) = changes_back (moves_sought 0 held.trail) refl refl
follows_change {held} _ = changes_trail (moves_same held.trail) refl refl

-- ---- why a turn is refused

-- it isn't for a device, nor for want of memory
abbrev pub IsRefusal : Fault → Type 0
IsRefusal fault.Source = ⊥
IsRefusal fault.Dest = ⊥
IsRefusal fault.Log = ⊥
IsRefusal fault.Memory = ⊥
IsRefusal _ = ⊤

pub follows_refuse : {job : Job} {counts : Counts} {here : Phase} {prefix read : List ℕ} {held new : Held} {calls : Calls} {why : Fault}
    → Next job counts here prefix held read new calls (Err why) → IsRefusal why × (calls.line ≡ None)
follows_refuse (Start (start.HasNoVersion _ _ _ _)) = (tt, refl)
follows_refuse (Walk walks) = elim walks [ ]
follows_refuse (Scan scans) = elim scans [ ]
follows_refuse (Make (make.ReadsMore _ _ _ _ _ _ _)) = (tt, refl)
follows_refuse (Place (place.IsInTheWay _ _ _ _ _)) = (tt, refl)
follows_refuse _ = (tt, refl)

-- ---- which line is told

-- an end line tells these numbers
abbrev pub LineOf : Counts → Option Line → Type 0
LineOf counts (Some (End done present skipped)) = (done ≡ counts.done) × (present ≡ counts.present) × (skipped ≡ counts.skipped)
LineOf counts _ = ⊤

-- of a shorty that is passed over there may be one
skip_line : (counts : Counts) (told : Bool) (at : Path) (why : Cause) → LineOf counts (cond told (Some (Skipped at why)) None)
skip_line counts true at why = tt
skip_line counts false at why = tt

pub follows_line : {job : Job} {counts : Counts} {here : Phase} {prefix read : List ℕ} {held new : Held} {calls : Calls} {answer : Answer}
    → Next job counts here prefix held read new calls answer → LineOf counts calls.line
follows_line (Start (start.IsStore _ _)) = tt
follows_line {job} {counts} {held} (Walk (walk.IsPast _ _ _ _ _)) = skip_line counts (tells_at job.share (names_to held.trail)) (names_to held.trail) cause.Past
follows_line {job} {counts} {held} (Walk (walk.IsDeep _ _ _ _ _ _)) = skip_line counts (tells_at job.share (names_to held.trail))
    (names_to held.trail) cause.Limit
follows_line (Scan (scan.StartsInSite _ _ _)) = tt
follows_line (Make (make.MakesStaging _ _)) = tt
follows_line (Place (place.TellsEnd _)) = (refl, refl, refl)
follows_line _ = tt

-- ---- the end

-- a turn to the end tells the end line
abbrev pub EndsWith : Counts → Phase → Option Line → Type 0
EndsWith counts phase.Ended line = line ≡ Some (last_line counts)
EndsWith counts _ line = ⊤

either_end : (counts : Counts) (is : Bool) (first second : Phase) → EndsWith counts first None → EndsWith counts second None
    → EndsWith counts (cond is first second) None
either_end counts true first second ends _ = ends
either_end counts false first second _ ends = ends

pub follows_end : {job : Job} {counts : Counts} {here : Phase} {prefix read : List ℕ} {held new : Held} {calls : Calls} {next : Phase}
    → Next job counts here prefix held read new calls (Ok next) → EndsWith counts next calls.line
follows_end {counts} (Start (start.MakesRoot _ number _ _)) = either_end counts (number == 5) (phase.Opening opening.RootRename)
    (phase.Opening (opening.RootMake (number + 1))) tt tt
follows_end {counts} (Start (start.IsSame _ number _ _ _)) = either_end counts (number == 2) (phase.Opening opening.OpenRoot)
    (phase.Opening (opening.RootCheck (number + 1))) tt tt
follows_end (Walk (walk.OpensRoot _ _)) = tt
follows_end (Scan (scan.StartsInSite _ _ _)) = tt
follows_end {job} {counts} (Make (make.MakesSidecar _ object)) = either_end counts (job.tuples.count == 0) (phase.Carrying object stage.Rename)
    (phase.Carrying object (stage.Tuples 0)) tt tt
follows_end {job} {counts} (Place (place.MakesTuple _ object number)) = either_end counts (nat_lt (number + 1) job.tuples.count)
    (phase.Carrying object (stage.Tuples (number + 1))) (phase.Carrying object stage.Rename) tt tt
follows_end {job} {counts} (Place (place.FindsTuple _ object number)) = either_end counts (nat_lt (number + 1) job.tuples.count)
    (phase.Carrying object (stage.Tuples (number + 1))) (phase.Carrying object stage.Rename) tt tt
follows_end (Place (place.TellsEnd _)) = refl
follows_end _ = tt
