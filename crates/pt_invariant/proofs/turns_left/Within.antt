-- A run makes no more turns than its work.
use Rattle.std.proofs.Common.{◌≡◌, ◌<◌, ℕ, List, [], ◌∷◌, ◌++◌, false, refl, ap, sym, ◌∙◌, subst, arith}
use Rattle.std.specs.Prelude.{Option, None, Some, Ok, map}
use Rattle.std.proofs.lemmas.Bool.{true≢false}
use Rattle.pt_tree.specs.Forest.{Forest}
use Rattle.pt_tree.specs.Source.{Reading}
use Rattle.pt_tree.specs.Tree.{Tree}
use Rattle.pt_plan.specs.Carried.{Marked, marked, marked_after}
use Rattle.pt_plan.specs.Items.{Item, items}
use Rattle.pt_plan.specs.Job.{Job}
use Rattle.pt_plan.specs.Lines.{Done, End, Line, Present, Skipped}
use Rattle.pt_plan.specs.Roots.{root_in}
use Rattle.pt_plan.specs.Run.{Counts, Held, Run, turning}
use Rattle.pt_plan.specs.Turn.{Did, FailsAtFirst, FailsLater, Next, GoesOn, IsRefused, Make, Place, Scan, Start as a_start, Walk, counted}
use Rattle.pt_plan.specs.DeviceStates.{Answers, Calls}
use Rattle.pt_plan.specs.declared.phase.Phase.{Phase}
use Rattle.pt_plan.specs.declared.phase.Opening.TheVariants as opening
use Rattle.pt_plan.specs.declared.phase.Phase.TheVariants as phase
use Rattle.pt_plan.specs.declared.phase.Stage.TheVariants as stage
use Rattle.pt_invariant.specs.RunInvariant.{RunInvariant, IsFreeAt, IsHistory}
use Rattle.pt_invariant.specs.HeldInvariant.{HeldAt}
use Rattle.pt_invariant.specs.SourceInvariant.{SourcePart}
use Rattle.pt_invariant.specs.EndLaws.{is_ended}
use Rattle.pt_invariant.specs.History.{History, done_after, no_history, history_after}
use Rattle.pt_invariant.proofs.ends.NewRun.{new_past}
use Rattle.pt_invariant.proofs.source.InPairtree.{some_same}
use Rattle.pt_invariant.proofs.source.SourceKeeps.{tree_kept}
use Rattle.pt_invariant.proofs.ends.TurnKeeps.{told_source, turned}
use Rattle.pt_invariant.specs.WorkLaws.{
  AreMarked,
  InvariantWithinWork,
  EntersFree,
  IsWithinWork,
  DecreasesRank,
  NewRunIsWithinWork,
  TurnIsLeft,
  TurnKeepsWithinWork,
  TurnsAreWithinWork,
  WithinWorkHoldsInvariant,
}
use Rattle.pt_invariant.specs.Rank.{rank}
use Rattle.pt_invariant.proofs.turns_left.MakesLower.{makes_lower}
use Rattle.pt_invariant.proofs.turns_left.PlacesLower.{places_lower}
use Rattle.pt_invariant.proofs.turns_left.ScansLower.{scans_lower}
use Rattle.pt_invariant.proofs.turns_left.StartsLower.{starts_lower}
use Rattle.pt_invariant.proofs.turns_left.WalksLower.{walks_lower}

-- ---- the marks of a run

marks_of : (job : Job) (root : Tree) (earlier others : List Item) → map (λ (m : Marked). m.0) (marked_after job root earlier others) ≡ others
marks_of job root earlier [] = refl
marks_of job root earlier (item ∷ others) = ap (λ (l : List Item). item ∷ l) (marks_of job root (earlier ++ item ∷ []) others)

enters_free : (job : Job) (source : Forest) (root : Tree) (next : Phase) (count : ℕ) → IsFreeAt next job source root count
    → EntersFree next (marked job source root) count
enters_free _ _ _ (phase.Carrying _ stage.Open) _ (mine, is) = λ item taken found. ap (λ (m : Marked). m.1)
    (some_same (item, taken) (mine, false) (sym found ∙ is))
enters_free _ _ _ _ _ free = tt

-- ---- a turn lowers what is left

-- the groups together
pub follows_lower : {job : Job} {past : History} {s : Reading} (new : Reading) (marks : List Marked) → AreMarked (items job s.tree) marks
    → {counts : Counts} {here : Phase} {prefix : List ℕ} {held : Held} {read : List ℕ} {after : Held} {calls : Calls} {next : Phase}
    → Next job counts here prefix held read after calls (Ok next)
    → Answers calls.asked (Some s) (Some new) → HeldAt job past here held → SourcePart job past here prefix held s
    → EntersFree next marks (done_after here held.trail next past.count) → DecreasesRank job s.tree marks past.count here held next after
follows_lower {job} {past} {s} _ marks are {here} {prefix} {held} {read} {calls} {next} (a_start turn) _ at _ _ = starts_lower job past s.tree marks prefix read
    here next held calls turn at
follows_lower {job} {past} {s} new marks are {here} {prefix} {held} {after} {calls} {next} (Walk turn) answers at known free = walks_lower job past s new marks
    prefix here next held after calls turn answers at known are free
follows_lower {job} {past} {s} new marks are {here} {prefix} {held} {after} {calls} {next} (Scan turn) answers at known _ = scans_lower job past s new marks
    prefix here next held after calls turn answers at known
follows_lower {job} {past} {s} new marks are {here} {prefix} {held} {after} {calls} {next} (Make turn) answers at known _ = makes_lower job past s new marks
    prefix here held after calls next turn answers at known
follows_lower {job} {past} {s} _ marks are {counts} {here} {held} {after} {calls} {next} (Place turn) _ at _ _ = places_lower job counts past s.tree marks here
    next held after calls turn at

-- before the end one turn is left at least
pub some_left : (job : Job) (source : Forest) (marks : List Marked) (count : ℕ) (here : Phase) (held : Held) → is_ended here ≡ false
    → 0 < rank job source marks count here held
some_left _ _ _ _ phase.Ended _ not = absurd (true≢false not)
some_left job source marks count (phase.Opening opening.Begin) held not = omega arith
some_left job source marks count (phase.Carrying object stage.Open) held not = omega arith
some_left job source marks count _ held not = omega arith

-- ---- the turns

-- no line changes how many turns were made
pub same_turns : (line : Option Line) (counts : Counts) → (counted line counts).turns ≡ counts.turns
same_turns None _ = refl
same_turns (Some (Done at bytes empty files id to)) _ = refl
same_turns (Some (Present at id to)) _ = refl
same_turns (Some (Skipped at why)) _ = refl
same_turns (Some (End done present skipped)) _ = refl

-- ---- the laws

pub new_run_is_within_work : NewRunIsWithinWork
unfolding InvariantWithinWork
new_run_is_within_work job states layout is = (no_history, new_past layout is, λ s e old f. record { within = omega arith })

pub within_work_holds_invariant : WithinWorkHoldsInvariant
unfolding InvariantWithinWork RunInvariant
within_work_holds_invariant _ _ _ _ (past, is, _) = (past, is)

pub turn_keeps_within_work : TurnKeepsWithinWork
unfolding InvariantWithinWork Did
turn_keeps_within_work job start old new run after next (past, is, within) (GoesOn calls to turn did counts) = (later, is_later, stays)
  where
    later : History
    later = history_after run.phase next run.kept.held past

    goes_on : Run
    goes_on = record { phase = next; kept = after }

    is_later : IsHistory job start new goes_on later
    is_later = turned job past start old new run after next calls turn did.0 counts is

    stays : (v : Reading) → new.source ≡ Some v → (t : Tree) → start.dest ≡ Some t → IsWithinWork job v.tree (root_in t) later.count goes_on
    stays v same t some =
        let asked = subst (Answers calls.asked old.source) same did.0.source in
        let told = told_source calls.asked old.source v asked in
        let s = told.0 in
        let answers = rw told.1 at asked in
        let tree = tree_kept calls.asked s v answers in
        let free = rw tree at (is_later.items v same t some).places.next in
        let enters = enters_free job s.tree (root_in t) next later.count free in
        let lowers = follows_lower v (marked job s.tree (root_in t)) (marks_of job (root_in t) [] (items job s.tree)) turn answers is.held (is.source s told.1)
        enters in
        let was = (within s told.1 t some).within in
        let one = ap (λ (c : Counts). c.turns) counts ∙ same_turns calls.line (turning run.kept).counts in
        rw tree (record { within = omega (arith, lowers, was, one) })

pub turn_is_left : TurnIsLeft
unfolding InvariantWithinWork
turn_is_left job start states run s t (past, is, within) not told some =
    let was = (within s told t some).within in
    let more = some_left job s.tree (marked job s.tree (root_in t)) past.count run.phase run.kept.held not in
    omega (arith, was, more)

pub turns_are_within_work : TurnsAreWithinWork
unfolding InvariantWithinWork
turns_are_within_work job start old new run after _ s t (past, is, within) not (GoesOn calls next turn did counts) told some =
    let was = (within s told t some).within in
    let one = ap (λ (c : Counts). c.turns) counts ∙ same_turns calls.line (turning run.kept).counts in
    let more = some_left job s.tree (marked job s.tree (root_in t)) past.count run.phase run.kept.held not in
    omega (arith, was, one, more)
turns_are_within_work job start old new run after _ s t (past, is, within) not (IsRefused prefix held calls why turn did halted) told some =
    let was = (within s told t some).within in
    let one = ap (λ (c : Counts). c.turns) halted.counts in
    let more = some_left job s.tree (marked job s.tree (root_in t)) past.count run.phase run.kept.held not in
    omega (arith, was, one, more)
turns_are_within_work job start old new run after _ s t (past, is, within) not (FailsAtFirst why stays halted) told some =
    let was = (within s told t some).within in
    let one = ap (λ (c : Counts). c.turns) halted.counts in
    let more = some_left job s.tree (marked job s.tree (root_in t)) past.count run.phase run.kept.held not in
    omega (arith, was, one, more)
turns_are_within_work job start old new run after _ s t (past, is, within) not (FailsLater prefix held calls answer rows why turn leaves which halted) told
    some =
    let was = (within s told t some).within in
    let one = ap (λ (c : Counts). c.turns) halted.counts in
    let more = some_left job s.tree (marked job s.tree (root_in t)) past.count run.phase run.kept.held not in
    omega (arith, was, one, more)
