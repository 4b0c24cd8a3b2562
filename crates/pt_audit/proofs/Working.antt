-- A survey makes no more steps than its work.
use Rattle.std.proofs.Common.{◌≡◌, ◌<◌, ◌≤◌, ℕ, zero, suc, Bool, false, List, [], ◌∷◌, refl, ap, sym, ◌∙◌, subst, arith}
use Rattle.std.specs.Prelude.{Option, Some, Ok, slice_get}
use Rattle.std.specs.Option.{ForSome}
use Rattle.pt_tree.specs.Forest.{Forest}
use Rattle.pt_tree.specs.Source.{Reading, tree_in}
use Rattle.pt_plan.specs.Carried.{Marked}
use Rattle.pt_plan.specs.Items.{Item, items}
use Rattle.pt_plan.specs.Job.{Job}
use Rattle.pt_plan.specs.Run.{Counts, Held, turning}
use Rattle.pt_plan.specs.Turn.{Next, counted as counted_with}
use Rattle.pt_plan.specs.DeviceStates.{Answers, Calls}
use Rattle.pt_plan.specs.declared.phase.Part.TheVariants as part
use Rattle.pt_plan.specs.declared.phase.Phase.{Phase}
use Rattle.pt_plan.specs.declared.phase.Opening.TheVariants as opening
use Rattle.pt_plan.specs.declared.phase.Phase.TheVariants as phase
use Rattle.pt_plan.specs.declared.phase.Stage.TheVariants as stage
use Rattle.pt_invariant.specs.RunInvariant.{IsHistory}
use Rattle.pt_invariant.specs.History.{History, history_after}
use Rattle.pt_invariant.specs.WorkLaws.{AreMarked, EntersFree}
use Rattle.pt_invariant.specs.Rank.{rank}
use Rattle.pt_invariant.proofs.ends.TurnKeeps.{told_source}
use Rattle.pt_invariant.proofs.source.InPairtree.{some_same}
use Rattle.pt_invariant.proofs.source.SourceKeeps.{tree_kept}
use Rattle.pt_invariant.proofs.turns_left.Within.{follows_lower, same_turns, some_left}
use Rattle.pt_move.proofs.Going.{is_going}
use Rattle.pt_move.proofs.Outcomes.{reading_of}
use Rattle.pt_move.specs.Running.{Running, run_of}
use Rattle.pt_state.specs.States.{held_of, job_of, kept_of}
use Rattle.pt_state.specs.declared.state.State.{State}
use Rattle.pt_audit.specs.Surveying.{IsSurvey, IsWithinWork, all_free, no_start, passed, source_alone, work_of_survey}

-- ---- the marks

marks_all : (items : List Item) → AreMarked items (all_free items)
marks_all [] = refl
marks_all (item ∷ items) = ap (λ (l : List Item). item ∷ l) (marks_all items)

none_taken : (items : List Item) (count : ℕ) (item : Item) (taken : Bool) → slice_get (all_free items) count ≡ Some (item, taken) → taken ≡ false
none_taken [] zero item taken is = absurd (cc)
none_taken [] (suc _) item taken is = absurd (cc)
none_taken (first ∷ _) zero item taken is = sym (ap (λ (m : Marked). m.1) (some_same (first, false) (item, taken) is))
none_taken (_ ∷ items) (suc count) item taken is = none_taken items count item taken is

enters_free : (items : List Item) (next : Phase) (count : ℕ) → EntersFree next (all_free items) count
enters_free items (phase.Carrying _ stage.Open) count = λ item taken is. none_taken items count item taken is
enters_free items _ count = tt

-- ---- a step

-- where a run would make something no more is left
passed_left : (job : Job) (source : Forest) (marks : List Marked) (count : ℕ) (next : Phase) (held : Held)
    → rank job source marks count (passed next) held ≤ rank job source marks count next held
passed_left job source marks count (phase.Opening opening.Staging) held = omega arith
passed_left job source marks count (phase.Carrying object (stage.Make part.Staging)) held = omega arith
passed_left job source marks count (phase.Carrying object (stage.Make _)) held = omega arith
passed_left job source marks count _ held = omega arith

module _ (here next : Phase) (s s' : State) (told told' : Option Reading) where
  abbrev Before : Running
  Before = record { phase = here; state = s }

  abbrev later_of : History → List ℕ → History
  later_of past fed = history_after here next (held_of s fed) past

  pub within_on : {fed fed' : List ℕ} {past : History} {calls : Calls}
      → Next (job_of s.job) (turning (kept_of s fed)).counts here (kept_of s fed).prefix (held_of s fed) (kept_of s' fed').prefix (held_of s' fed') calls
      (Ok next)
      → Answers calls.asked told told' → (kept_of s' fed').counts ≡ counted_with calls.line (turning (kept_of s fed)).counts
      → IsHistory (job_of s.job) no_start (source_alone told) (run_of Before fed) past
      → ForSome told (λ r. IsWithinWork (job_of s.job) r.tree past.count (run_of Before fed))
      → ForSome told' (λ r. IsWithinWork (job_of s.job) r.tree (later_of past fed).count (record { phase = passed next; kept = kept_of s' fed' }))
  within_on {fed} {fed'} {past} {calls} follows answers counts it within = λ v same.
      let job = job_of s.job in
      let later = later_of past fed in
      let asked = subst (Answers calls.asked told) same answers in
      let was_told = told_source calls.asked told v asked in
      let r = was_told.0 in
      let answered = subst (λ o. Answers calls.asked o (Some v)) was_told.1 asked in
      let tree = tree_kept calls.asked r v answered in
      let all = items job r.tree in
      let lowers = follows_lower v (all_free all) (marks_all all) follows answered it.held (it.source r was_told.1) (enters_free all next later.count) in
      let was = within r was_told.1 in
      let one = ap (λ (c : Counts). c.turns) counts ∙ same_turns calls.line (turning (kept_of s fed)).counts in
      let less = passed_left job r.tree (all_free all) later.count next (held_of s' fed') in
      subst (λ (f : Forest). IsWithinWork job f later.count (record { phase = passed next; kept = kept_of s' fed' })) (sym tree)
      (omega (arith, lowers, was, one, less))

-- ---- what it comes to

module _ {told : Option Reading} {count : ℕ} {r : Running} (it : IsSurvey told count r) where
  abbrev Job_of : Job
  Job_of = job_of r.state.job

  pub made : ForSome (tree_in told) (λ s. r.state.counts.turns ≤ work_of_survey Job_of s)
  made = λ s is.
      let reading = reading_of told is in
      let within = it.within reading.0 reading.1 in
      subst (λ (f : Forest). r.state.counts.turns ≤ work_of_survey Job_of f) reading.2 (omega (arith, within))

  -- before its end a step is left
  pub is_left : (r.phase ≡ phase.Ended → ⊥) → ForSome (tree_in told) (λ s. r.state.counts.turns < work_of_survey Job_of s)
  is_left going = λ s is.
      let reading = reading_of told is in
      let within = it.within reading.0 reading.1 in
      let more = some_left Job_of reading.0.tree (all_free (items Job_of reading.0.tree)) it.past.count r.phase (held_of r.state it.fed)
      (is_going r.phase going) in
      subst (λ (f : Forest). r.state.counts.turns < work_of_survey Job_of f) reading.2 (omega (arith, within, more))
