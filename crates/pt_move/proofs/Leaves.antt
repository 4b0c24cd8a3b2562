-- What a turn of the run's definitions leaves.
use Rattle.std.proofs.Common.{◌≡◌, ℕ, ◌+◌, List, refl, ap, ◌∙◌, inl, inr, arith}
use Rattle.std.specs.Prelude.{Option, None, Some, Err}
use Rattle.pt_state.proofs.Words.{
  Row,
  Answer,
  Job,
  Line,
  End,
  Counts,
  turning,
  Did,
  FailsAtFirst,
  FailsLater,
  GoesOn,
  HasFailed,
  IsHalted,
  IsRefused,
  FailsPartway,
  FailsUnchanged,
  Turn,
  counted,
  Failures,
  Puts,
  DeviceStates,
  Fault,
  Phase,
  counts_of,
  kept_of,
}
use Rattle.pt_state.proofs.Words.fault
use Rattle.pt_state.proofs.Words.phase
use Rattle.pt_state.specs.declared.job.Report.{Report}
use Rattle.pt_state.specs.declared.state.State.{State}
use Rattle.pt_plan.specs.DeviceStates.{LeavesFront}
use Rattle.pt_move.specs.Bounds.{lines_put}
use Rattle.pt_move.proofs.Bounding.{counted_more}
use Rattle.pt_move.proofs.Changes.{EndsWith, IsRefusal, LineOf, follows_change, follows_end, follows_line, follows_refuse, gains_same, moves_to}
use Rattle.pt_move.specs.Held.{Gains}
use Rattle.pt_move.specs.Leaving.{Blames, EndsBy, TurnLeaves}
use Rattle.pt_move.specs.Lines.{CountsLine, GotFront, GotLine, SameLines, TellsFront, TellsLine}

-- ---- failures

refusal_blames : (why : Fault) {old new : Failures} → IsRefusal why → new ≡ old → Blames why old new
refusal_blames fault.Source is same = absurd is
refusal_blames fault.Dest is same = absurd is
refusal_blames fault.Log is same = absurd is
refusal_blames fault.Memory is same = absurd is
refusal_blames _ _ same = same

failed_blames : (why : Fault) (old new : Failures) → HasFailed why old new → Blames why old new
failed_blames fault.Source old new failed = failed
failed_blames fault.Dest old new failed = failed
failed_blames fault.Log old new failed = failed
failed_blames fault.Memory old new failed = failed
failed_blames _ _ _ failed = absurd failed

-- ---- the log

same_lines : (c c' : Report) {counts : Counts} → counts_of c' ≡ counts → counts.done ≡ c.done → counts.present ≡ c.present → counts.skipped ≡ c.skipped
    → SameLines c c'
same_lines c c' is d p s = (ap (λ (k : Counts). k.done) is ∙ d, ap (λ (k : Counts). k.present) is ∙ p, ap (λ (k : Counts). k.skipped) is ∙ s)

-- of these counts the turn was counted
counted_turn : Report → Counts
counted_turn c = record { done = c.done; present = c.present; skipped = c.skipped; turns = c.turns + 1 }

counts_line : (line : Line) (c c' : Report) → counts_of c' ≡ counted (Some line) (counted_turn c) → LineOf (counted_turn c) (Some line) → CountsLine line c c'
unfolding counted_turn
counts_line (End _ _ _) c c' is (d, p, s) = ((d, p, s), (ap (λ (k : Counts). k.done) is, ap (λ (k : Counts). k.present) is, ap (λ (k : Counts). k.skipped) is))
counts_line _ c c' is _ = (ap (λ (k : Counts). k.done) is, ap (λ (k : Counts). k.present) is, ap (λ (k : Counts). k.skipped) is)

told_line : (line : Option Line) (g g' : Option (List ℕ)) (c c' : Report) → Puts line g g' → counts_of c' ≡ counted line (counted_turn c)
    → LineOf (counted_turn c) line → TellsLine g g' c c'
unfolding Puts TellsLine GotLine counted_turn
told_line None g g' c c' put is of = inl (put, same_lines c c' is refl refl refl)
told_line (Some line) g g' c c' put is of = inr (line, (put, counts_line line c c' is of))

left_front : (line : Option Line) (g g' : Option (List ℕ)) (c c' : Report) → LeavesFront line g g' → counts_of c' ≡ counted_turn c → TellsFront g g' c c'
unfolding TellsFront GotFront counted_turn
left_front None g g' c c' left is = (inl left, same_lines c c' is refl refl refl)
left_front (Some line) g g' c c' left is = (inr (line, left), same_lines c c' is refl refl refl)

ended_with : (next : Phase) (line : Option Line) (g g' : Option (List ℕ)) (c c' : Report) → EndsWith (counted_turn c) next line → Puts line g g'
    → counts_of c' ≡ counted line (counted_turn c) → EndsBy next g g' c c'
unfolding Puts GotLine counted_turn
ended_with phase.Ended line g g' c c' ends put is =
    (rw ends at put, same_lines c c' (is ∙ ap (λ (o : Option Line). counted o (counted_turn c)) ends) refl refl refl)
ended_with _ _ _ _ _ _ _ _ _ = tt

-- ---- rows

gains_by : {A : Type 0} (xs : List A) {ys zs : List A} → zs ≡ ys → Gains xs ys → Gains xs zs
gains_by xs is gains = rw is gains

-- ---- a halted turn

halted_leaves : {s : State} (s' : State) {fed : List ℕ} (fed' : List ℕ) {rows : List Row} {g : Option (List ℕ)} (g' : Option (List ℕ)) {old new : Failures}
    {why : Fault} → IsHalted rows (turning (kept_of s fed)) (kept_of s' fed') → Gains s.rows rows → Blames why old new → TellsFront g g' s.counts s'.counts
    → TurnLeaves s s' g g' old new (Err why)
halted_leaves {s} s' fed' {rows} g' halted gains blames told =
    let put = ap lines_put halted.counts in
    record {
      failures = blames;
      told = told;
      ended = tt;
      turns = ap (λ (k : Counts). k.turns) halted.counts;
      lines = omega (arith, put);
      trail = moves_to s'.trail halted.trail;
      rows = gains_by s.rows halted.rows_are gains;
      contents = gains_same halted.contents;
    }

-- ---- a turn

pub turn_leaves : {job : Job} {here : Phase} {s : State} (s' : State) {fed : List ℕ} (fed' : List ℕ) {old new : DeviceStates} {answer : Answer}
    → Turn job here (turning (kept_of s fed)) (kept_of s' fed') old new answer
    → TurnLeaves s s' old.log new.log old.failures new.failures answer
unfolding Did FailsPartway FailsUnchanged counted_turn Puts
turn_leaves {s} s' {fed} fed' {old} {new} (GoesOn calls next follows did counts) =
    let changes = follows_change follows in
    let more = counted_more calls.line (turning (kept_of s fed)).counts in
    let put = ap lines_put counts in
    let one = more.0 in
    record {
      failures = did.1;
      told = told_line calls.line old.log new.log s.counts s'.counts did.0.log counts (follows_line follows);
      ended = ended_with next calls.line old.log new.log s.counts s'.counts (follows_end follows) did.0.log counts;
      turns = ap (λ (k : Counts). k.turns) counts ∙ more.1;
      lines = omega (arith, put, one);
      trail = changes.trail;
      rows = changes.rows;
      contents = changes.contents;
    }
turn_leaves {s} s' fed' {old} {new} (IsRefused prefix held calls why follows did halted) =
    let refused = follows_refuse follows in
    halted_leaves s' fed' new.log halted (gains_same refl) (refusal_blames why refused.0 did.1)
    (left_front None old.log new.log s.counts s'.counts (rw refused.1 at did.0.log) halted.counts)
turn_leaves {s} s' fed' {old} {new} (FailsAtFirst why stays halted) =
    halted_leaves s' fed' new.log halted (gains_same refl) (failed_blames why _ _ stays.3)
    (left_front None old.log new.log s.counts s'.counts stays.2 halted.counts)
turn_leaves {s} s' fed' {old} {new} (FailsLater prefix held calls answer rows why follows left which halted) =
    halted_leaves s' fed' new.log halted gained (failed_blames why _ _ left.1)
    (left_front calls.line old.log new.log s.counts s'.counts left.0.log halted.counts)
  where
    gained : Gains s.rows rows
    gained = elim which [
      | inl same ↦ gains_same same
      | inr more ↦ gains_by s.rows more.0 (follows_change follows).rows
    ]
