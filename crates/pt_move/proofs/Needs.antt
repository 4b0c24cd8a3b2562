-- What a turn needs, from what always holds of a run.
use Rattle.std.proofs.Common.{◌≡◌, ◌<◌, ◌≤◌, ◌*◌, ◌^◌, ℕ, List, [], ◌∙◌, arith, rules}
use Rattle.std.specs.Prelude.{IfErr, IsTrue, Ok, Err}
use Rattle.pt_state.proofs.Words.{Answer, Job, Held, turning, Phase, job_of, kept_of, DeviceStates, Turned}
use Rattle.pt_state.proofs.Words.part
use Rattle.pt_state.proofs.Words.opening
use Rattle.pt_state.proofs.Words.phase
use Rattle.pt_state.proofs.Words.stage
use Rattle.pt_state.specs.declared.state.State.{State}
use Rattle.pt_state.specs.declared.job.Report.{Report}
use Rattle.pt_walk.specs.Limits.{Bounds, are_limits}
use Rattle.pt_move.specs.Bounds.{IsBounded, IsWithin}
use Rattle.pt_make.specs.Making.{HasContentsOfRows, HasFedInventory}
use Rattle.pt_move.specs.Stands.{AddsWithin, CanAdd, Stands}
use Rattle.pt_move.specs.Turning.{CountedTurn, HasFed}
use Rattle.pt_plan.specs.RunFaults.{IsOfTurn}
use Rattle.pt_invariant.proofs.refusals.Reasons.{of_turn}

limits_files : (b : Bounds) → IsTrue (are_limits b) → b.files ≤ 1000000
limits_files b are = search rules

limits_file_bytes : (b : Bounds) → IsTrue (are_limits b) → b.file_bytes ≤ 2 ^ 43
limits_file_bytes b are = search rules

limits_turns : (b : Bounds) → IsTrue (are_limits b) → b.turns ≤ 2 ^ 40
limits_turns b are = search rules

-- so few rows, of so few bytes each
few_bytes : {rows files each all : ℕ} → rows ≤ files → files ≤ 1000000 → each ≤ 2 ^ 43 → all ≤ rows * each → all < 2 ^ 64
few_bytes {rows} {each} few most short sum =
    let a : rows * each ≤ 1000000 * each = mul_mono rows 1000000 each (omega (arith, few, most)) in
    omega (arith, a, short, sum)
  where
    mul_mono : (a b c : ℕ) → a ≤ b → a * c ≤ b * c
    mul_mono a b c le = search rules

adds : (job : Job) (here : Phase) (held : Held) {turns : ℕ} → IsWithin job here held turns → turns < 2 ^ 40 → job.limits.file_bytes ≤ 2 ^ 43 → AddsWithin here
adds job (phase.Carrying object stage.Open) held within less short = omega (arith, within, less)
adds job (phase.Carrying object stage.Scan) held within less short = omega (arith, within, less)
adds job (phase.Carrying object (stage.Read bytes)) held within less short = let most = within.1 in omega (arith, most, short)
adds _ _ _ _ _ _ = tt

-- what was bounded may be added to
pub can_add : (here : Phase) (s t : State) → IsBounded (job_of s.job) here (kept_of s []) → s.counts.turns < s.job.limits.turns
    → IsTrue (are_limits s.job.limits) → t.counts.done ≡ s.counts.done → t.counts.present ≡ s.counts.present → t.counts.skipped ≡ s.counts.skipped
    → t.rows ≡ s.rows → CanAdd here t
can_add here s t bounded more are done present skipped rows =
    let most = limits_turns s.job.limits are in
    let lines = bounded.lines in
    record {
      done = omega (arith, lines, more, most, done);
      present = omega (arith, lines, more, most, present);
      skipped = omega (arith, lines, more, most, skipped);
      lengths = rw rows (few_bytes bounded.few.rows (limits_files s.job.limits are) (limits_file_bytes s.job.limits are) bounded.few.lengths);
      here_is = adds (job_of s.job) here (kept_of s []).held bounded.within (omega (arith, more, most)) (limits_file_bytes s.job.limits are);
    }

pub can_count : (s : State) → s.counts.turns < s.job.limits.turns → IsTrue (are_limits s.job.limits) → s.counts.turns < 2 ^ 40
can_count s more are = let most = limits_turns s.job.limits are in omega (arith, more, most)

-- the turn that was made after it was counted
pub counted_turn : (here : Phase) (s t s' : State) (old new : DeviceStates) (answer : Answer) → Turned here t s' old new answer → t.job ≡ s.job
    → t.hasher ≡ s.hasher → ((fed : List ℕ) → kept_of t fed ≡ turning (kept_of s fed)) → CountedTurn here s s' old new answer
unfolding Turned CountedTurn
counted_turn here s t s' old new answer turned job hasher kept = (
  turned.0 ∙ job,
  λ fed was.
      let made = turned.1 fed (rw (hasher, job) was) in (
        made.0,
        (
          rw (← job) made.1.0,
          rw (← (kept fed), ← job) made.1.1,
        ),
      ),
)

-- counting a turn changes nothing of where a run stands
pub stands_on : (here : Phase) (s : State) (counts : Report) → Stands here s → Stands here (record s { counts = counts })
unfolding HasContentsOfRows HasFedInventory
stands_on (phase.Opening opening.Begin) s counts stands = stands
stands_on (phase.Carrying object (stage.Make part.Staging)) s counts stands = stands
stands_on _ _ _ stands = stands

-- a turn answers none of the faults that are the run's own
pub own_fault : (here : Phase) (s s' : State) (old new : DeviceStates) (answer : Answer) → Stands here s → HasFed here s.job.algorithm s.hasher
    → CountedTurn here s s' old new answer → IfErr answer IsOfTurn
unfolding CountedTurn
own_fault _ _ _ _ _ (Ok next) _ _ _ = tt
own_fault phase.Ended _ _ _ _ (Err why) stands _ _ = absurd stands
own_fault here _ _ _ _ (Err why) _ fed turned = of_turn (turned.1 fed.0 fed.1).1.1

pub ruleset standing = (can_add, can_count)
