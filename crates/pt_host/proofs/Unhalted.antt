-- No run is halted for a source over which a check told nothing.
use Rattle.std.proofs.Common.{◌≡◌, ◌<◌, ◌∙◌, ℕ, arith, subst, sym}
use Rattle.std.specs.Prelude.{◌≢◌, Err, IfErr, Ok, Result}
use Rattle.pt_check.proofs.Readable.{no_run_fails}
use Rattle.pt_move.specs.Counting.{Counts}
use Rattle.pt_plan.specs.declared.fault.Fault.{Fault}
use Rattle.pt_plan.specs.declared.fault.Fault.TheVariants as fault
use Rattle.pt_state.specs.declared.job.Report.{Report}
use Rattle.pt_tree.specs.Failures.{HasRisen, greatest_count}
use Rattle.pt_host.specs.QuietCheckLaw.{NoRunIsHaltedForSource}

-- a count that stayed, and can be one more, hasn't risen
unrisen : (old new : ℕ) → old < greatest_count → new ≡ old → HasRisen old new → ⊥
unrisen old new fewer same rose = omega (arith, fewer, same, rose)

pub unblamed : (old new : ℕ) (result : Result Report Fault) → old < greatest_count → new ≡ old → Counts 1 old new result
    → IfErr result (λ why. why ≢ fault.Source)
unblamed old new (Ok report) fewer same counts = tt
unblamed old new (Err fault.Source) fewer same counts = λ is. unrisen old new fewer same counts
unblamed old new (Err why) fewer same counts = λ is. absurd (cc)

pub unhalted : NoRunIsHaltedForSource
unhalted says wants tree numbers a b job s s' old new result checks quiet reads of made =
    let still : s'.failed ≡ s.failed = no_run_fails says wants tree numbers a b checks quiet reads s s' of.told of.failing of.reading of.fails in
    unblamed old.failures.source new.failures.source result (subst (λ (n : ℕ). n < greatest_count) (sym of.failed) of.fewer)
    (of.failed_since ∙ still ∙ sym of.failed) made.source
