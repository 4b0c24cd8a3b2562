-- Nothing is unsynced after a run that ended well.
use Rattle.std.proofs.Common.{◌≡◌, ℕ, Bool, true, refl, arith}
use Rattle.std.specs.Prelude.{◌≤◌, Option, None, Result, Ok, Err}
use Rattle.std.specs.Option.{ForSome}
use Rattle.pt_folder.specs.declared.unsynced_change.UnsyncedChange.{UnsyncedChange}
use Rattle.pt_move.specs.Counting.{Counts}
use Rattle.pt_plan.specs.declared.fault.Fault.{Fault}
use Rattle.pt_state.specs.declared.job.Report.{Report}
use Rattle.pt_host.specs.Ends.{run_status}
use Rattle.pt_host.specs.Made.{IsUnsyncedBy}
use Rattle.pt_host.specs.declared.options.AllowedLines.{AllowedLines}

-- what is unsynced was counted as a failure, and a good end has counted none
pub unsynced_by : (synced : Bool) (allowed : AllowedLines) (before after : ℕ) (ran : Result Report Fault) (unsynced : Option UnsyncedChange)
    → ForSome unsynced (λ _. synced ≡ true) → ForSome unsynced (λ _. 1 ≤ after) → Counts 2 before after ran
    → IsUnsyncedBy synced before (run_status allowed ran) unsynced
unsynced_by synced allowed before after (Ok report) unsynced wanted risen counts = λ s is.
    (wanted s is, λ none. let rose = risen s is in absurd (omega (arith, rose, counts, none)))
unsynced_by synced allowed before after (Err f) unsynced wanted risen counts = λ s is. (wanted s is, λ none. refl)

pub none_unsynced_by : (synced : Bool) (before status : ℕ) (unsynced : Option UnsyncedChange) → unsynced ≡ None → IsUnsyncedBy synced before status unsynced
none_unsynced_by synced before status unsynced none = λ s is. absurd (cc)
