-- What the disk of a log has after a run.
use Rattle.std.proofs.Common.{◌≡◌, ◌∙◌, ℕ, List, Bool, true, false, ap, inl, inr, refl}
use Rattle.std.specs.Prelude.{◌≢◌, ◌⊎◌, IfSome, Option, None, Some, is_some, Result, Ok, Err}
use Rattle.std.specs.declared.io.Error.{Error}
use Rattle.pt_move.specs.Counting.{Counts}
use Rattle.pt_plan.specs.DeviceStates.{DeviceStates}
use Rattle.pt_plan.specs.declared.fault.Fault.{Fault}
use Rattle.pt_state.specs.declared.job.Job.{Job}
use Rattle.pt_state.specs.declared.job.Report.{Report}
use Rattle.pt_tree.specs.Dest.{Writing}
use Rattle.pt_host.specs.Durable.{IsLogged, IsOnDisk, LogStays}
use Rattle.pt_host.specs.Ends.{run_status}
use Rattle.pt_host.specs.Made.{IsRun}
use Rattle.pt_host.specs.declared.durable_log.DurableLog.{DurableLog}
use Rattle.pt_host.specs.declared.options.AllowedLines.{AllowedLines}

-- the log is blamed exactly where it failed, in a rehearsal too
pub log_counts : (job : Job) (rehearse : Bool) (was : Option Writing) (old new : DeviceStates) (ran : Result Report Fault) → IsRun job rehearse was old new ran
    → Counts 3 old.failures.log new.failures.log ran
log_counts job true was old new ran run = run.promises.log
log_counts job false was old new ran run = run.promises.log

-- so it failed nowhere in a run that ended well
unfailed : (allowed : AllowedLines) (ran : Result Report Fault) (before after : ℕ) → Counts 3 before after ran → before ≡ 0 → run_status allowed ran ≢ 3
    → after ≡ 0
unfailed allowed (Ok report) before after counts none well = counts ∙ none
unfailed allowed (Err fault) before after counts none well = absurd (well refl)

-- and its file is where all stands that it wrote, if it wrote anything
pub logged : {W E : Type 0} (writes : W → List ℕ → Result (Unit {0}) Error → W → Type 0) (puts : E → W → Result (Unit {0}) Error → E → Type 0)
    (allowed : AllowedLines) (old new : DurableLog W E) (ran : Result Report Fault) → LogStays writes puts old new → Counts 3 old.failures new.failures ran
    → old.failures ≡ 0
    → IsLogged puts old.file old.writer new.writer (run_status allowed ran)
logged {W} {E} writes puts allowed old new ran stays counts none = by old.file refl
  where
    of_file : (o : Option E) → is_some o ≡ true → IfSome o (IsOnDisk puts new.writer) → (after : E) × IsOnDisk puts new.writer after
    of_file None some there = absurd (cc)
    of_file (Some file) some there = (file, there)

    there : is_some new.file ≡ true → (new ≡ old) ⊎ IfSome new.file (IsOnDisk puts new.writer)
        → (new.writer ≡ old.writer) ⊎ ((after : E) × IsOnDisk puts new.writer after)
    there some (inl same) = inl (ap (λ l. l.writer) same)
    there some (inr put) = inr (of_file new.file some put)

    by : (o : Option E) → old.file ≡ o → IsLogged puts o old.writer new.writer (run_status allowed ran)
    by None is = tt
    by (Some file) is = λ well. there (stays.file (ap is_some is)) (stays.there (unfailed allowed ran old.failures new.failures counts none well))
