-- No run on a machine is halted for a store over which a check told nothing.
use Rattle.std.proofs.Common.{◌≡◌, ◌∙◌, ◌==◌, ℕ, Bool, arith, refl, subst, sym, true, false}
use Rattle.std.specs.Prelude.{IfOk, Option, Result, Ok, Err, None, Some, if◌then◌else◌}
use Rattle.std.specs.Option.{ForSome}
use Rattle.pt_check.proofs.Readable.{no_run_fails}
use Rattle.pt_check.specs.Counting.{stops_run}
use Rattle.pt_check.specs.Visits.{ChecksShare}
use Rattle.pt_check.specs.declared.numbers.Numbers.{Numbers}
use Rattle.pt_move.specs.Counting.{Counts}
use Rattle.pt_name.specs.Share.{Portion}
use Rattle.pt_plan.specs.DeviceStates.{DeviceStates}
use Rattle.pt_plan.specs.declared.fault.Fault.{Fault}
use Rattle.pt_state.specs.declared.job.Job.{Job}
use Rattle.pt_state.specs.declared.job.Report.{Report}
use Rattle.pt_tree.specs.Dest.{Writing}
use Rattle.pt_tree.specs.Failing.{failing_paths}
use Rattle.pt_tree.specs.Path.{Path}
use Rattle.pt_host.specs.Checking.{ChecksTree, check_status, says_anything, store_checked, unbegun, wants_of}
use Rattle.pt_host.specs.Machine.{MachineWords}
use Rattle.pt_host.specs.Made.{IsRun, failing_at_rest, source_of, start_of}
use Rattle.pt_host.specs.QuietStoreLaw.{NoRunIsHaltedAfterQuietCheck}
use Rattle.pt_host.proofs.Unhalted.{unblamed}

-- the source is blamed exactly where it failed, in a rehearsal too
source_counts : (job : Job) (rehearse : Bool) (was : Option Writing) (old new : DeviceStates) (ran : Result Report Fault) → IsRun job rehearse was old new ran
    → Counts 1 old.failures.source new.failures.source ran
source_counts job true was old new ran run = run.promises.source
source_counts job false was old new ran run = run.promises.source

-- with no file open it tells the paths of its system, and fails at none
at_rest : (paths : Option (Path → Bool)) → failing_paths (failing_at_rest paths) ≡ paths
at_rest None = refl
at_rest (Some at) = refl

rests : (paths : Option (Path → Bool)) (at : Path → Bool) → paths ≡ Some at → ForSome (failing_at_rest paths) (λ f. f.reading ≡ true) → ⊥
rests None at is open_fails = absurd (cc)
rests (Some other) at is open_fails = let never : false ≡ true = open_fails (record { at = other; reading = false }) refl in absurd (cc)

-- a check whose status is 0 told nothing
abbrev IsQuiet : ℕ → Type 0
IsQuiet status = 0 ≡ status

quiet : (ran : Result Numbers Fault) → IsQuiet (check_status ran) → (numbers : Numbers) × (ran ≡ Ok numbers) × (numbers.told ≡ 0)
quiet (Err why) is = absurd (omega (arith, is))
quiet (Ok numbers) is = (numbers, refl, nothing (stops_run numbers) numbers.told is)
  where
    nothing : (stops : Bool) (n : ℕ) → IsQuiet (if stops then 3 else if n == 0 then 0 else 1) → n ≡ 0
    nothing true n h = absurd (omega (arith, h))
    nothing false n h = grind (arith, h)

-- what holds of its numbers
of_ok : (ran : Result Numbers Fault) (numbers : Numbers) → ran ≡ Ok numbers → (P : Numbers → Type 0) → IfOk ran P → P numbers
of_ok ran numbers is P holds = subst (λ (r : Result Numbers Fault). IfOk r P) is holds

pub unhalted_store : {H : Type 0} (words : MachineWords H) → NoRunIsHaltedAfterQuietCheck words
unhalted_store words both checked carried tree at quiet-end end same all reads checks zero made =
    let told = quiet checks.ran (sym zero ∙ checks.status_is) in
    let failing = words.read.store_fails both.checked.store both.check.store in
    let went = of_ok checks.ran told.0 told.1 (λ numbers. ForSome (store_checked words.read both.check both.checked)
    (ChecksTree both.check failing (words.read.output both.checked.output) (words.read.output checked.output) quiet-end.unmet numbers)) checks.checks in
    let (end, held, unmet, went_share) = went tree same.checked in
    let was = unbegun failing (words.read.output both.checked.output) in
    let went_over = subst (λ (s : Portion). ChecksShare says_anything s (wants_of both.check.options) tree told.0 was end) all went_share in
    let start = start_of words.written both.run both.lent in
    let source = source_of start in
    let rest : failing_paths source.failing ≡ failing = at_rest _ ∙ same.carried_fails ∙ sym same.checked_fails in
    let still = no_run_fails says_anything (wants_of both.check.options) tree told.0 was end
    went_over told.2 reads source (record source { failed = made.3.source }) same.carried rest (rests _ at same.carried_fails)
    (record { failed = made.7; still = λ fails. fails }) in
    unblamed 0 made.3.source made.4.0 (omega arith) still
    (source_counts both.run.options.job both.run.options.rehearse _ start.states _ made.4.0 made.4.1)
