-- What a migration ends with.
use Rattle.std.specs.List.{list_all}
use Rattle.std.specs.Prelude.{◌≡◌, ◌+◌, ◌==◌, ℕ, zero, suc, Bool, true, false, cond, if◌then◌else◌, is_none, List, None, Option, Result, Some, Ok, Err}
use Rattle.pt_guard.specs.declared.guard.GuardFault.{GuardFault}
use Rattle.pt_guard.specs.declared.guard.GuardFault.TheVariants as guard
use Rattle.pt_plan.specs.declared.fault.Fault.{Fault}
use Rattle.pt_host.specs.declared.options.AllowedLines.{AllowedLines}
use Rattle.pt_state.specs.declared.job.Report.{Report}

-- of a run that may not begin: 2 where its folders lie in one another, or it isn't known where, or the destination is a storage root itself,
-- else 3
abbrev pub guard_status : GuardFault → ℕ
guard_status guard.Overlap = 2
guard_status guard.Hidden = 2
guard_status guard.Root = 2
guard_status guard.Taken = 3
guard_status guard.Memory = 3

-- how many lines count, of so many of one kind: none where that kind is allowed
abbrev pub counted_unless : Bool → ℕ → ℕ
counted_unless true lines = 0
counted_unless false lines = lines

-- how many lines of a run's log tell of what it did not carry, and aren't allowed: present lines and skip lines
abbrev pub uncarried : AllowedLines → Report → ℕ
uncarried allowed report =
    counted_unless allowed.present report.present + counted_unless allowed.skips report.skipped

-- of a run whose log may have these lines: 0 where it has no other that tells of what was not carried, 1 where it has, 3 after a fault
abbrev pub run_status : AllowedLines → Result Report Fault → ℕ
run_status allowed (Ok report) = if uncarried allowed report == 0 then 0 else 1
run_status allowed (Err fault) = 3

-- the status with what is unmet: 1 in place of 0 where something is
abbrev pub status_with : List (Option (List ℕ)) → ℕ → ℕ
status_with unmet zero = cond (list_all is_none unmet) 0 1
status_with unmet (suc status) = suc status

-- with a list of identifiers a run or an audit that would end with 0 ends with 1 just where one of these is unmet; without a list it ends as it does
abbrev pub EndsWithList : Option (List (List ℕ)) → List (Option (List ℕ)) → ℕ → ℕ → Type 0
EndsWithList None unmet plain status = status ≡ plain
EndsWithList (Some ids) unmet plain status = status ≡ status_with unmet plain
