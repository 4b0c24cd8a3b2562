-- What the program does by its words, and its exit statuses: 0, 1, 2 and 3.
use Rattle.std.specs.Prelude.{◌≡◌, ◌≢◌, ◌⊎◌, ℕ, List, Option, Result, Ok, Err, codes}
use Rattle.std.specs.IoError.{error_kind}
use Rattle.std.specs.declared.io.Error.{Error}
use Rattle.std.specs.declared.io.ErrorKind.TheVariants.{OutOfMemory}
use Rattle.clap.specs.Words.{Text}
use Rattle.pt_name.specs.Share.{Portion}
use Rattle.pt_host.specs.Audits.{Audits, audit_call}
use Rattle.pt_host.specs.Checking.{ChecksStore, check_call}
use Rattle.pt_host.specs.Machine.{MachineWords}
use Rattle.pt_host.specs.Made.{Runs, run_call}
use Rattle.pt_host.specs.Told.{Tells, own_line}
use Rattle.pt_plan.specs.declared.fault.Fault.TheVariants.{Memory}
use Rattle.pt_cli.specs.Calls.{TellsAsked, TellsText}
use Rattle.pt_cli.specs.Inputs.{Beside}
use Rattle.pt_messages.specs.Reading.{FileWords}
use Rattle.pt_cli.specs.Listing.{MakesListed, TakesList}
use Rattle.pt_cli.specs.Words.{ReadsWords, words_line}
use Rattle.pt_cli.specs.declared.command.Audit.{Audit as AuditArgs}
use Rattle.pt_cli.specs.declared.command.CheckArgs.{CheckArgs}
use Rattle.pt_cli.specs.declared.command.Command.{Command}
use Rattle.pt_cli.specs.declared.command.Command.TheVariants.{Audit, Check, Names, Migrate}
use Rattle.pt_cli.specs.declared.command.Migrate.{Migrate as MigrateArgs}
use Rattle.pt_cli.specs.declared.listing.Untaken.{Untaken}
use Rattle.pt_cli.specs.declared.faults.WordsFault.{WordsFault}
use Rattle.pt_cli.specs.declared.faults.WordsFault.TheVariants as words

-- the status is this, and the machine is asked for no more than to tell this text
abbrev pub Refuses : {H : Type 0} → MachineWords H → ℕ → List ℕ → H → H → ℕ → Type 0
Refuses machine code text old new status = (status ≡ code) × Tells machine text old new

-- what is done where the words are refused so: help and the version are told; refused words are 2, and want of memory is 3
abbrev pub Declines : {H : Type 0} → MachineWords H → WordsFault → H → H → ℕ → Type 0
Declines machine (words.Help text) = TellsText machine text
Declines machine (words.Version text) = TellsText machine text
Declines machine words.Memory = Refuses machine 3 (own_line Memory)
Declines machine fault = Refuses machine 2 (words_line fault)

-- what the list of a migration takes, where one is named, and the run with that; the machine before it and the one after it are a pair
abbrev pub MakesRun : {H : Type 0} → MachineWords H → (Option Text → Type 0) → FileWords → MigrateArgs → H × H → ℕ → Type 0
MakesRun machine asks files asked hosts status =
    (taken : Result Portion Untaken) × TakesList files asked.list asked.options.job.share taken
    × MakesListed machine (λ share. Runs machine asks
    (run_call (record asked.options { job = record asked.options.job { share = share } }) asked.source asked.dest))
    taken hosts.0 hosts.1 status

-- the same of an audit
abbrev pub MakesAudit : {H : Type 0} → MachineWords H → (Option Text → Type 0) → FileWords → AuditArgs → H × H → ℕ → Type 0
MakesAudit machine asks files asked hosts status =
    (taken : Result Portion Untaken) × TakesList files asked.list asked.options.job.share taken
    × MakesListed machine (λ share. Audits machine asks
    (audit_call (record asked.options { job = record asked.options.job { share = share } }) asked.source asked.dest))
    taken hosts.0 hosts.1 status

-- the same of a check
abbrev pub MakesCheck : {H : Type 0} → MachineWords H → (Option Text → Type 0) → FileWords → CheckArgs → H × H → ℕ → Type 0
MakesCheck machine asks files asked hosts status =
    (taken : Result Portion Untaken) × TakesList files asked.list asked.options.share taken
    × MakesListed machine (λ share. ChecksStore machine asks
    (check_call (record asked.options { share = share }) asked.source)) taken hosts.0 hosts.1 status

-- what is done at a command: its call is made, with what its words ask for, and its status is the program's; `names` alone may ask for the input
abbrev pub Obeys : {H : Type 0} → MachineWords H → Beside H → Command
    → H → H → ℕ → Type 0
Obeys machine beside (Names asked) old new = TellsAsked machine beside.input asked old new
Obeys machine beside (Migrate asked) old new = MakesRun machine beside.asks beside.files asked (old, new)
Obeys machine beside (Audit asked) old new = MakesAudit machine beside.asks beside.files asked (old, new)
Obeys machine beside (Check asked) old new = MakesCheck machine beside.asks beside.files asked (old, new)

-- what is done where the words were answered so
abbrev pub Does : {H : Type 0} → MachineWords H → Beside H
    → Result Command WordsFault → H → H → ℕ → Type 0
Does machine beside (Ok command) = Obeys machine beside command
Does machine beside (Err fault) = Declines machine fault

-- these words, the program's name first, are answered, and that is done, with what is asked for beside the machine
abbrev pub EndsWith : {H : Type 0} → MachineWords H → Beside H
    → List Text → H → H → ℕ → Type 0
EndsWith machine beside words old new status =
    (answer : Result Command WordsFault) × ReadsWords words answer
    × Does machine beside answer old new status

-- where no words can be had, why is told: 3 for want of memory, else 2
abbrev pub IsWordless : {H : Type 0} → MachineWords H → Error → H → H → ℕ → Type 0
IsWordless machine error old new status =
    ((error_kind error ≡ OutOfMemory) × Refuses machine 3 (own_line Memory) old new status)
    ⊎ ((error_kind error ≢ OutOfMemory) × Refuses machine 2 (codes "pairtree2ocfl: the arguments are not text\n") old new status)

-- what is done where these words were there, or none can be had
abbrev pub GoesBy : {H : Type 0} → MachineWords H → (List Text → H → H → ℕ → Type 0) → Result (List Text) Error
    → H → H → ℕ → Type 0
GoesBy machine ends (Ok words) old new status = ends words old new status
GoesBy machine ends (Err error) old new status = IsWordless machine error old new status

-- the words that the program was started with are asked for, and that is done
abbrev pub Ends : {H : Type 0} → MachineWords H → (Result (List Text) Error → Type 0) → (List Text → H → H → ℕ → Type 0)
    → H → H → ℕ → Type 0
Ends machine starts ends old new status =
    (arrived : Result (List Text) Error) × starts arrived × GoesBy machine ends arrived old new status
