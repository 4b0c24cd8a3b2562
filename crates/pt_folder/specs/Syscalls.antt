-- A system of which nothing was asked yet.
use Rattle.std.specs.Prelude.{None}
use Rattle.std.specs.Global.{Global}
use Rattle.pt_folder.specs.declared.syscalls.Syscalls.{Syscalls}

-- nothing was asked, and no failure is kept
abbrev pub new_syscalls : {S : Type 0} → S → Global → Syscalls S
new_syscalls system alloc = record { system = system; last = record { alloc = alloc; failure = None } }
