-- Which faults a check answers.
use Rattle.std.specs.Prelude.{◌≡◌, ℕ, Result, Ok, Err}
use Rattle.pt_plan.specs.declared.fault.Fault.{Fault}
use Rattle.pt_plan.specs.declared.fault.Fault.TheVariants as fault
use Rattle.pt_tree.specs.Failures.{HasRisen}

-- a fault of a check, by how often its log had failed before and after: `Log` where that failed, `Memory` where it didn't, and no other
abbrev pub IsOfCheck : ℕ → ℕ → Fault → Type 0
IsOfCheck old new fault.Log = HasRisen old new
IsOfCheck old new fault.Memory = new ≡ old
IsOfCheck old new _ = ⊥

-- the log failed only where that is answered
abbrev pub LogFailsAs : {T : Type 0} → ℕ → ℕ → Result T Fault → Type 0
LogFailsAs old new (Ok x) = new ≡ old
LogFailsAs old new (Err why) = IsOfCheck old new why
