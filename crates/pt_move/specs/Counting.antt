-- Which faults blame which device.
use Rattle.std.specs.Prelude.{◌≡◌, ℕ, ◌==◌, Bool, true, false, Result, Ok, Err}
use Rattle.pt_tree.specs.Failures.{HasRisen}
use Rattle.pt_plan.specs.declared.fault.Fault.{Fault}
use Rattle.pt_plan.specs.RunFaults.{fault_number}

-- the count rose where the device is blamed, and stayed where it isn't
abbrev pub Rose : Bool → ℕ → ℕ → Type 0
Rose true old new = HasRisen old new
Rose false old new = new ≡ old

-- the device whose fault has this number is blamed only where its count rose, and else its count stayed
abbrev pub Counts : {T : Type 0} → ℕ → ℕ → ℕ → Result T Fault → Type 0
Counts device old new (Ok x) = new ≡ old
Counts device old new (Err f) = Rose (fault_number f == device) old new
