-- The faults of a run.
use Rattle.std.specs.Prelude.{ℕ, ⊤}
use Rattle.pt_tree.specs.declared.faults.TreeFault.{TreeFault}
use Rattle.pt_tree.specs.declared.faults.TreeFault.TheVariants as tree
use Rattle.pt_plan.specs.declared.fault.Fault.{Fault}
use Rattle.pt_plan.specs.declared.fault.Fault.TheVariants as fault

-- the number of a fault
abbrev pub fault_number : Fault → ℕ
fault_number fault.Source = 1
fault_number fault.Dest = 2
fault_number fault.Log = 3
fault_number fault.Memory = 4
fault_number fault.NotPairtree = 5
fault_number fault.Prefix = 6
fault_number fault.StagingLeft = 7
fault_number fault.Target = 8
fault_number fault.Changed = 9
fault_number fault.Turns = 10
fault_number fault.Ended = 11

-- it may halt a turn: the two others are of the run alone
abbrev pub IsOfTurn : Fault → Type 0
IsOfTurn fault.Turns = ⊥
IsOfTurn fault.Ended = ⊥
IsOfTurn _ = ⊤

-- ---- what a device's fault is for the run: that of the device, or want of memory

-- of the source
abbrev pub source_fault : TreeFault → Fault
source_fault tree.Device = fault.Source
source_fault tree.Memory = fault.Memory

-- of the destination
abbrev pub dest_fault : TreeFault → Fault
dest_fault tree.Device = fault.Dest
dest_fault tree.Memory = fault.Memory

-- of the log
abbrev pub log_fault : TreeFault → Fault
log_fault tree.Device = fault.Log
log_fault tree.Memory = fault.Memory
