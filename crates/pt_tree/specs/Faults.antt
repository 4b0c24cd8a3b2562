-- The numbers of the faults.
use Rattle.std.specs.Prelude.{ℕ}
use Rattle.pt_tree.specs.declared.faults.MemoryFault.{MemoryFault}
use Rattle.pt_tree.specs.declared.faults.MemoryFault.TheVariants as memory
use Rattle.pt_tree.specs.declared.faults.TreeFault.{TreeFault}
use Rattle.pt_tree.specs.declared.faults.TreeFault.TheVariants as tree

-- the number of a refusal for want of memory
abbrev pub memory_number : MemoryFault → ℕ
memory_number memory.Memory = 1

-- the number of a fault of a source or a destination
abbrev pub tree_number : TreeFault → ℕ
tree_number tree.Device = 1
tree_number tree.Memory = 2
