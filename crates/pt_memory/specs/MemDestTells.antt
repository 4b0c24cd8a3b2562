-- A destination in memory tells a tree.
use Rattle.std.specs.Prelude.{◌≡◌, Some}
use Rattle.std.proofs.Common.{subst}
use Rattle.pt_memory.specs.declared.mem_dest.MemDest.{MemDest}
use Rattle.pt_tree.specs.Dest.{Writing}
use Rattle.pt_memory.specs.Entries.{forest_of}
use Rattle.pt_memory.specs.MemDest.{dest_told, dest_state}
use Rattle.pt_tree.specs.Tree.{IsTree}
use Rattle.pt_tree.specs.TreeLaws.{IsTree-tree_of}

-- what is told is a tree
pub tree_told : (dest : MemDest) (state : Writing) → dest_told dest ≡ Some state → IsTree state.tree
tree_told dest state is =
    let same : (dest_state dest).told ≡ state = cc in
    let P : Writing → Type 0 = λ s. IsTree s.tree in
    subst P same (IsTree-tree_of (forest_of dest.entries))
