-- How the logic stores an entry of a tree, and that a tree is one in one way.
use Rattle.std.specs.Prelude.{◌≡◌, ◌⊎◌, ℕ, List, [], Option, Some, refl}
use Rattle.std.proofs.Common.{inl, inr}
use Rattle.std.specs.Coded.{Coded, Coded-set, code_by, coded_ℕ, coded_list, coded_option, coded⊎}
use base.Stored.{coded_unit}
use Rattle.pt_tree.specs.Tree.{Bytes, Entry, Folder, IsTree, Special, Tree}

-- what an entry is stored as: the bytes of a file, or one of two that have no bytes
abbrev Parts : Type 0
Parts = List ℕ ⊎ (Unit {0} ⊎ Unit {0})

-- an entry as it is stored: a folder is the first of the two without bytes, and what is neither a file nor a folder the second
abbrev to_parts : Entry → Parts
to_parts (Bytes bytes) = inl bytes
to_parts Folder = inr (inl tt)
to_parts Special = inr (inr tt)

-- the entry that is stored so
abbrev from_parts : Parts → Entry
from_parts (inl bytes) = Bytes bytes
from_parts (inr (inl _)) = Folder
from_parts (inr (inr _)) = Special

-- what is stored of an entry gives that entry back
from_parts-to_parts : (entry : Entry) → from_parts (to_parts entry) ≡ entry
from_parts-to_parts (Bytes bytes) = refl
from_parts-to_parts Folder = refl
from_parts-to_parts Special = refl

-- how what may stand at a path is stored: nothing, or an entry
entry_code : Coded (Option Entry)
entry_code = coded_option (code_by Parts (coded⊎ (coded_list coded_ℕ) (coded⊎ coded_unit coded_unit))
    to_parts from_parts from_parts-to_parts)

-- two entries are the same in one way
pub entry_once : (a b : Option Entry) (p q : a ≡ b) → p ≡ q
entry_once = Coded-set entry_code

-- a tree is one in one way
pub tree_once : (t : Tree) (a b : IsTree t) → a ≡ b
tree_once t a b = λ i. record {
  top = entry_once (t []) (Some Folder) a.top b.top i;
  above = λ p n some. entry_once (t p) (Some Folder) (a.above p n some) (b.above p n some) i;
}
