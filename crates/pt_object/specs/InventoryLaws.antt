-- What the text of an inventory reads as.
use Rattle.std.specs.Prelude.{◌≡◌, ℕ, List, Some}
use Rattle.serde_json.specs.Read.{read}
use Rattle.pt_object.specs.Inventory.{inventory_text, inventory_tree}
use Rattle.pt_object.specs.MetaParts.{MetaParts}
use Rattle.pt_object.specs.declared.algorithm.Algorithm.{Algorithm}
use Rattle.pt_object.specs.declared.rows.Row.{Row}

-- reading the inventory's text as JSON gives its tree
abbrev pub InventoryReadsAsItsTree : Type 0
InventoryReadsAsItsTree =
    (id : List ℕ) (rows : List Row) (meta : MetaParts) (algorithm : Algorithm)
    → read (inventory_text id rows meta algorithm) ≡ Some (inventory_tree id rows meta algorithm)
