use Rattle.std.proofs.Common.{◌≡◌, ◌++◌, length}
use Rattle.std.specs.Str.{IsUtf8}
use Rattle.pt_object.specs.Inventory.{inventory_text}
use Rattle.pt_object.proofs.inventories.inventory.Given as goal

abbrev pub invariant-loop-text : goal.invariant-loop-text
invariant-loop-text l =
    (l.text.items ++ l.pieces.rest ≡ inventory_text l.fn.id l.fn.rows l.fn.meta l.fn.algorithm) × IsUtf8 l.text.items

abbrev pub decreases-loop-text : goal.decreases-loop-text
decreases-loop-text l = length l.pieces.rest
