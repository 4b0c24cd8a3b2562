use Rattle.std.proofs.Common.{◌∙◌, ap}
use Rattle.json.specs.Print.{print}
use Rattle.serde_json.proofs.Texts.{print-outline}
use Rattle.pt_object.specs.Inventory.{inventory_tree}
use Rattle.pt_object.proofs.Documents.{all_left}
use Rattle.pt_object.proofs.inventories.InventoryPieces.of.Goals as goal

pub returns : goal.returns
returns c =
    let object = c.args.object in
    let tree = inventory_tree object.id.now object.rows.now object.meta.now object.algorithm in
    ap print (all_left object.id.now object.rows.now object.meta.now object.algorithm c.as_slice-items.result.now c.index.result.now
    (c.as_slice-items.ensures ∙ c.requires) (rw c.as_slice-items.ensures c.index.ensures) c.tell_digests.ensures)
    ∙ print-outline tree
