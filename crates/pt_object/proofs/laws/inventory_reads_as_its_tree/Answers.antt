use Rattle.pt_object.proofs.InventoryText as inventory
use Rattle.pt_object.proofs.laws.inventory_reads_as_its_tree.Goals as goal

pub returns : goal.returns
returns c = inventory.inventory_reads
