use Rattle.pt_quick.proofs.Alone.{inventory_claims_its_rows}
use Rattle.pt_quick.proofs.laws.inventory_claims_its_rows.Goals as goal

pub returns : goal.returns
returns c = inventory_claims_its_rows
