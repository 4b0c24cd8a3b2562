use Rattle.pt_object.proofs.RowFiles as rows
use Rattle.pt_object.proofs.laws.rows_are_files.Goals as goal

pub returns : goal.returns
returns c = rows.rows_are_files
