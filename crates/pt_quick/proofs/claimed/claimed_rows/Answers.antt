use Rattle.std.proofs.Common.{List, subst}
use Rattle.std.specs.Prelude.{All}
use Rattle.pt_object.specs.FilePaths.{row_paths}
use Rattle.pt_object.specs.declared.rows.Row.{Row}
use Rattle.pt_tree.specs.Name.{AreNames}
use Rattle.pt_quick.proofs.Steps.{on_ok}
use Rattle.pt_quick.proofs.claimed.claimed_rows.Goals as goal

pub returns-clause-named : goal.returns-clause-named
returns-clause-named c =
    on_ok c.rows_with.result _ (subst (λ (l : List Row). All AreNames (row_paths l)) c.as_slice.ensures c.tell_names.ensures)
