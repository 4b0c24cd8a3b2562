use Rattle.pt_object.proofs.Indexed.{DigestsDiffer-index}
use Rattle.pt_object.proofs.table.contents.Contents.len.Goals as goal

pub returns-clause-differ : goal.returns-clause-differ
returns-clause-differ c = rw (← c.self.view_is) (DigestsDiffer-index _ _ c.self.invariant.ordered)
