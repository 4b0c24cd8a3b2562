use Rattle.pt_check.proofs.checking.Check.visit_leaf.Goals as goal

pub returns-in-File-clause-opened : goal.returns-in-File-clause-opened
returns-in-File-clause-opened g c = rw c.in-File.is (rw c.if-part.true c.open.ensures.opened)
