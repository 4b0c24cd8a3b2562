use Rattle.std.proofs.Common.{inl, refl, subst, sym}
use Rattle.pt_plan.specs.SourceFailures.{IsAskedFor}
use Rattle.pt_make.proofs.contents.open_copy.Goals as goal
use Rattle.pt_make.specs.Making.{IsNextCopy}

pub open-requires-clause-asked_for : goal.open-requires-clause-asked_for
unfolding IsNextCopy
open-requires-clause-asked_for g c = subst IsAskedFor (sym c.requires.next.1.4) (inl refl)
