use Rattle.pt_guard.proofs.apart.+has_ancestor.Given as goal

abbrev pub decreases-has_ancestor : goal.decreases-has_ancestor
decreases-has_ancestor g l = l.search.left
