use Rattle.std.specs.Option.{ForSome}
use Rattle.std.specs.Prelude.{◌≡◌}
use Rattle.pt_check.proofs.Visiting.{VisitedTo}
use Rattle.pt_check.specs.Visits.{Keeps, check_state, tree_by}
use Rattle.pt_check.proofs.checking.Check.+visit.Given as goal

abbrev pub decreases-visit : goal.decreases-visit
decreases-visit g l = l.left

abbrev pub invariant-loop-i : goal.invariant-loop-i
invariant-loop-i g l = record {
  keeps : Keeps g.S.Source g.L.Log l.fn.self l.self;
  unfailed : g.L.Log.failed l.self.log ≡ g.L.Log.failed l.fn.self.log;
  visited : ForSome (tree_by g.S.Source.told l.fn.self) (λ tree. VisitedTo g.E.Explains.says l.fn.self.share l.fn.self.wants l.fn.part.own
      (record { path = l.path; prefix = l.prefix; here = l.fn.part.within; left = l.left }) l.folder.finding tree l.i
      (check_state g.S.Source g.L.Log l.initial.self) (check_state g.S.Source g.L.Log l.self));
}
