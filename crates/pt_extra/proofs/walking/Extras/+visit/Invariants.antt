use Rattle.std.specs.Option.{ForSome}
use Rattle.pt_audit.specs.Failing.{failures}
use Rattle.pt_tree.specs.Source.{tree_in}
use Rattle.pt_extra.proofs.Past.{Passed}
use Rattle.pt_extra.proofs.Visiting.{FoundTo}
use Rattle.pt_extra.specs.Walk.{Keeps, against, walk_state}
use Rattle.pt_plan.specs.TurnWalk.{in_root}
use Rattle.pt_walk.specs.Left.{inside_at}
use Rattle.pt_extra.proofs.walking.Extras.+visit.Given as goal

abbrev pub decreases-visit : goal.decreases-visit
decreases-visit g l = l.left

abbrev pub invariant-loop-i : goal.invariant-loop-i
invariant-loop-i g l = record {
  keeps : Keeps g.S.Source g.R.Source g.L.Log l.fn.self l.self;
  failed : Passed (failures (g.S.Source.failed l.fn.self.store) (g.R.Source.failed l.fn.self.root) (g.L.Log.failed l.fn.self.log))
      (failures (g.S.Source.failed l.self.store) (g.R.Source.failed l.self.root) (g.L.Log.failed l.self.log));
  found : ForSome (tree_in (g.S.Source.told l.fn.self.store)) (λ s. ForSome (tree_in (g.R.Source.told l.fn.self.root))
      (λ r. FoundTo (g.R.Source.failed l.fn.self.root) (g.R.Source.failed l.self.root) (against l.fn.self s) l.path l.left
      (inside_at r (in_root l.path)) l.i (walk_state g.L.Log l.fn.self) (walk_state g.L.Log l.self)));
}
