use Rattle.std.proofs.Common.{◌≡◌, ◌++◌, drop}
use Rattle.pt_compare.specs.Root.{Stands}
use Rattle.pt_tree.specs.Source.{tree_in}
use Rattle.pt_plan.specs.TurnWalk.{in_pairtree}
use Rattle.pt_tree.specs.declared.kind.Kind.TheVariants as kind
use Rattle.pt_audit.proofs.twin.leads_to.Given as goal

abbrev pub invariant-loop-name : goal.invariant-loop-name
invariant-loop-name g l = record {
  whole : l.way ++ drop l.name-index l.rest ≡ in_pairtree l.fn.path;
  same : g.S.Source.told l.source ≡ g.S.Source.told l.fn.source;
  failed : g.S.Source.failed l.source ≡ g.S.Source.failed l.fn.source;
  stands : Stands (tree_in (g.S.Source.told l.fn.source)) (l.way, kind.Dir);
  keeps : g.S.Source.keeps l.fn.source l.source;
}
