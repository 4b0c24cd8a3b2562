use Rattle.std.proofs.Common.{arith, rules, subst, sym}
use Rattle.pt_object.specs.WellKnown.{known_text}
use Rattle.pt_plan.proofs.FoundKinds.{look_top}
use Rattle.pt_tree.specs.Path.{Path}
use Rattle.pt_tree.specs.Source.{CanLook, tree_in}
use Rattle.pt_scan.proofs.ScanTurns.{unasked}
use Rattle.pt_scan.proofs.store.look_at_top.Goals as goal

pub returns-in_err-path : goal.returns-in_err-path
returns-in_err-path g c = record {
  did = search rules;
  failed = search (rules, unasked);
  few = g.met.O.Io.most _ _ 0 1 0 0 (g.met.O.Io.none _) (omega arith) (omega arith);
}

pub look-requires-clause-looked : goal.look-requires-clause-looked
look-requires-clause-looked g c =
    let tree = tree_in (g.O.Io.states c.args.out.now).source in
    subst (λ (p : Path). CanLook tree p) (sym c.in_ok-path.ensures) (look_top tree (known_text c.args.name))
