use Rattle.std.proofs.Common.{◌∙◌, rules, sym}
use Rattle.pt_state.proofs.Together.{looked_same}
use Rattle.pt_make.proofs.RootTurns.{inner_lacks, inner_stands, outer_lacks, outer_stands}
use Rattle.pt_make.proofs.root.has_folders.Goals as goal

pub returns-then-not-is_dir-clause-stays : goal.returns-then-not-is_dir-clause-stays
returns-then-not-is_dir-clause-stays g c = looked_same _ _ _ _ c.in_ok-here.ensures.did

pub returns-then-not-is_dir-clause-lacks : goal.returns-then-not-is_dir-clause-lacks
returns-then-not-is_dir-clause-lacks g c _ =
    outer_lacks _ _ _ _ c.requires.outer (g.met.O.Io.is_tree c.args.out.now) c.in_ok-here.ensures.did (search rules)

pub returns-in_err-here-2-clause-few : goal.returns-in_err-here-2-clause-few
returns-in_err-here-2-clause-few g c = g.met.O.Io.more _ _ _ 0 0 1 1 c.kind.ensures.few c.kind-2.ensures.few

pub returns-clause-stays : goal.returns-clause-stays
returns-clause-stays g c = looked_same _ _ _ _ c.in_ok-here-2.ensures.did ∙ looked_same _ _ _ _ c.in_ok-here.ensures.did

pub returns-clause-lacks : goal.returns-clause-lacks
returns-clause-lacks g c lacks =
    inner_lacks _ _ _ _ _ _ _ c.requires.inner (g.met.O.Io.is_tree c.args.out.now) c.in_ok-here.ensures.did c.in_ok-here-2.ensures.did (sym c.is_dir-2.ensures
    ∙ lacks)

pub returns-clause-few : goal.returns-clause-few
returns-clause-few g c = g.met.O.Io.more _ _ _ 0 0 1 1 c.kind.ensures.few c.kind-2.ensures.few

pub returns-clause-outer : goal.returns-clause-outer
returns-clause-outer g c has = outer_stands _ _ _ _ c.requires.outer c.in_ok-here.ensures.did (search rules)

pub returns-clause-inner : goal.returns-clause-inner
returns-clause-inner g c has =
    inner_stands _ _ _ _ _ _ _ c.requires.inner c.in_ok-here.ensures.did c.in_ok-here-2.ensures.did (sym c.is_dir-2.ensures ∙ has)
