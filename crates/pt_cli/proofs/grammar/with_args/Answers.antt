use Rattle.pt_cli.proofs.Building.{one_more}
use Rattle.pt_cli.proofs.grammar.with_args.Goals as goal

pub loop-spec-preserved : goal.loop-spec-preserved
loop-spec-preserved c =
    one_more c.args.parser c.loop-spec.grown c.in_ok-grown.grown c.told.result c.args.specs.now c.loop-spec.spec-index _ c.loop-spec-test.true
    c.loop-spec.invariant c.told.ensures c.in_ok-grown.ensures
