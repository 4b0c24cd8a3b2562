use Rattle.pt_cli.proofs.Naming.{name_added, name_refused}
use Rattle.pt_cli.proofs.ignore_words.names_in.Goals as goal

pub returns-in_err-name_in : goal.returns-in_err-name_in
returns-in_err-name_in c =
    name_refused c.args.texts.now c.loop-text.text-index _ c.in_err-name_in.field-0.0 c.from_residual.result _ c.loop-text-test.true c.in_err-name_in.ensures
    c.from_residual.ensures.1

pub loop-text-preserved : goal.loop-text-preserved
loop-text-preserved c = name_added c.args.texts.now c.loop-text.text-index _ c.in_ok-name_in.field-0 c.loop-text.names c.add.new.self c.loop-text-test.true
    c.in_ok-name_in.ensures c.loop-text.invariant c.in_ok-add.ensures.ok
