use Rattle.std.proofs.Common.{refl}
use Rattle.std.proofs.lemmas.Result.{IfOk-weaker}
use Rattle.pt_cli.proofs.grammar.check_parser.Goals as goal

pub returns : goal.returns
returns c = IfOk-weaker c.with_help.result _ _ (λ r told. ((_, refl, told.0), told.1)) c.with_help.ensures
