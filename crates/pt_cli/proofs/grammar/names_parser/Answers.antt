use Rattle.std.proofs.Common.{◌∙◌, ap, codes}
use Rattle.std.proofs.lemmas.Result.{IfOk-weaker}
use Rattle.clap.specs.Words.{new_app}
use Rattle.clap.specs.Simple.{app_of_fields}
use Rattle.clap.specs.declared.builder.command.Command.{Command}
use Rattle.clap.specs.declared.builder.command.Command.TheOpen.{Command-F}
use Rattle.pt_cli.proofs.Building.{IsLocalApp, grown}
use Rattle.pt_cli.proofs.grammar.names_parser.Goals as goal

pub returns : goal.returns
returns c =
    let start : IsLocalApp (new_app (codes "names")) c.about-parser.result = (
      ap app_of_fields c.about-parser.ensures ∙ c.new.ensures.app,
      ap (λ (f : Command-F Command). f.has_globals) c.about-parser.ensures ∙ c.new.ensures.local,
    ) in
    IfOk-weaker c.with_args.result _ _ (λ r told. grown _ _ _ _ start told) c.with_args.ensures
