use Rattle.std.proofs.Common.{◌∙◌, ap}
use Rattle.std.proofs.lemmas.Result.{IfOk-weaker}
use Rattle.clap.specs.Simple.{app_of_fields}
use Rattle.clap.specs.declared.builder.command.Command.{Command}
use Rattle.clap.specs.declared.builder.command.Command.TheOpen.{Command-F}
use Rattle.pt_cli.proofs.Building.{IsLocalApp, grown}
use Rattle.pt_cli.proofs.grammar.with_help.Goals as goal

pub returns : goal.returns
returns c =
    let start : IsLocalApp _ c.after_long_help-parser.result = (
      ap app_of_fields c.after_long_help-parser.ensures ∙ ap app_of_fields c.about.ensures ∙ c.new.ensures.app,
      ap (λ (f : Command-F Command). f.has_globals) c.after_long_help-parser.ensures ∙ ap (λ (f : Command-F Command). f.has_globals) c.about.ensures
          ∙ c.new.ensures.local,
    ) in
    IfOk-weaker c.with_args.result _ _ (λ r told. grown _ _ _ _ start told) c.with_args.ensures
