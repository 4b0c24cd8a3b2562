use Rattle.std.proofs.Common.{◌∙◌, ap, ap₂}
use Rattle.std.proofs.lemmas.Result.{IfOk-weaker}
use Rattle.clap.specs.Words.{App, with_subcommand}
use Rattle.pt_cli.proofs.Building.{built_below}
use Rattle.pt_cli.proofs.grammar.parser.Goals as goal

pub returns : goal.returns
returns c =
    let names = built_below c.names_parser.result _ _ c.names_parser.ensures c.in_ok-with_names.ensures in
    let migrate = built_below c.migrate_parser.result _ _ c.migrate_parser.ensures c.in_ok-with_migrate.ensures in
    let audit = built_below c.audit_parser.result _ _ c.audit_parser.ensures c.in_ok-with_audit.ensures in
    let first = names.2.shape names.1.1 ∙ ap₂ with_subcommand c.top.ensures (ap (λ (a : App). a.top) names.1.0) in
    let second = migrate.2.shape migrate.1.1 ∙ ap₂ with_subcommand first (ap (λ (a : App). a.top) migrate.1.0.1) in
    let third = audit.2.shape audit.1.1 ∙ ap₂ with_subcommand second (ap (λ (a : App). a.top) audit.1.0.1) in
    IfOk-weaker c.with_command-4.result _ _
    (λ r adds.
    let check = built_below c.check_parser.result _ _ c.check_parser.ensures adds in (
      record { migrate = migrate.1.0.0; audit = audit.1.0.0; check = check.1.0.0; spells_check = check.1.0.1 },
      check.2.shape check.1.1 ∙ ap₂ with_subcommand third (ap (λ (a : App). a.top) check.1.0.2),
    ))
    c.with_command-4.ensures
