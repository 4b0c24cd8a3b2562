use Rattle.std.proofs.Common.{rules, ◌∙◌, ap, sym, subst, map}
use Rattle.clap.specs.Words.{App, HasKind, fault_of, is_simple, is_simple_and_free, subcommand_of, subcommand_rows_of}
use Rattle.pt_cli.specs.Grammar.{program}
use Rattle.pt_cli.specs.Arguments.{IsThere}
use Rattle.pt_cli.specs.Options.{answer_to}
use Rattle.pt_cli.proofs.Complete.{program_answered}
use Rattle.pt_cli.proofs.Parsed.{answers_error, answers_found, program-simple, program-free, some_words}
use Rattle.pt_cli.proofs.words.read_words.Goals as goal

pub returns-in_err-parser : goal.returns-in_err-parser
returns-in_err-parser g c = (some_words, search rules)

pub command-requires : goal.command-requires
command-requires g c =
    let words = map g.S.AsStr.text c.args.words.now in
    let spelled = c.in_ok-parser.ensures.0 in
    let told = c.in_ok-parser.ensures.1 in
    let none = ap (λ (a : App). fault_of a words) (sym told) ∙ c.in-Ok.ensures.kinds (ap is_simple_and_free told ∙ program-free spelled) in
    let found = (c.in-Ok.ensures.matches (ap is_simple told ∙ program-simple spelled)).1 ∙ ap (λ (a : App). subcommand_of a words) told in
    subst (λ o. IsThere (answer_to o)) (sym found) (program_answered spelled words none)

pub returns-in-Ok : goal.returns-in-Ok
returns-in-Ok g c =
    let words = map g.S.AsStr.text c.args.words.now in
    let spelled = c.in_ok-parser.ensures.0 in
    let told = c.in_ok-parser.ensures.1 in
    let none = ap (λ (a : App). fault_of a words) (sym told) ∙ c.in-Ok.ensures.kinds (ap is_simple_and_free told ∙ program-free spelled) in
    let found = (c.in-Ok.ensures.matches (ap is_simple told ∙ program-simple spelled)).1 ∙ ap (λ (a : App). subcommand_of a words) told in (
      spelled,
      answers_found (fault_of (program spelled) words) (subcommand_rows_of c.in-Ok.matches)
          (subcommand_of (program spelled) words) c.command.result none found c.command.ensures,
    )

pub returns-in-Err : goal.returns-in-Err
returns-in-Err g c =
    let words = map g.S.AsStr.text c.args.words.now in
    let spelled = c.in_ok-parser.ensures.0 in
    let told = c.in_ok-parser.ensures.1 in
    let failed = c.in-Err.ensures.kinds (ap is_simple_and_free told ∙ program-free spelled) in
    let P : App → Type 0 = λ a. HasKind (fault_of a words) c.in-Err.error in (
      spelled,
      answers_error (fault_of (program spelled) words) (subcommand_of (program spelled) words) c.in-Err.error c.refusal.result
          (subst P told failed) c.refusal.ensures,
    )
