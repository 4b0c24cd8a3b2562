-- What the parser is told of an argument that a command takes.
use Rattle.std.specs.Prelude.{◌≡◌, ◌++◌, List, [], ◌∷◌, Some, true, false}
use Rattle.std.specs.Borrow.{Bor}
use Rattle.clap.specs.Words.{App, Rule, Text, app_of, new_app, new_rule, rule_of}
use Rattle.clap.specs.Simple.{on_top}
use Rattle.clap.specs.declared.builder.action.ArgAction.TheVariants.{Append}
use Rattle.clap.specs.declared.builder.arg.Arg.{Arg}
use Rattle.clap.specs.declared.builder.command.Command.{Command}
use Rattle.clap.specs.declared.builder.command.Command.TheViews.{out-Command}
use Rattle.clap.specs.declared.builder.value_parser.ValueParser.TheVariants as vp
use Rattle.pt_cli.specs.Grammar.{flag_rule, number_rule, option_rule}
use Rattle.pt_cli.specs.declared.grammar.Form.{Form}
use Rattle.pt_cli.specs.declared.grammar.Form.TheVariants as form
use Rattle.pt_cli.specs.declared.grammar.ArgSpec.{ArgSpec}

-- `ID`, which must be there
abbrev pub place_rule : Text → Rule
place_rule id = record (new_rule id) { required = true }

-- `--id VALUE`, which must be there
abbrev pub needed_rule : Text → Rule
needed_rule id = record (option_rule id) { required = true }

-- `--id VALUE`, which may be given more than once
abbrev pub repeated_rule : Text → Rule
repeated_rule id = record (option_rule id) { action = Some Append }

-- the same, and no value is empty
abbrev pub repeated_text_rule : Text → Rule
repeated_text_rule id = record (repeated_rule id) { parser = Some vp.NonEmptyString }

-- `--id VALUE`, which is this unless it is given
abbrev pub defaulted_rule : Text → Text → Rule
defaulted_rule id default = record (option_rule id) { defaults = default ∷ [] }

-- `--id WORD`, one of these words
abbrev pub word_rule : Text → Bor (List (Bor Text)) → Text → Rule
word_rule id words default = record (defaulted_rule id default) { parser = Some (vp.Names words) }

-- the rule of an argument of this form
abbrev pub formed_rule : Text → Form → Rule
formed_rule id form.Place = place_rule id
formed_rule id (form.Value name) = option_rule id
formed_rule id (form.Needed name) = needed_rule id
formed_rule id (form.Repeated name) = repeated_rule id
formed_rule id (form.RepeatedText name) = repeated_text_rule id
formed_rule id (form.Default name default) = defaulted_rule id default.now
formed_rule id (form.Number name default) = number_rule id default.now
formed_rule id (form.Word name words default) = word_rule id words default.now
formed_rule id form.Flag = flag_rule id
formed_rule id (form.Letter letter) = record (flag_rule id) { short = Some letter }

-- the rule of an argument by its row
abbrev pub rule_of_spec : ArgSpec → Rule
rule_of_spec spec = formed_rule spec.id.now spec.form

-- the argument has this rule, and subcommands don't take it
abbrev pub IsLocal : Rule → Arg → Type 0
IsLocal rule arg = (rule_of arg ≡ rule) × (arg.global ≡ false)

-- these behind those that there are
abbrev pub with_rules : List Rule → App → App
with_rules rules app = on_top (λ s. record s { rules = s.rules ++ rules }) app

-- the parser takes these too, and no subcommand takes them
abbrev pub TakesToo : List Rule → Command → Command → Type 0
TakesToo rules old new =
    (app_of new ≡ with_rules rules (app_of old)) × ((out-Command new).has_globals ≡ (out-Command old).has_globals)

-- the parser of a command of this name that takes these, and no subcommand takes them
abbrev pub IsTaker : Text → List Rule → Command → Type 0
IsTaker name rules parser =
    (app_of parser ≡ with_rules rules (new_app name)) × ((out-Command parser).has_globals ≡ false)
