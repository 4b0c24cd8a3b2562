-- From the calls that build a parser to the words that it takes.
use Rattle.std.proofs.Common.{◌≡◌, ◌∙◌, ◌||◌, ◌+◌, ◌++◌, ◌∷◌, [], ◌<◌, ℕ, false, List, length, get_or, map, take, append_assoc, Result, Ok, Err, ap, ap₂, sym}
use Rattle.std.specs.Result.{IfOk, IsOkAnd}
use Rattle.std.specs.declared.alloc.AllocError.{AllocError}
use Rattle.std.proofs.Math.Bool.{or-false}
use Rattle.std.proofs.lemmas.List.{map-append, take_more}
use Rattle.clap.specs.Words.{AddsArg, App, Rule, app_of, with_rule}
use Rattle.clap.specs.Simple.{on_top}
use Rattle.clap.specs.declared.builder.arg.Arg.{Arg}
use Rattle.clap.specs.declared.builder.command.Command.{Command}
use Rattle.clap.specs.declared.builder.command.Command.TheViews.{out-Command}
use Rattle.pt_cli.specs.ArgSpec.{IsLocal, TakesToo, rule_of_spec, with_rules}
use Rattle.pt_cli.specs.declared.grammar.ArgSpec.{ArgSpec}

-- the parser takes these words, and has no argument that its subcommands take too
abbrev pub IsLocalApp : App → Command → Type 0
IsLocalApp app parser = (app_of parser ≡ app) × ((out-Command parser).has_globals ≡ false)

-- arguments behind those that there are
pub grown : (old new : Command) (rules : List Rule) (app : App) → IsLocalApp app old → TakesToo rules old new → IsLocalApp (with_rules rules app) new
grown old new rules app is adds = (adds.0 ∙ ap (with_rules rules) is.0, adds.1 ∙ is.1)

-- a rule behind others
behind : (app : App) (rules : List Rule) (rule : Rule) → with_rule (with_rules rules app) rule ≡ with_rules (rules ++ rule ∷ []) app
behind app rules rule = ap (λ (l : List Rule). on_top (λ s. record s { rules = l }) app) (append_assoc app.top.rules rules (rule ∷ []))

-- one more of the arguments that a command takes
pub one_more : (first old new : Command) (arg : Arg) (specs : List ArgSpec) (i : ℕ) (d : ArgSpec) → i < length specs
    → TakesToo (map rule_of_spec (take i specs)) first old → IsLocal (rule_of_spec (get_or specs i d)) arg → AddsArg old arg new
    → TakesToo (map rule_of_spec (take (i + 1) specs)) first new
one_more first old new arg specs i d here so_far is adds =
    let rules : map rule_of_spec (take (i + 1) specs) ≡ map rule_of_spec (take i specs) ++ rule_of_spec (get_or specs i d) ∷ [] =
    ap (map rule_of_spec) (take_more specs i d here) ∙ map-append rule_of_spec (take i specs) (get_or specs i d ∷ []) in (
      adds.shape is.1 ∙ ap₂ with_rule so_far.0 is.0 ∙ behind (app_of first) (map rule_of_spec (take i specs)) (rule_of_spec (get_or specs i d))
          ∙ ap (λ (l : List Rule). with_rules l (app_of first)) (sym rules),
      adds.globals ∙ ap₂ ◌||◌ so_far.1 is.1 ∙ or-false (out-Command first).has_globals,
    )

-- the command that there is
pub built_below : (r : Result Command AllocError) (P Q : Command → Type 0) → IfOk r P → IsOkAnd r Q → (below : Command) × P below × Q below
built_below (Ok below) P Q is adds = (below, is, adds)
built_below (Err e) P Q is adds = absurd adds
