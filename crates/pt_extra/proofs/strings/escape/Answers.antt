use Rattle.std.proofs.Common.{ap, ◌∙◌, arith}
use Rattle.std.proofs.lemmas.Grind.{common_steps}
use Rattle.std.proofs.lemmas.List.{drop_all}
use Rattle.std.specs.Char.{encode_utf8}
use Rattle.json.specs.Text.{content, after_backslash}
use Rattle.pt_extra.proofs.Lexing.{lex_escape, lexed_on}
use Rattle.pt_extra.proofs.Contents.{content-after_backslash, content-nil}
use Rattle.pt_extra.proofs.strings.escape.Goals as goal

pub returns-then-at-text-clause-value : goal.returns-then-at-text-clause-value
returns-then-at-text-clause-value c = ap (content after_backslash) (drop_all c.args.at c.args.text.now (omega arith)) ∙ content-nil after_backslash

pub returns-then-text-at-eq117-clause-value : goal.returns-then-text-at-eq117-clause-value
returns-then-text-at-eq117-clause-value c = grind (arith, common_steps, content-after_backslash c.args.text.now c.args.at (omega arith))

pub returns-then-text-at-eq117-clause-lexed : goal.returns-then-text-at-eq117-clause-lexed
returns-then-text-at-eq117-clause-lexed c =
    lexed_on c.args.text.now c.unicode.result _ _ (lex_escape c.args.text.now c.args.at (omega arith)) c.unicode.ensures.lexed

pub returns-in_err-c-clause-value : goal.returns-in_err-c-clause-value
returns-in_err-c-clause-value c = grind (arith, common_steps, content-after_backslash c.args.text.now c.args.at (omega arith))

pub returns-clause-value : goal.returns-clause-value
unfolding encode_utf8
returns-clause-value c = grind (arith, common_steps, content-after_backslash c.args.text.now c.args.at (omega arith))

pub returns-clause-lexed : goal.returns-clause-lexed
returns-clause-lexed c = lex_escape c.args.text.now c.args.at (omega arith)
