use Rattle.std.proofs.Common.{◌∙◌, length, sym}
use Rattle.std.proofs.lemmas.Bool.{le-ltb}
use Rattle.std.proofs.lemmas.Str.{IsUtf8-from_is_utf8, is_utf8-from_IsUtf8}
use Rattle.pt_cli.proofs.NameLists.{no_fault, no_text}
use Rattle.pt_cli.proofs.line_reader.identifier_in.Goals as goal

pub returns-in-Ok : goal.returns-in-Ok
returns-in-Ok c = (
  no_fault c.args.line.now (le-ltb 65536 (length c.args.line.now) c.if-line-gt-LONGEST.false) (sym c.is_empty.ensures ∙ c.if-is_empty.false)
      (is_utf8-from_IsUtf8 c.args.line.now c.in-Ok.ensures.cases.1),
  c.in-Ok.ensures.cases.0,
)

pub returns-in-Err : goal.returns-in-Err
returns-in-Err c =
    no_text c.args.line.now (le-ltb 65536 (length c.args.line.now) c.if-line-gt-LONGEST.false) (sym c.is_empty.ensures ∙ c.if-is_empty.false)
    (λ text. c.in-Err.ensures.cases.0 (IsUtf8-from_is_utf8 c.args.line.now text))
