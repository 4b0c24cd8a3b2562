use Rattle.std.proofs.Common.{◌∙◌, subst, sym, refl}
use Rattle.std.specs.Str.{IsUtf8}
use Rattle.pt_name.proofs.Answering.{answers_none, answers_some}
use Rattle.pt_name.proofs.LineEnds.{prefix_fails, prefix_passes}
use Rattle.pt_name.proofs.prefix.read_prefix.Goals as goal

pub returns-in-Ok-from_str : goal.returns-in-Ok-from_str
returns-in-Ok-from_str c =
    answers_none _ _ _ _ (prefix_passes c.args.bytes.now c.if-bytes-gt-LONGEST.false (subst IsUtf8 c.front_of.ensures c.in-Ok.ensures.cases.1))
    (c.in-Ok-from_str.ensures.ok ∙ c.in-Ok.ensures.cases.0 ∙ c.front_of.ensures)

pub returns-in-Err-from_str : goal.returns-in-Err-from_str
returns-in-Err-from_str c =
    answers_none _ _ _ _ (prefix_passes c.args.bytes.now c.if-bytes-gt-LONGEST.false (subst IsUtf8 c.front_of.ensures c.in-Ok.ensures.cases.1)) refl

pub returns-in-Err : goal.returns-in-Err
returns-in-Err c =
    answers_some _ _ _ _ (prefix_fails c.args.bytes.now c.if-bytes-gt-LONGEST.false
    (λ text. c.in-Err.ensures.cases.0 (subst IsUtf8 (sym c.front_of.ensures) text)))
