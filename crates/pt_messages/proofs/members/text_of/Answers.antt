use Rattle.std.proofs.Common.{subst, sym}
use Rattle.std.specs.Str.{IsUtf8}
use Rattle.pt_messages.proofs.NameTexts.{name_is_text}
use Rattle.pt_messages.proofs.members.text_of.Goals as goal

pub returns-in-Err : goal.returns-in-Err
returns-in-Err c =
    absurd (c.in-Err.ensures.cases.0 (subst IsUtf8 (sym c.bytes.ensures.bytes) (name_is_text c.args.name.now c.bytes.ensures.name)))
