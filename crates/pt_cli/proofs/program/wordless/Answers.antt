use Rattle.std.proofs.Common.{◌∙◌, inr}
use Rattle.pt_cli.proofs.program.wordless.Goals as goal

pub returns-in_default : goal.returns-in_default
returns-in_default g c = inr (λ is. c.in_default.not-OutOfMemory (c.kind.ensures ∙ is), c.refuse_words.ensures)
