use Rattle.std.proofs.Common.{◌∙◌, sym}
use Rattle.pt_cli.proofs.program.write_asked.Goals as goal

pub returns-then-is_of_input : goal.returns-then-is_of_input
returns-then-is_of_input g c = rw (sym c.is_of_input.ensures ∙ c.if-is_of_input.true) c.write_names_of_input.ensures

pub returns : goal.returns
returns g c = rw (sym c.is_of_input.ensures ∙ c.if-is_of_input.false) c.write_names.ensures
