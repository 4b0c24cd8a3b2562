use Rattle.std.proofs.Common.{rules, arith}
use Rattle.std.proofs.lemmas.Grind.{common_steps}
use Rattle.json.specs.Word.{after_number}
use Rattle.pt_extra.proofs.words.after_number.Goals as goal

pub returns-in_err-point-clause-value : goal.returns-in_err-point-clause-value
unfolding after_number
returns-in_err-point-clause-value c = first_of (search rules, grind (arith, common_steps))

pub returns-in_err-power-clause-value : goal.returns-in_err-power-clause-value
unfolding after_number
returns-in_err-power-clause-value c = first_of (search rules, grind (arith, common_steps))

pub returns-clause-value : goal.returns-clause-value
unfolding after_number
returns-clause-value c = first_of (search rules, grind (arith, common_steps))
