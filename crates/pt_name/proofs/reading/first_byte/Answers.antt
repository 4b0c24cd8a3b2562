use Rattle.std.proofs.Common.{arith}
use Rattle.std.proofs.lemmas.Grind.{common_steps}
use Rattle.pt_name.proofs.reading.first_byte.Goals as goal

pub returns-in_ok-byte_of_digits-in-94-clause-reading : goal.returns-in_ok-byte_of_digits-in-94-clause-reading
returns-in_ok-byte_of_digits-in-94-clause-reading c = grind (arith, common_steps) steps 1000000
