use Rattle.std.proofs.Common.{subst}
use Rattle.pt_extra.proofs.Within.{string_bound}
use Rattle.pt_extra.specs.Tokens.{IsStringIn}
use Rattle.pt_extra.proofs.inventory.find_id.Goals as goal

pub returns-clause-bound : goal.returns-clause-bound
returns-clause-bound c = string_bound c.args.text.now c.in-Ok.id (subst (λ t. IsStringIn t c.in-Ok.id) c.new-reader.ensures.text c.in-Ok.ensures.within)
