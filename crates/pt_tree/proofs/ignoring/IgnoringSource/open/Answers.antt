use Rattle.std.proofs.Common.{◌∙◌, ap}
use Rattle.std.proofs.lemmas.Result.{on_ok_weaker}
use Rattle.pt_tree.specs.Ignoring.{told_without}
use Rattle.pt_tree.proofs.ToldWithout.{can_open, is_opened}
use Rattle.pt_tree.proofs.ignoring.IgnoringSource.open.Goals as goal

pub open-requires : goal.open-requires
open-requires g c = can_open _ _ _ c.requires

pub returns-clause-opened : goal.returns-clause-opened
returns-clause-opened g c = on_ok_weaker c.open.result (λ is. ap (told_without c.args.self.now.names) is ∙ is_opened _ _ _ c.requires) c.open.ensures.opened
