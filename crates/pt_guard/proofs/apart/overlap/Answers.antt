use Rattle.std.proofs.Common.{subst}
use Rattle.pt_guard.specs.Apart.{Finds}
use Rattle.pt_guard.proofs.apart.overlap.Goals as goal

pub returns-clause-ok : goal.returns-clause-ok
returns-clause-ok g c =
    subst (λ folders. Finds g.S.Places.does folders c.args.system.now c.first_found.new.system c.first_found.result)
    c.run_paths-paths.ensures c.first_found.ensures
