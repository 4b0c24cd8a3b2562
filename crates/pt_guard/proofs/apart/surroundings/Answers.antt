use Rattle.std.proofs.Common.{subst}
use Rattle.pt_guard.specs.FilePlace.{FindsFile, place_of}
use Rattle.pt_guard.proofs.apart.surroundings.Goals as goal

pub returns-clause-ok : goal.returns-clause-ok
returns-clause-ok g c =
    subst (λ folders. FindsFile g.S.Places.does folders (place_of c.args.file) c.args.system.now
    c.first_around.new.system c.first_around.result) c.run_paths-paths.ensures c.first_around.ensures
