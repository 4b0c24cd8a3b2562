use Rattle.pt_invariant.proofs.source.SourceKeeps.{places_source}
use Rattle.pt_invariant.proofs.laws.placing_keeps_source.Goals as goal

pub returns : goal.returns
returns c = places_source
