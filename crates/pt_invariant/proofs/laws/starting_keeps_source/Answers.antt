use Rattle.pt_invariant.proofs.source.SourceKeeps.{starts_source}
use Rattle.pt_invariant.proofs.laws.starting_keeps_source.Goals as goal

pub returns : goal.returns
returns c = starts_source
