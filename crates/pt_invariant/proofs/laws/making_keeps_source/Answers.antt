use Rattle.pt_invariant.proofs.source.SourceKeeps.{makes_source}
use Rattle.pt_invariant.proofs.laws.making_keeps_source.Goals as goal

pub returns : goal.returns
returns c = makes_source
