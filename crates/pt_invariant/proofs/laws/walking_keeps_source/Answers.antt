use Rattle.pt_invariant.proofs.source.SourceKeeps.{walks_source}
use Rattle.pt_invariant.proofs.laws.walking_keeps_source.Goals as goal

pub returns : goal.returns
returns c = walks_source
