use Rattle.pt_invariant.proofs.source.ScansSource.{scans_source}
use Rattle.pt_invariant.proofs.laws.scanning_keeps_source.Goals as goal

pub returns : goal.returns
returns c = scans_source
