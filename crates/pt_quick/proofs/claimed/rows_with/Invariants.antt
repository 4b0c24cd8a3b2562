use Rattle.std.proofs.Common.{◌≡◌, [], drop}
use Rattle.pt_object.specs.Distinct.{noted_all}
use Rattle.pt_quick.specs.Claimed.{claimed_all, claimed_at, no_claims, read_at}
use Rattle.pt_quick.proofs.claimed.rows_with.Given as goal

abbrev pub invariant-loop-row : goal.invariant-loop-row
invariant-loop-row l = record {
  rows : claimed_all (claimed_at l.claims) no_claims [] l.rows
      ≡ claimed_all (claimed_at l.claims) (read_at l.readings) l.files.rows (drop l.row-index l.rows);
  contents : l.files.contents ≡ noted_all [] l.files.rows;
}
