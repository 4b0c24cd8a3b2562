use Rattle.std.proofs.Common.{◌≡◌}
use Rattle.serde_json.specs.View.{members_view}
use Rattle.pt_quick.specs.Claimed.{claimed_at, claims_after, no_claims}
use Rattle.pt_quick.proofs.claims.claims_in.Given as goal

abbrev pub invariant-loop-key : goal.invariant-loop-key
invariant-loop-key l =
    claims_after l.algorithm (members_view l.state.entries) no_claims
    ≡ claims_after l.algorithm (members_view l.key-iterator) (claimed_at l.claims)
