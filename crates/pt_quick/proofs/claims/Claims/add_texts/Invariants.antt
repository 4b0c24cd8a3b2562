use Rattle.std.proofs.Common.{◌≡◌, drop}
use Rattle.serde_json.specs.View.{items_view}
use Rattle.pt_quick.specs.Claimed.{claimed_at, with_items}
use Rattle.pt_quick.proofs.claims.Claims.add_texts.Given as goal

abbrev pub invariant-loop-text : goal.invariant-loop-text
invariant-loop-text l =
    with_items l.digest (items_view l.texts) (claimed_at l.fn.self)
    ≡ with_items l.digest (items_view (drop l.text-index l.texts)) (claimed_at l.self)
