use Rattle.std.proofs.Common.{◌≡◌, Bor, List, ℕ, drop, map}
use Rattle.serde_json.specs.View.{view}
use Rattle.pt_messages.specs.Expected.{sum_from, sum_of}
use Rattle.pt_messages.proofs.expected.sum.Given as goal

-- what is left is to be added
abbrev pub invariant-loop-key : goal.invariant-loop-key
invariant-loop-key l = sum_of (map (λ (key : Bor (List ℕ)). key.now) l.keys) (view l.json)
    ≡ sum_from l.total (map (λ (key : Bor (List ℕ)). key.now) (drop l.key-index l.keys)) (view l.json)
