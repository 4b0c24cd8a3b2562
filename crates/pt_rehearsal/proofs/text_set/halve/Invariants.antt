use Rattle.std.proofs.Common.{Bor, List, ℕ, map, take}
use Rattle.pt_rehearsal.specs.Buckets.{IsHalved, texts_in}
use Rattle.pt_rehearsal.proofs.text_set.halve.Given as goal

-- the texts so far were divided
abbrev pub invariant-loop-text : goal.invariant-loop-text
invariant-loop-text l =
    IsHalved l.base l.count (map (λ (t : Bor (List ℕ)). t.now) (take l.text-index l.text-items))
    (texts_in l.halves.stays.items) (texts_in l.halves.goes.items)
