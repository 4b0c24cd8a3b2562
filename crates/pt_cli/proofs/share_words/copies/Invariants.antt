use Rattle.std.proofs.Common.{◌≡◌, ℕ, List, map, take, Bor}
use Rattle.std.specs.String.{string_bytes}
use Rattle.pt_cli.proofs.share_words.copies.Given as goal

abbrev pub invariant-loop-text : goal.invariant-loop-text
invariant-loop-text l = map string_bytes l.copies.items ≡ map (λ (t : Bor (List ℕ)). t.now) (take l.text-index l.fn.texts)
