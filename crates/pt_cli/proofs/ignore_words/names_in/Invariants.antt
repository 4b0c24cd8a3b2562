use Rattle.std.proofs.Common.{◌≡◌, ℕ, List, map, true, take, Bor}
use Rattle.pt_cli.specs.Ignore.{are_names}
use Rattle.pt_cli.proofs.ignore_words.names_in.Given as goal

abbrev pub invariant-loop-text : goal.invariant-loop-text
invariant-loop-text l = (l.names ≡ map (λ (t : Bor (List ℕ)). t.now) (take l.text-index l.fn.texts)) × (are_names l.names ≡ true)
