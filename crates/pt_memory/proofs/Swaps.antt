-- When a swap is refused.
use Rattle.std.proofs.Common.{◌≡◌, List, ℕ, true, subst}
use Rattle.std.specs.Prelude.{Option, None, Some, Ok, is_some}
use Rattle.std.specs.Option.{option_copied, option_map_or}
use denote.Ref.{Bor}
use Rattle.pt_memory.specs.declared.loose_source.SwapFault.TheVariants as swap
use Rattle.pt_tree.specs.Forest.{Forest, file_at}
use Rattle.pt_memory.specs.LooseSource.{swap_refusal}
use Rattle.pt_tree.specs.Path.{Path}
use Rattle.pt_tree.specs.Refusal.{Answers}

pub not_refused : (tree : Forest) (p : Path) (r : Option (Bor (List ℕ))) (P : Unit {0} → Type 0) → option_copied r ≡ file_at tree p → is_some r ≡ true → P tt
    → Answers (swap_refusal tree p) swap.Memory (Ok tt) P
not_refused tree p None P is some holds = absurd (cc)
not_refused tree p (Some b) P is some holds =
    let Q : Option (List ℕ) → Type 0 = λ o. Answers (option_map_or (λ _. None) o (Some swap.Absent)) swap.Memory (Ok (tt {0})) P in
    subst Q is holds
