-- What is appended to a list piece by piece.
use Rattle.std.proofs.Common.{◌≡◌, List, ◌++◌, append_assoc, ◌∙◌, ap}

pub appended : {A : Type 0} (o a b s t : List A) → s ≡ o ++ a → t ≡ s ++ b → t ≡ o ++ (a ++ b)
appended {A} o a b s t before more = more ∙ ap (λ (l : List A). l ++ b) before ∙ append_assoc o a b
