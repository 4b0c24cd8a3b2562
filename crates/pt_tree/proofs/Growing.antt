-- A log in which what stood stands.
use Rattle.std.proofs.Common.{◌∙◌, ap, append-nil, append_assoc, sym}
use Rattle.std.specs.Prelude.{ℕ, List, [], ◌++◌, Option, None, Some}
use Rattle.pt_tree.specs.Log.{Grows}

-- it does where nothing is put
pub grows_none : (told : Option (List ℕ)) → Grows told told
grows_none None = ([], tt)
grows_none (Some xs) = ([], sym (append-nil xs))

-- and where it does twice
pub grows_on : (a b c : Option (List ℕ)) → Grows a b → Grows b c → Grows a c
grows_on None b c p q = ([], tt)
grows_on (Some xs) None c p q = absurd (p.1)
grows_on (Some xs) (Some ys) None p q = absurd (q.1)
grows_on (Some xs) (Some ys) (Some zs) p q = (
  p.0 ++ q.0,
  q.1 ∙ ap (λ l. l ++ q.0) p.1 ∙ append_assoc xs p.0 q.0,
)
