-- What a call answers, by whether it refuses.
use Rattle.std.proofs.Common.{◌≡◌, Option, Some, None, Result, Err, refl, sym, subst}
use Rattle.std.specs.Prelude.{MatchResult}
use Rattle.pt_tree.specs.Refusal.{Answers}

-- where nothing refuses
pub answers_none : {T E : Type 0} (refusal : Option E) (memory : E) (r : Result T E) (P : T → Type 0) → refusal ≡ None
    → MatchResult r P (λ e. e ≡ memory) → Answers refusal memory r P
answers_none refusal memory r P e h = subst (λ o. Answers o memory r P) (sym e) h

-- where something does
pub answers_some : {T E : Type 0} (refusal : Option E) (memory fault : E) (P : T → Type 0) → refusal ≡ Some fault
    → Answers refusal memory (Err fault) P
answers_some {T} refusal memory fault P e = let r : Result T _ = Err fault in subst (λ o. Answers o memory r P) (sym e) refl
