-- What is asked after an answer.
use Rattle.std.proofs.Common.{◌≢◌, refl}
use Rattle.pt_guard.specs.Apart.{GoesOn}
use Rattle.pt_guard.specs.declared.apart.Nesting.{Nesting}
use Rattle.pt_guard.specs.declared.apart.Nesting.TheVariants.{Apart, Inside, Unknown, Wanting}

-- nothing, where it isn't `Apart`: it stays
pub stays : {S : Type 0} (second : S → S → Nesting → Type 0) (one : Nesting) (mid : S) → one ≢ Apart → GoesOn second one mid mid one
stays second Apart mid found = absurd (found refl)
stays second Inside mid found = (refl, refl)
stays second Unknown mid found = (refl, refl)
stays second Wanting mid found = (refl, refl)
