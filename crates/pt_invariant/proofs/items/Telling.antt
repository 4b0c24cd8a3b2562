-- What devices tell that told at the start.
use Rattle.std.proofs.Common.{◌≡◌, ℕ, List, refl}
use Rattle.std.specs.Prelude.{Option, None, Some}
use Rattle.pt_plan.specs.Lines.{Line}
use Rattle.pt_plan.specs.DeviceStates.{Puts}
use Rattle.pt_invariant.specs.RunInvariant.{TellsAsBefore, TellsStill}
use Rattle.pt_invariant.proofs.source.InPairtree.{some_same}

-- what both the start and the destination tell
pub both_tell : {A B : Type 0} → (P : A → B → Type 0) (start : Option A) (now : Option B) {a : A} → start ≡ Some a → TellsAsBefore start now P
    → (b : B) × (now ≡ Some b) × P a b
both_tell P None None is tells = absurd (cc)
both_tell P None (Some _) _ tells = absurd (tells)
both_tell P (Some _) None _ tells = absurd (tells)
both_tell P (Some x) (Some b) {a} is tells = (b, refl, rw (some_same x a is) at tells)

pub log_tells : (P : List ℕ → List ℕ → Type 0) (start now : Option (List ℕ)) {a : List ℕ} → start ≡ Some a → TellsStill start now P
    → (b : List ℕ) × (now ≡ Some b) × P a b
log_tells P None now is tells = absurd (cc)
log_tells P (Some _) None _ tells = absurd (tells)
log_tells P (Some x) (Some b) {a} is tells = (b, refl, rw (some_same x a is) at tells)

-- a turn that tells nothing leaves the log
pub none_put : (line : Option Line) {old new : Option (List ℕ)} → line ≡ None → Puts line old new → new ≡ old
unfolding Puts
none_put None _ put = put
none_put (Some line) none put = absurd (cc)
