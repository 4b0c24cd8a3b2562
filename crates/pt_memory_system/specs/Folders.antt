-- Two folders at their paths, and what is told of each.
use Rattle.std.specs.Prelude.{◌≡◌, ℕ, Bool, true, false, cond, min, length, take, List, Option, None, Some}
use Rattle.std.specs.Option.{option_map}
use Rattle.std.specs.Str.{bytes_eq}
use Rattle.std.proofs.Common.{refl, ap, ◌∙◌}
use Rattle.pt_tree.proofs.Names.{same_name}

-- neither path begins with the other
abbrev pub AreApart : List ℕ → List ℕ → Type 0
AreApart a b = ¬ (take (min (length a) (length b)) a ≡ take (min (length a) (length b)) b)

-- this is told of the folder at a path, and nothing of any other
abbrev pub told_at : {X : Type 0} → List ℕ → X → List ℕ → Option X
told_at path x folder = cond (bytes_eq path folder) (Some x) None

-- what is told is of that folder
pub told_is : {X : Type 0} (path : List ℕ) (x : X) (folder : List ℕ) (y : X)
    → told_at path x folder ≡ Some y
    → (path ≡ folder) × (x ≡ y)
told_is {X} path x folder y = by (bytes_eq path folder) refl
  where
    by : (b : Bool) → bytes_eq path folder ≡ b → cond b (Some x) None ≡ Some y
        → (path ≡ folder) × (x ≡ y)
    by true at is = (same_name path folder at, cc)
    by false at is = absurd (cc)

-- a change of it is one of what is told
pub told_changed : {X : Type 0} (path after folder : List ℕ) (x y : X) (change : X → X) → after ≡ path
    → (path ≡ folder → y ≡ change x)
    → told_at after y folder ≡ option_map change (told_at path x folder)
told_changed {X} path after folder x y change same made =
    ap (λ (r : List ℕ). told_at r y folder) same ∙ by (bytes_eq path folder) refl
  where
    by : (b : Bool) → bytes_eq path folder ≡ b
        → cond b (Some y) None ≡ option_map change (cond b (Some x) None)
    by true at = ap Some (made (same_name path folder at))
    by false at = refl

-- the same is told where the path and what stands there are the same
pub told_same : {X : Type 0} (path after folder : List ℕ) (x y : X) → after ≡ path → y ≡ x
    → told_at after y folder ≡ told_at path x folder
told_same path after folder x y same is =
    ap (λ (r : List ℕ). told_at r y folder) same ∙ ap (λ z. told_at path z folder) is
