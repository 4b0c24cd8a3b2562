-- How many folders on the way to a content are met already.
use Rattle.std.proofs.Common.{◌≡◌, ◌∙◌, ◌-◌, ◌<◌, ◌≤◌, ℕ, zero, suc, [], ◌∷◌, Bool, true, false, cond, refl, sym, ap, arith, take, length, ltb-true, ltb-false}
use Rattle.std.specs.Prelude.{Option, None, Some, is_some, nat_lt}
use Rattle.std.specs.Str.{bytes_eq}
use Rattle.std.proofs.lemmas.Bool.{le-ltb, lt-ltb}
use Rattle.pt_object.specs.Object.{in_content}
use Rattle.pt_compare.specs.Parts.{leads_to_last}
use Rattle.pt_compare.specs.Ways.{AreMet}
use Rattle.pt_plan.specs.TurnMake.{common_names}
use Rattle.pt_tree.specs.Path.{Path, rest_below}

lt_suc : (a b : ℕ) → nat_lt (suc a) (suc b) ≡ nat_lt a b
lt_suc a b = by (nat_lt a b) refl
  where
    by : (is : Bool) → nat_lt a b ≡ is → nat_lt (suc a) (suc b) ≡ is
    by true is = let less = ltb-true a b is in lt-ltb (suc a) (suc b) (omega (arith, less))
    by false is = let most = ltb-false a b is in le-ltb (suc a) (suc b) (omega (arith, most))

-- as many names as are alike, and no more, are the other's first ones
alike : (m : ℕ) (path other : Path) → suc m ≤ length path → is_some (rest_below (take (suc m) path) other) ≡ nat_lt m (common_names path other)
alike m [] other less = absurd (omega (arith, less))
alike m (name ∷ path) [] less = sym (le-ltb m 0 (omega arith))
alike m (name ∷ path) (first ∷ other) less = by m (bytes_eq name first) less (λ j more. alike j path other more)
  where
    by : (m : ℕ) (b : Bool) → suc m ≤ length (name ∷ path) → ((j : ℕ) → suc j ≤ length path
        → is_some (rest_below (take (suc j) path) other) ≡ nat_lt j (common_names path other))
        → is_some (cond b (rest_below (take m path) other) None) ≡ nat_lt m (cond b (suc (common_names path other)) 0)
    by m false less later = sym (le-ltb m 0 (omega arith))
    by zero true less later = sym (lt-ltb 0 (suc (common_names path other)) (omega arith))
    by (suc j) true less later = later j (omega (arith, less)) ∙ sym (lt_suc j (common_names path other))

one_less : (k c : ℕ) → nat_lt (suc k) c ≡ nat_lt k (c - 1)
one_less k zero = le-ltb (suc k) 0 (omega arith) ∙ sym (le-ltb k 0 (omega arith))
one_less k (suc c) = lt_suc k c ∙ ap (nat_lt k) (let same : c ≡ suc c - 1 = omega arith in same)

pub are_met : (last stored : Path) (count met : ℕ) → count ≡ common_names stored last → met ≡ count - 1 → AreMet (Some last) stored met
are_met last stored count met is less k there = alike (suc k) stored last there ∙ one_less k (common_names stored last)
    ∙ sym (ap (nat_lt k) (less ∙ ap (λ (n : ℕ). n - 1) is))

-- the folder with so many names of the path
pub on_way : (last : Option Path) (whole names p : Path) (met k : ℕ) → whole ≡ in_content names → names ≡ p → AreMet last whole met → k < length p
    → leads_to_last last (in_content (take k p)) ≡ nat_lt k met
on_way last whole names p met k is all are less = (rw (is ∙ ap in_content all) at are) k (omega (arith, less))
