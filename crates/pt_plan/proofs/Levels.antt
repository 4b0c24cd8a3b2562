-- Paths of one length, and longer ones.
use Rattle.std.proofs.Common.{◌≡◌, ℕ, ◌<◌, List, [], ◌∷◌, Bool, true, false, length, refl, sym, ◌∙◌, ap, arith}
use Rattle.std.specs.Prelude.{cond, ◌&&◌, None, is_some}
use Rattle.std.specs.Str.{bytes_eq}
use Rattle.std.proofs.lemmas.Bool.{false≢true, true≢false}
use Rattle.pt_object.proofs.Ways.{is_same, leads, path_itself, same_name}
use Rattle.pt_tree.specs.Path.{Path, rest_below, same_path}

-- of two paths of one length one leads to the other only if they are one
pub level : (p q : Path) → length p ≡ length q → leads p q ≡ same_path p q
level [] [] _ = refl
level [] (y ∷ q) h = absurd (omega arith)
level (x ∷ p) [] h = absurd (omega arith)
level (x ∷ p) (y ∷ q) h = by (bytes_eq x y) (level p q (omega arith))
  where
    by : (t : Bool) → leads p q ≡ same_path p q → is_some (cond t (rest_below p q) None) ≡ (t && same_path p q)
    by true later = later
    by false later = refl

-- a longer path leads to no shorter one
pub longer : (p q : Path) → length q < length p → leads p q ≡ false
longer [] q h = absurd (omega arith)
longer (_ ∷ _) [] _ = refl
longer (x ∷ p) (y ∷ q) h = by (bytes_eq x y) (longer p q (omega arith))
  where
    by : (t : Bool) → leads p q ≡ false → is_some (cond t (rest_below p q) None) ≡ false
    by true later = later
    by false later = refl

-- what leads to a path leads to what that leads to
pub leads_through : (p q r : Path) → leads p q ≡ true → leads q r ≡ true → leads p r ≡ true
leads_through [] _ _ _ _ = refl
leads_through (_ ∷ _) [] _ h _ = absurd (false≢true h)
leads_through (_ ∷ _) (_ ∷ _) [] _ k = absurd (false≢true k)
leads_through (x ∷ p) (y ∷ q) (z ∷ r) h k = by (bytes_eq x y) (bytes_eq y z) refl refl (λ a b. leads_through p q r a b) h k
  where
    by : (s t : Bool) → bytes_eq x y ≡ s → bytes_eq y z ≡ t → (leads p q ≡ true → leads q r ≡ true → leads p r ≡ true)
        → is_some (cond s (rest_below p q) None) ≡ true → is_some (cond t (rest_below q r) None) ≡ true
        → is_some (cond (bytes_eq x z) (rest_below p r) None) ≡ true
    by false t xy yz later h k = absurd (false≢true h)
    by true false xy yz later h k = absurd (false≢true k)
    by true true xy yz later h k = ap (λ c. is_some (cond c (rest_below p r) None)) (ap (λ (l : List ℕ). bytes_eq l z) (same_name x y xy) ∙ yz) ∙ later h k

-- two paths of one length that lead to one path are one
pub one_way : (p q r : Path) → length p ≡ length q → leads p r ≡ true → leads q r ≡ true → p ≡ q
one_way [] [] _ _ _ _ = refl
one_way [] (y ∷ q) r n h k = absurd (omega arith)
one_way (x ∷ p) [] r n h k = absurd (omega arith)
one_way (_ ∷ _) (_ ∷ _) [] _ h _ = absurd (false≢true h)
one_way (x ∷ p) (y ∷ q) (z ∷ r) n h k = by (bytes_eq x z) (bytes_eq y z) refl refl (λ a b. one_way p q r (omega arith) a b) h k
  where
    by : (s t : Bool) → bytes_eq x z ≡ s → bytes_eq y z ≡ t → (leads p r ≡ true → leads q r ≡ true → p ≡ q)
        → is_some (cond s (rest_below p r) None) ≡ true → is_some (cond t (rest_below q r) None) ≡ true → x ∷ p ≡ y ∷ q
    by false t xz yz later h k = absurd (false≢true h)
    by true false xz yz later h k = absurd (false≢true k)
    by true true xz yz later h k = λ i. (same_name x z xz ∙ sym (same_name y z yz)) i ∷ later h k i

-- whether two paths are one is asked alike from both
pub same_path-sym : (p q : Path) → same_path p q ≡ same_path q p
same_path-sym p q = by (same_path p q) (same_path q p) refl refl
  where
    turned : (p q : Path) → same_path p q ≡ true → same_path q p ≡ true
    turned p q h = ap (λ (r : Path). same_path r p) (sym (is_same p q h)) ∙ path_itself p

    by : (s t : Bool) → same_path p q ≡ s → same_path q p ≡ t → s ≡ t
    by true true a b = refl
    by true false a b = absurd (true≢false (sym (turned p q a) ∙ b))
    by false true a b = absurd (true≢false (sym (turned q p b) ∙ a))
    by false false a b = refl
