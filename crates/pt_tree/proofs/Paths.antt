-- Paths and their last names.
use Rattle.std.proofs.Common.{◌≡◌, ℕ, List, [], ◌∷◌, ◌++◌, refl, ap}
use Rattle.std.specs.Prelude.{Some}
use Rattle.pt_tree.specs.Path.{Path, parent, last_name, split_path}

pub parent-push : (d : Path) (n : List ℕ) → parent (d ++ n ∷ []) ≡ d
parent-push [] n = refl
parent-push (x ∷ []) n = refl
parent-push (x ∷ y ∷ d) n = ap (λ (p : Path). x ∷ p) (parent-push (y ∷ d) n)

last_name-push : (d : Path) (x n : List ℕ) → last_name (x ∷ d ++ n ∷ []) ≡ n
last_name-push [] x n = refl
last_name-push (y ∷ d) x n = last_name-push d y n

pub split_path-push : (d : Path) (n : List ℕ) → split_path (d ++ n ∷ []) ≡ Some (d, n)
split_path-push [] n = refl
split_path-push (x ∷ d) n = λ i. Some (parent-push (x ∷ d) n i, last_name-push d x n i)

-- the parts of a split path
pub split_parts : (path d : Path) (n : List ℕ) → Some (d, n) ≡ split_path path → (d ≡ parent path) × (n ≡ last_name path)
split_parts [] d n is = absurd (cc)
split_parts (x ∷ path) d n is =
    let same : (d, n) ≡ (parent (x ∷ path), last_name (x ∷ path)) = cc in
    (ap (λ (p : Path × List ℕ). p.0) same, ap (λ (p : Path × List ℕ). p.1) same)
