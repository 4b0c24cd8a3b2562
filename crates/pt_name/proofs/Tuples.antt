-- The tuples of a place, one by one.
use Rattle.std.proofs.Common.{◌≡◌, ℕ, suc, ◌+◌, ◌-◌, ◌*◌, ◌<◌, ◌≤◌, List, [], ◌∷◌, ◌++◌, take, drop, sym, ap, ◌∙◌, arith, append_assoc}
use Rattle.pt_tree.specs.Path.{Path}
use Rattle.pt_name.specs.Place.{tuples_from}

-- the next tuple, and the others
tuples_more : (size count i : ℕ) (digits : List ℕ) → i < count
    → tuples_from size (count - i) digits ≡ take size digits ∷ tuples_from size (count - (i + 1)) (drop size digits)
tuples_more size count i digits h =
    let e : count - i ≡ suc (count - (i + 1)) = omega arith in
    ap (λ n. tuples_from size n digits) e

-- one more tuple added
pub tuple_added : (path : Path) (size count i : ℕ) (digits : List ℕ) → i < count
    → (path ++ take size digits ∷ []) ++ tuples_from size (count - (i + 1)) (drop size digits) ≡ path ++ tuples_from size (count - i) digits
tuple_added path size count i digits h =
    append_assoc path (take size digits ∷ []) (tuples_from size (count - (i + 1)) (drop size digits))
    ∙ ap (λ names. path ++ names) (sym (tuples_more size count i digits h))

-- digits enough for the others
pub digits_left : (size count i left rest : ℕ) → i < count → size * (count - i) ≤ rest → left + size ≡ rest
    → size * (count - (i + 1)) ≤ left
digits_left size count i left rest h enough e =
    let n : count - i ≡ (count - (i + 1)) + 1 = omega arith in
    let k : size * (count - i) ≡ size * (count - (i + 1)) + size = ap (λ m. size * m) n ∙ omega arith in
    omega arith
