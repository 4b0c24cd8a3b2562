-- What is spelled of the bytes of a list, byte by byte.
use Rattle.std.proofs.Common.{◌≡◌, ℕ, ◌+◌, ◌<◌, ◌≤◌, List, [], ◌∷◌, ◌++◌, get_or, length, take, sym, ap, ◌∙◌, append-nil}
use Rattle.std.specs.List.{flat_map}
use Rattle.std.proofs.lemmas.Grind.{flat_map-append}
use Rattle.std.proofs.lemmas.List.{take_all, take_more}

pub one_more : (f : ℕ → List ℕ) (xs : List ℕ) (i : ℕ) (s t : List ℕ) → i < length xs → s ≡ flat_map f (take i xs) → t ≡ s ++ f (get_or xs i 0)
    → t ≡ flat_map f (take (i + 1) xs)
one_more f xs i s t within so_far more =
    let next = ap (flat_map f) (take_more xs i 0 within) ∙ flat_map-append f (take i xs) (get_or xs i 0 ∷ [])
    ∙ ap (λ (l : List ℕ). flat_map f (take i xs) ++ l) (append-nil (f (get_or xs i 0))) in
    more ∙ ap (λ (l : List ℕ). l ++ f (get_or xs i 0)) so_far ∙ sym next

pub all_bytes : (f : ℕ → List ℕ) (xs : List ℕ) (i : ℕ) (t : List ℕ) → length xs ≤ i → t ≡ flat_map f (take i xs) → t ≡ flat_map f xs
all_bytes f xs i t past so_far = so_far ∙ ap (flat_map f) (take_all i xs past)
