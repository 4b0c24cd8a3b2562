-- Where two lists of bytes have the same.
use Rattle.std.specs.Prelude.{◌≡◌, ◌+◌, ◌<◌, ◌≤◌, ℕ, List, [], ◌∷◌, slice_index}

-- they have the same bytes from a place on, before another
abbrev pub AgreeIn : List ℕ → List ℕ → ℕ → ℕ → Type 0
AgreeIn xs ys from to = (i : ℕ) → from ≤ i → i < to → slice_index xs i ≡ slice_index ys i

-- eight of the bytes of a list, from a place on
abbrev pub eight_from : List ℕ → ℕ → List ℕ
eight_from xs i =
    slice_index xs i ∷ slice_index xs (i + 1) ∷ slice_index xs (i + 2) ∷ slice_index xs (i + 3)
    ∷ slice_index xs (i + 4) ∷ slice_index xs (i + 5) ∷ slice_index xs (i + 6) ∷ slice_index xs (i + 7) ∷ []
