-- The texts that a set has.
use Rattle.std.specs.Prelude.{◌||◌, ◌+◌, ◌-◌, ◌^◌, ℕ, Bool, List, length, min}
use Rattle.std.specs.Str.{bytes_eq}
use Rattle.pt_rehearsal.specs.Buckets.{is_held}
use Rattle.pt_rehearsal.specs.declared.text_set.TextSet.{TextSet}

-- the set has this text
abbrev pub has : TextSet → List ℕ → Bool
has set = is_held set.base set.buckets.items

-- one text more
abbrev pub with_text : List ℕ → (List ℕ → Bool) → List ℕ → Bool
with_text text has = λ t. bytes_eq t text || has t

-- how many bytes all texts have with one more, up to the greatest number
abbrev pub size_with : List ℕ → ℕ → ℕ
size_with text size = min (size + length text) (2 ^ 64 - 1)
