-- Lists of contents: digests, each with the path of the first file that has it.
use Rattle.std.specs.Prelude.{◌≡◌, ℕ, ◌<◌, Bool, cond, List, [], ◌∷◌, ◌++◌, length, map, slice_index_or, Option}
use Rattle.std.specs.List.{find, list_any}
use Rattle.std.specs.Option.{option_map}
use Rattle.std.specs.Str.{bytes_eq}
use Rattle.pt_tree.specs.Path.{Path}
use Rattle.pt_object.specs.declared.table.contents.Content.{Content}

-- the content has this digest
abbrev pub has_digest : List ℕ → Content → Bool
has_digest digest content = bytes_eq content.digest digest

-- an item has this digest
abbrev pub is_noted : List Content → List ℕ → Bool
is_noted items digest = list_any (has_digest digest) items

-- the path of the item with this digest
abbrev pub first_path : List Content → List ℕ → Option Path
first_path items digest = option_map (λ c. c.path) (find (has_digest digest) items)

-- the content of this digest, first at this path
abbrev pub content_of : List ℕ → Path → Content
content_of digest path = record { digest = digest; path = path }

-- the list after a file with this digest and path was noted
abbrev pub noted : List Content → List ℕ → Path → List Content
noted items digest path = cond (is_noted items digest) items (items ++ content_of digest path ∷ [])

-- the digest of the item at a position
abbrev pub digest_at : List Content → ℕ → List ℕ
digest_at items position = slice_index_or (map (λ c. c.digest) items) position []

-- no two items have one digest
abbrev pub DigestsDiffer : List Content → Type 0
DigestsDiffer items = (p q : ℕ) → p < length items → q < length items
    → digest_at items p ≡ digest_at items q → p ≡ q
