-- A tree without the entries of some names.
use Rattle.std.specs.Prelude.{◌≡◌, ℕ, Bool, ◌+◌, ◌-◌, min, cond, length, List, Option}
use Rattle.std.specs.List.{list_any}
use Rattle.std.specs.Option.{option_map}
use Rattle.pt_tree.specs.Forest.{Forest, none, file, other, dir}
use Rattle.pt_tree.specs.Failures.{greatest_count}
use Rattle.pt_tree.specs.Listing.{Item, is_among, left_in}
use Rattle.pt_tree.specs.Path.{Path}
use Rattle.pt_tree.specs.Source.{IsListed, Reading}

-- in every directory without the entries of these names, whatever they are and hold
abbrev pub without : List (List ℕ) → Forest → Forest
without names none = none
without names (file name bytes after) =
    cond (is_among names name) (without names after) (file name bytes (without names after))
without names (other name after) =
    cond (is_among names name) (without names after) (other name (without names after))
without names (dir name inside after) =
    cond (is_among names name) (without names after)
    (dir name (without names inside) (without names after))

-- what is read of such a tree
abbrev pub reading_without : List (List ℕ) → Reading → Reading
reading_without names s = record { tree = without names s.tree; unread = s.unread }

-- what a source tells without the entries of these names, if it tells
abbrev pub told_without : List (List ℕ) → Option Reading → Option Reading
told_without names told = option_map (reading_without names) told

-- one of the names on a path is among these, so that nothing stands there
abbrev pub is_past : List (List ℕ) → Path → Bool
is_past names p = list_any (is_among names) p

-- of all entries of a directory those with these names were left out, and the count of what was left out rose by as many
pub record LeavesOut (told : Option Reading) (p : Path) (names : List (List ℕ)) (before after : ℕ)
    (listing : List Item) : Type 0 where
  pub all : List Item
  pub listed : IsListed told p all
  pub left : listing ≡ left_in names all
  pub counted : after ≡ min (before + (length all - length listing)) greatest_count
