-- The tree of a source: what stands below a directory, as its first entry and those after it.
use Rattle.std.specs.Prelude.{ℕ, Bool, true, false, ◌&&◌, cond, List, [], ◌∷◌, Option, None, Some}
use Rattle.std.specs.Option.{option_map, option_and_then}
use Rattle.std.specs.Str.{bytes_eq}
use Rattle.pt_tree.specs.declared.kind.Kind.{Kind}
use Rattle.pt_tree.specs.declared.kind.Kind.TheVariants as kind
use Rattle.pt_tree.specs.Listing.{Item, is_before}
use Rattle.pt_tree.specs.Name.{is_name}
use Rattle.pt_tree.specs.Path.{Path}

-- the entries of a directory in the order of their names
pub data Forest : Type 0 where
  none : Forest
  file : (name : List ℕ) → (bytes : List ℕ) → (after : Forest) → Forest
  other : (name : List ℕ) → (after : Forest) → Forest
  dir : (name : List ℕ) → (inside : Forest) → (after : Forest) → Forest

-- what stands at a name
pub data Node : Type 0 where
  File : (bytes : List ℕ) → Node
  Dir : (inside : Forest) → Node
  Other : Node

-- the kind of what stands
abbrev pub kind_of : Node → Kind
kind_of (File bytes) = kind.File
kind_of (Dir inside) = kind.Dir
kind_of Other = kind.Other

-- the names and kinds
abbrev pub listing_of : Forest → List Item
listing_of none = []
listing_of (file name bytes after) = (name, kind.File) ∷ listing_of after
listing_of (other name after) = (name, kind.Other) ∷ listing_of after
listing_of (dir name inside after) = (name, kind.Dir) ∷ listing_of after

-- what stands at a name of this directory
abbrev pub find : Forest → List ℕ → Option Node
find none n = None
find (file name bytes after) n = cond (bytes_eq name n) (Some (File bytes)) (find after n)
find (other name after) n = cond (bytes_eq name n) (Some Other) (find after n)
find (dir name inside after) n = cond (bytes_eq name n) (Some (Dir inside)) (find after n)

-- what stands at a path from a node
abbrev pub node_at : Node → Path → Option Node
node_at node [] = Some node
node_at (File bytes) (n ∷ path) = None
node_at Other (n ∷ path) = None
node_at (Dir inside) (n ∷ path) = option_and_then (λ node. node_at node path) (find inside n)

-- what stands below it, if it is a directory
abbrev pub as_dir : Node → Option Forest
as_dir (File bytes) = None
as_dir (Dir inside) = Some inside
as_dir Other = None

-- its bytes, if it is a file
abbrev pub as_file : Node → Option (List ℕ)
as_file (File bytes) = Some bytes
as_file (Dir inside) = None
as_file Other = None

-- the directory at a path, if one is there
abbrev pub dir_at : Forest → Path → Option Forest
dir_at forest path = option_and_then as_dir (node_at (Dir forest) path)

-- the bytes of the file at a path, if one is there
abbrev pub file_at : Forest → Path → Option (List ℕ)
file_at forest path = option_and_then as_file (node_at (Dir forest) path)

-- the kind of what stands at a path, if anything does
abbrev pub kind_at : Forest → Path → Option Kind
kind_at forest path = option_map kind_of (node_at (Dir forest) path)

-- what the directory at a path lists
abbrev pub listing_at : Forest → Path → Option (List Item)
listing_at forest path = option_map listing_of (dir_at forest path)

-- a name comes before the first of these
abbrev pub comes_before : List ℕ → Forest → Bool
comes_before n none = true
comes_before n (file name bytes after) = is_before n name
comes_before n (other name after) = is_before n name
comes_before n (dir name inside after) = is_before n name

-- in each directory the names rise and are names that an entry may have
abbrev pub is_proper : Forest → Bool
is_proper none = true
is_proper (file name bytes after) = is_name name && (comes_before name after && is_proper after)
is_proper (other name after) = is_name name && (comes_before name after && is_proper after)
is_proper (dir name inside after) =
    is_name name && (comes_before name after && (is_proper inside && is_proper after))

-- p and q hold the same
abbrev pub same_forest : Forest → Forest → Bool
same_forest none none = true
same_forest (file m a f) (file n b g) = bytes_eq m n && (bytes_eq a b && same_forest f g)
same_forest (other m f) (other n g) = bytes_eq m n && same_forest f g
same_forest (dir m d f) (dir n e g) = bytes_eq m n && (same_forest d e && same_forest f g)
same_forest _ _ = false

-- the first entry's name and what stands there
abbrev pub first_name : Forest → List ℕ
first_name none = []
first_name (file name bytes after) = name
first_name (other name after) = name
first_name (dir name inside after) = name

-- what stands as the first entry, if there is one
abbrev pub first_node : Forest → Option Node
first_node none = None
first_node (file name bytes after) = Some (File bytes)
first_node (other name after) = Some Other
first_node (dir name inside after) = Some (Dir inside)

-- the first entry of leaf, put before others
abbrev pub in_front : Forest → Forest → Forest
in_front none others = others
in_front (file name bytes _) others = file name bytes others
in_front (other name _) others = other name others
in_front (dir name inside _) others = dir name inside others

-- the first entry of leaf, put in its place among the others
abbrev pub inserted : Forest → Forest → Forest
inserted leaf none = in_front leaf none
inserted leaf (file name bytes after) =
    cond (is_before name (first_name leaf)) (file name bytes (inserted leaf after))
    (in_front leaf (file name bytes after))
inserted leaf (other name after) =
    cond (is_before name (first_name leaf)) (other name (inserted leaf after))
    (in_front leaf (other name after))
inserted leaf (dir name inside after) =
    cond (is_before name (first_name leaf)) (dir name inside (inserted leaf after))
    (in_front leaf (dir name inside after))

-- without the entry of a name
abbrev pub removed : List ℕ → Forest → Forest
removed n none = none
removed n (file name bytes after) = cond (bytes_eq name n) after (file name bytes (removed n after))
removed n (other name after) = cond (bytes_eq name n) after (other name (removed n after))
removed n (dir name inside after) = cond (bytes_eq name n) after (dir name inside (removed n after))

-- the entry of a name alone
abbrev pub picked : List ℕ → Forest → Forest
picked n none = none
picked n (file name bytes after) = cond (bytes_eq name n) (file name bytes none) (picked n after)
picked n (other name after) = cond (bytes_eq name n) (other name none) (picked n after)
picked n (dir name inside after) = cond (bytes_eq name n) (dir name inside none) (picked n after)

-- the entry of this name in the directory at a path, alone
abbrev pub picked_at : Forest → Path → List ℕ → Forest
picked_at f [] n = picked n f
picked_at none (d ∷ path) n = none
picked_at (file name bytes after) (d ∷ path) n = picked_at after (d ∷ path) n
picked_at (other name after) (d ∷ path) n = picked_at after (d ∷ path) n
picked_at (dir name inside after) (d ∷ path) n =
    cond (bytes_eq name d) (picked_at inside path n) (picked_at after (d ∷ path) n)

-- the first entry alone, and the others
abbrev pub first_alone : Forest → Forest
first_alone f = in_front f none

-- the entries behind the first one
abbrev pub without_first : Forest → Forest
without_first none = none
without_first (file name bytes after) = after
without_first (other name after) = after
without_first (dir name inside after) = after

-- with other bytes in the file of a name
abbrev pub rewritten : (List ℕ → List ℕ) → List ℕ → Forest → Forest
rewritten g n none = none
rewritten g n (file name bytes after) =
    cond (bytes_eq name n) (file name (g bytes) after) (file name bytes (rewritten g n after))
rewritten g n (other name after) =
    cond (bytes_eq name n) (other name after) (other name (rewritten g n after))
rewritten g n (dir name inside after) =
    cond (bytes_eq name n) (dir name inside after) (dir name inside (rewritten g n after))

-- with g of what it was in the directory at a path
abbrev pub changed : (Forest → Forest) → Forest → Path → Forest
changed g f [] = g f
changed g none (n ∷ path) = none
changed g (file name bytes after) (n ∷ path) = file name bytes (changed g after (n ∷ path))
changed g (other name after) (n ∷ path) = other name (changed g after (n ∷ path))
changed g (dir name inside after) (n ∷ path) =
    cond (bytes_eq name n) (dir name (changed g inside path) after)
    (dir name inside (changed g after (n ∷ path)))

-- the first entry under another name
abbrev pub named : List ℕ → Forest → Forest
named n none = none
named n (file name bytes after) = file n bytes after
named n (other name after) = other n after
named n (dir name inside after) = dir n inside after
