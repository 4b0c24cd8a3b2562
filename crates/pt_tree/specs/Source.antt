-- What a source tells, and what its calls need and give.
use Rattle.std.specs.Prelude.{◌≡◌, ℕ, take, drop, List, Option, Some, IsSome}
use Rattle.std.specs.Option.{option_map, ForSome}
use Rattle.pt_tree.specs.Forest.{Forest, dir_at, file_at, kind_at, listing_at}
use Rattle.pt_tree.specs.Listing.{Item}
use Rattle.pt_tree.specs.Path.{Path, parent}
use Rattle.pt_tree.specs.declared.kind.Kind.{Kind}

-- the tree, and the bytes of the open file that are left to read, if one is open
pub record Reading : Type 0 where
  pub tree : Forest
  pub unread : Option (List ℕ)

-- the tree that is told
abbrev pub tree_in : Option Reading → Option Forest
tree_in told = option_map (λ s. s.tree) told

-- where the source tells, a directory is there
unfoldable pub CanList : Option Reading → Path → Type 0
CanList told p = ForSome told (λ s. IsSome (dir_at s.tree p))

-- where the source tells, these are the directory's names and kinds
unfoldable pub IsListed : Option Reading → Path → List Item → Type 0
IsListed told p items = ForSome told (λ s. listing_at s.tree p ≡ Some items)

-- where a tree is told, a directory is above the path
unfoldable pub CanLook : Option Forest → Path → Type 0
CanLook tree p = ForSome tree (λ f. IsSome (dir_at f (parent p)))

-- where a tree is told, what stands at a path is of this kind, or nothing stands there
abbrev pub IsSeen : Option Forest → Path → Option Kind → Type 0
IsSeen tree p here = ForSome tree (λ f. kind_at f p ≡ here)

-- where the source tells, a file is there
unfoldable pub CanOpen : Option Reading → Path → Type 0
CanOpen told p = ForSome told (λ s. IsSome (file_at s.tree p))

-- where the source tells, a file is open
unfoldable pub CanRead : Option Reading → Type 0
CanRead told = ForSome told (λ s. IsSome s.unread)

-- where the source tells, these are the next bytes of the open file, as many as a block holds
unfoldable pub IsRead : Option Reading → List ℕ → Type 0
IsRead told block = ForSome told (λ s. option_map (take 8192) s.unread ≡ Some block)

-- the file at a path is the open one, from its start
abbrev pub after_open : Path → Reading → Reading
after_open p s = record { tree = s.tree; unread = file_at s.tree p }

-- a block of the open file is read
abbrev pub after_next : Reading → Reading
after_next s = record { tree = s.tree; unread = option_map (drop 8192) s.unread }
