-- What a destination tells, and what its calls need and give.
use Rattle.std.specs.Prelude.{◌≡◌, ℕ, take, List, [], Option, None, Some, IsSome}
use Rattle.std.specs.Option.{option_map, ForSome}
use Rattle.pt_tree.specs.declared.kind.Kind.{Kind}
use Rattle.pt_tree.specs.Path.{Path, rest_below}
use Rattle.pt_tree.specs.Tree.{Tree, Bytes, Folder, bytes_of, kind_of_entry, put, added, moved, CanMake, CanMove}

-- the tree, and the path of the open file, if one is open
pub record Writing : Type 0 where
  pub tree : Tree
  pub writing : Option Path

-- where the destination tells, this is the kind of what is there, if anything
unfoldable pub IsKindAt : Option Writing → Path → Option Kind → Type 0
IsKindAt told p kind = ForSome told (λ s. option_map kind_of_entry (s.tree p) ≡ kind)

-- where the destination tells, a file is there
unfoldable pub CanPeek : Option Writing → Path → Type 0
CanPeek told p = ForSome told (λ s. IsSome (bytes_of (s.tree p)))

-- where the destination tells, these are the file's first bytes, as many as a block holds
unfoldable pub IsPeeked : Option Writing → Path → List ℕ → Type 0
IsPeeked told p block = ForSome told (λ s. option_map (take 8192) (bytes_of (s.tree p)) ≡ Some block)

-- where the destination tells, the path is absent in a folder
unfoldable pub MayMake : Option Writing → Path → Type 0
MayMake told p = ForSome told (λ s. CanMake s.tree p)

-- where the destination tells, a file is open
unfoldable pub CanWrite : Option Writing → Type 0
CanWrite told = ForSome told (λ s. IsSome s.writing)

-- where the destination tells, what is at `from` may go to `to`
unfoldable pub MayMove : Option Writing → Path → Path → Type 0
MayMove told from to = ForSome told (λ s. CanMove s.tree from to)

-- a folder is made; the open file stays open
abbrev pub after_mkdir : Path → Writing → Writing
after_mkdir p s = record { tree = put s.tree p Folder; writing = s.writing }

-- an empty file is made, and is the open one
abbrev pub after_create : Path → Writing → Writing
after_create p s = record { tree = put s.tree p (Bytes []); writing = Some p }

-- a piece is added to the file at a path, if there is one
abbrev pub added_to : Tree → Option Path → List ℕ → Tree
added_to t None piece = t
added_to t (Some p) piece = added t p piece

-- a piece is added to the open file
abbrev pub after_append : List ℕ → Writing → Writing
after_append piece s = record { tree = added_to s.tree s.writing piece; writing = s.writing }

-- the open file is closed
abbrev pub after_finish : Writing → Writing
after_finish s = record { tree = s.tree; writing = None }

-- the open file, unless it is at or below p
abbrev pub open_unless_below : Path → Option Path → Option Path
open_unless_below p None = None
open_unless_below p (Some q) = unless (rest_below p q)
  where
    unless : Option Path → Option Path
    unless None = Some q
    unless (Some rest) = None

-- all at and below `from` is at and below `to`, and a file that was open there is closed
abbrev pub after_rename : Path → Path → Writing → Writing
after_rename from to s = record { tree = moved s.tree from to; writing = open_unless_below from s.writing }

-- a part of the piece, from its start, is added to the open file
pub record LeavesPart (old new : Option Writing) (piece : List ℕ) : Type 0 where
  pub count : ℕ
  pub left : new ≡ option_map (after_append (take count piece)) old
