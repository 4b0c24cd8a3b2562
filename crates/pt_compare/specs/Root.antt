-- What a root that stands tells.
use Rattle.std.specs.Prelude.{◌≡◌, Bool, true, false, List, Option, None, Some, is_some}
use Rattle.std.specs.Option.{option_map_or, ForSome}
use Rattle.pt_tree.specs.Forest.{Forest, is_proper, kind_at, listing_at}
use Rattle.pt_tree.specs.Listing.{Item}
use Rattle.pt_tree.specs.Path.{Path}
use Rattle.pt_tree.specs.Source.{Reading, tree_in}
use Rattle.pt_tree.specs.declared.kind.Kind.{Kind}
use Rattle.pt_tree.specs.declared.kind.Kind.TheVariants as kind

-- it is the same root, whose tree is as it was
abbrev pub KeepsRoot : {R : Type 0} → (R → Option Reading) → (R → R → Type 0) → R → R → Type 0
KeepsRoot told keeps old new = keeps old new × (tree_in (told new) ≡ tree_in (told old))

-- one kind
abbrev pub same_kind : Kind → Kind → Bool
same_kind kind.File kind.File = true
same_kind kind.Dir kind.Dir = true
same_kind kind.Other kind.Other = true
same_kind _ _ = false

-- where a tree is told, something of this kind stands there
abbrev pub is_standing : Option Forest → Path × Kind → Bool
is_standing None e = true
is_standing (Some f) e = option_map_or (same_kind e.1) (kind_at f e.0) false

-- this stands there, where the root tells
abbrev pub Stands : Option Forest → Path × Kind → Type 0
Stands tree e = is_standing tree e ≡ true

-- where a tree is told, nothing of this kind stands there
abbrev pub Lacks : Option Forest → Path × Kind → Type 0
Lacks tree e = ForSome tree (λ f. is_standing (Some f) e ≡ false)

-- where a tree is told, this is what its directory at a path lists, whose names rise
unfoldable pub Lists : Option Forest → Path → List Item → Type 0
Lists tree p listing = ForSome tree (λ f. (is_proper f ≡ true) × (listing_at f p ≡ Some listing))

-- where it is told, a file is open
abbrev pub is_reading : Option Reading → Bool
is_reading None = true
is_reading (Some s) = is_some s.unread

-- a file is open for reading, where the root tells
abbrev pub Reads : Option Reading → Type 0
Reads told = is_reading told ≡ true
