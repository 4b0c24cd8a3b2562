-- The kind of one entry of a listing.
use Rattle.std.specs.Prelude.{ℕ, cond, List, Option, None, Some}
use Rattle.std.specs.Str.{bytes_eq}
use Rattle.pt_tree.specs.Listing.{Item as Entry}
use Rattle.pt_tree.specs.declared.kind.Kind.{Kind}

-- the kind of this entry, if it has the name
abbrev pub kind_if_named : Option Entry → List ℕ → Option Kind
kind_if_named None name = None
kind_if_named (Some entry) name = cond (bytes_eq entry.0 name) (Some entry.1) None
