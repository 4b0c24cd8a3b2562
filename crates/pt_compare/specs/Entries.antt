-- The entries of an object that stands which weren't met yet, by the texts of their paths.
use Rattle.std.specs.Prelude.{ℕ, Bool, cond, List, [], ◌∷◌, map, Option, None, Some}
use Rattle.std.specs.BTreeMap.{insert_entry}
use Rattle.std.specs.Cmp.Lexicographic.{slice_cmp}
use Rattle.std.specs.Global.{Vec}
use Rattle.std.specs.Map.{lookup, remove_entry}
use Rattle.std.specs.Ordering.{is_eq, nat_cmp}
use Rattle.pt_tree.specs.Path.{Path, joined, same_path}
use Rattle.pt_tree.specs.Pieces.{names_in}
use Rattle.pt_tree.specs.declared.kind.Kind.{Kind}

-- each with its path and kind, in the order of the texts
abbrev pub Noted : Type 0
Noted = List (Vec ℕ × (Path × Kind))

-- those whose texts and kinds are held, with the paths of the texts
abbrev pub noted_of : List (Vec ℕ × Kind) → Noted
noted_of = map (λ e. (e.0, (names_in e.0.items, e.1)))

-- this is the path's text
abbrev pub is_text_of : Path → Vec ℕ → Bool
is_text_of p text = is_eq (slice_cmp nat_cmp (joined p) text.items)

-- the kind of what was found by a path's text, if it has that path
abbrev pub kind_if : Path → Option (Path × Kind) → Option Kind
kind_if p None = None
kind_if p (Some e) = cond (same_path e.0 p) (Some e.1) None

-- the kind of the entry that is noted at a path, if one is
abbrev pub kind_noted : Path → Noted → Option Kind
kind_noted p entries = kind_if p (lookup (is_text_of p) entries)

-- those but the one of a path
abbrev pub without : Path → Noted → Noted
without p = remove_entry (is_text_of p)

-- those with one more, of this text
abbrev pub with_entry : Vec ℕ → Path × Kind → Noted → Noted
with_entry text e entries = insert_entry (λ a b. slice_cmp nat_cmp a.items b.items) entries text e
