-- What is noted of an object that stands: the entries that weren't met yet, path by path.
use Rattle.std.specs.Prelude.{ℕ, Bool, false, cond, List, [], ◌∷◌, ◌++◌, Option, None, Some}
use Rattle.std.specs.Option.{option_map, option_map_or, option_or}
use Rattle.pt_compare.specs.Entries.{Noted, kind_noted}
use Rattle.pt_compare.specs.Root.{same_kind}
use Rattle.pt_folder.specs.Calls.{Change, change_of}
use Rattle.pt_object.specs.Script.{Item, MakeFolder, MakeFile}
use Rattle.pt_tree.specs.Forest.{Forest}
use Rattle.pt_tree.specs.Listing as listing
use Rattle.pt_tree.specs.Path.{Path, same_path, split_path}
use Rattle.pt_tree.specs.Tree.{Tree, kind_of_entry, tree_of}
use Rattle.pt_tree.specs.declared.kind.Kind.{Kind}

-- the kind of the entry that is noted at each path, if one is
abbrev pub Marks : Type 0
Marks = Path → Option Kind

-- the kind that is noted at each path
abbrev pub marks_of : Noted → Marks
marks_of entries = λ q. kind_noted q entries

-- the same before a call, and after it
abbrev pub marks_over : Noted → Noted → Change Marks
marks_over old new = change_of (marks_of old) (marks_of new)

-- nothing is noted
abbrev pub no_marks : Marks
no_marks = λ q. None

-- with an entry of this kind noted at a path
abbrev pub with_mark : Path → Kind → Marks → Marks
with_mark p kind marks = λ q. cond (same_path q p) (Some kind) (marks q)

-- with nothing noted there
abbrev pub without_mark : Path → Marks → Marks
without_mark p marks = λ q. cond (same_path q p) None (marks q)

-- with the entries that a folder at this path lists, one after another
abbrev pub with_listed : Path → List listing.Item → Marks → Marks
with_listed p [] marks = marks
with_listed p (entry ∷ entries) marks =
    with_listed p entries (with_mark (p ++ entry.0 ∷ []) entry.1 marks)

-- what stands at a place of a root and below it, from the place on
abbrev pub inside : Forest → Path → Tree
inside root place = λ q. tree_of root (place ++ q)

-- the kind of what stands at a path, if anything does
abbrev pub kind_in : Tree → Path → Option Kind
kind_in t q = option_map kind_of_entry (t q)

-- it is an entry of this folder
abbrev pub is_entry_of : Path → Option (Path × List ℕ) → Bool
is_entry_of p None = false
is_entry_of p (Some at) = same_path at.0 p

-- with the entries of a folder as they stand
abbrev pub with_entries : Tree → Path → Marks → Marks
with_entries t p marks =
    λ q. option_or (cond (is_entry_of p (split_path q)) (kind_in t q) None) (marks q)

-- what is noted before the first item: the place alone
abbrev pub at_first : Tree → Marks
at_first t = λ q. cond (same_path q []) (kind_in t []) None

-- once an item was met it isn't noted any more, and of a folder its entries are
abbrev pub met : Tree → Item → Marks → Marks
met t (MakeFolder p) marks = with_entries t p (without_mark p marks)
met t (MakeFile p bytes) marks = without_mark p marks

-- so with all of these, one after another
abbrev pub all_met : Tree → List Item → Marks → Marks
all_met t [] marks = marks
all_met t (item ∷ items) marks = all_met t items (met t item marks)

-- something of this kind is noted
abbrev pub is_kind_of : Kind → Option Kind → Bool
is_kind_of kind here = option_map_or (same_kind kind) here false
