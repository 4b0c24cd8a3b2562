-- The tree that a memory tree's entries make, and its open file.
use Rattle.std.specs.Prelude.{ℕ, Bool, true, false, List, [], ◌∷◌, ◌++◌, Option, None, Some}
use Rattle.std.specs.Option.{option_map, option_or}
use Rattle.pt_memory.specs.declared.entries.Entries.{Entries, End, File', Other', Dir'}
use Rattle.pt_memory.specs.declared.entries.Found.{Found}
use Rattle.pt_memory.specs.declared.entries.Found.TheVariants as found
use Rattle.pt_memory.specs.declared.entries.File.{File}
use Rattle.pt_memory.specs.declared.changes.Edit.{Edit}
use Rattle.pt_memory.specs.declared.changes.Edit.TheVariants.{Append, Replace}
use Rattle.pt_tree.specs.Forest.{Forest, none, file, other, dir, Node}
use Rattle.pt_tree.specs.Forest as node
use denote.Ref.{Bor}
use Rattle.pt_tree.specs.declared.kind.Kind.{Kind}
use Rattle.pt_tree.specs.declared.kind.Kind.TheVariants as kind
use Rattle.pt_tree.specs.Path.{Path}

-- the tree that these entries make
abbrev pub forest_of : Entries → Forest
forest_of End = none
forest_of (File' name held p after) = file name held.bytes.items (forest_of after)
forest_of (Other' name p after) = other name (forest_of after)
forest_of (Dir' name p inside q after) = dir name (forest_of inside) (forest_of after)

-- the first file that has a place, with its path and the place
abbrev pub open_of : Entries → Option (Path × ℕ)
open_of End = None
open_of (File' name held p after) =
    option_or (option_map (λ place. (name ∷ [], place)) held.place) (open_of after)
open_of (Other' name p after) = open_of after
open_of (Dir' name p inside q after) =
    option_or (option_map (λ o. (name ∷ o.0, o.1)) (open_of inside)) (open_of after)

-- what was found, as the tree has it
abbrev pub node_of : Found → Node
node_of (found.File bytes) = node.File bytes.now
node_of (found.Dir entries) = node.Dir (forest_of entries.now)
node_of found.Other = node.Other

-- the first entry, and the others
abbrev pub first_item : Forest → Option (List ℕ × Kind × Forest)
first_item none = None
first_item (file name bytes after) = Some (name, kind.File, after)
first_item (other name after) = Some (name, kind.Other, after)
first_item (dir name inside after) = Some (name, kind.Dir, after)

-- the first entry with the tree behind it, which were lent
abbrev pub head_of : Bor (List ℕ) × Kind × Bor Entries → List ℕ × Kind × Forest
head_of x = (x.0.now, x.1, forest_of x.2.now)

-- a file's bytes and place, if it has one
abbrev pub marked_file : File → Option (List ℕ × ℕ)
marked_file held = option_map (λ place. (held.bytes.items, place)) held.place

-- the first file that has a place, with its bytes and the place
abbrev pub marked_of : Entries → Option (List ℕ × ℕ)
marked_of End = None
marked_of (File' name held p after) = option_or (marked_file held) (marked_of after)
marked_of (Other' name p after) = marked_of after
marked_of (Dir' name p inside q after) = option_or (marked_of inside) (marked_of after)

-- what an edit makes of a file's bytes
abbrev pub edited : Edit → List ℕ → List ℕ
edited (Append piece) bytes = bytes ++ piece.now
edited (Replace new) bytes = new.items

-- an edit that puts other bytes in place of those of a file
abbrev pub is_replace : Edit → Bool
is_replace (Append piece) = false
is_replace (Replace new) = true
