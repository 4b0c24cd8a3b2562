-- Paths that files may have, and their order.
use Rattle.std.specs.Prelude.{◌&&◌, Bool, true, false, cond, List, [], ◌∷◌}
use Rattle.std.specs.List.{list_all}
use Rattle.std.specs.Str.{bytes_eq}
use Rattle.pt_tree.specs.Listing.{is_before}
use Rattle.pt_tree.specs.Name.{is_name}
use Rattle.pt_tree.specs.Path.{Path}

-- one or more names that an entry may have
abbrev pub is_logical : Path → Bool
is_logical [] = false
is_logical (name ∷ path) = is_name name && list_all is_name path

-- the paths part at a name, and there the first has the lower one: so neither is the other or leads to it
abbrev pub parts_before : Path → Path → Bool
parts_before [] q = false
parts_before (a ∷ p) [] = false
parts_before (a ∷ p) (b ∷ q) = cond (bytes_eq a b) (parts_before p q) (is_before a b)

-- compared name by name each path comes before all later ones, and none leads to another
abbrev pub part_in_order : List Path → Bool
part_in_order [] = true
part_in_order (p ∷ paths) = list_all (parts_before p) paths && part_in_order paths
