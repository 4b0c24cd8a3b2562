-- What is found of an object that stands.
use Rattle.std.specs.Prelude.{◌≡◌, true}
use Rattle.pt_compare.specs.Found.{IsFound, IsObject, Sought}
use Rattle.pt_compare.specs.declared.difference.Comparison.{Comparison}
use Rattle.pt_compare.specs.declared.difference.Comparison.TheVariants.{Same}
use Rattle.pt_object.specs.FilePaths.{are_apart, paths_of}
use Rattle.pt_tree.specs.PathOrder.{part_in_order}
use Rattle.pt_tree.specs.Tree.{Tree}

-- of an object that stands just as it is sought nothing is found but that it does
abbrev pub StandingObjectIsTheSame : Type 0
StandingObjectIsTheSame =
    (sought : Sought) (t : Tree) (finding : Comparison)
    → part_in_order (paths_of sought.stored) ≡ true → are_apart (paths_of sought.stored) ≡ true
    → IsObject sought t → IsFound sought t finding → finding ≡ Same
