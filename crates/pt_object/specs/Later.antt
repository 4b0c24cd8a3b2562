-- What some rows have of a content: whether there is one, and the paths behind the first.
use Rattle.std.specs.Prelude.{Bool, true, false, List, [], ◌∷◌, map}
use Rattle.pt_tree.specs.Path.{Path}
use Rattle.pt_object.specs.declared.inventories.state.Group.{Group}

-- whether there is a path, and those behind the first
abbrev pub parted : List Path → Bool × List Path
parted [] = (false, [])
parted (path ∷ paths) = (true, paths)

-- what a group lends
abbrev pub group_lent : Group → Bool × List Path
group_lent group = (group.is_met, map (λ path. path.now) group.later.items)
