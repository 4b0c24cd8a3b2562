-- The paths of an object's files are those of the walk's files.
use Rattle.std.proofs.Common.{◌≡◌, [], ◌∷◌, refl, ◌∙◌, ap, List}
use Rattle.std.specs.List.{list_all}
use Rattle.pt_object.specs.FilePaths.{File, paths_of}
use Rattle.pt_tree.specs.Path.{Path}
use Rattle.pt_tree.specs.PathOrder.{is_logical, part_in_order}
use Rattle.pt_walk.proofs.FilePaths.{files_part}
use Rattle.pt_walk.specs.Object.{entries, files}
use Rattle.pt_walk.specs.ObjectPaths as walk
use Rattle.pt_plan.specs.FileLaws.{FilesComeInOrder}

same_paths : (held : List File) → paths_of held ≡ walk.paths_of held
same_paths [] = refl
same_paths (file ∷ others) = ap (λ (paths : List Path). file.0 ∷ paths) (same_paths others)

pub files_come_in_order : FilesComeInOrder
files_come_in_order inside proper =
    let parts = files_part inside proper in
    let same = same_paths (files (entries inside)) in
    (ap part_in_order same ∙ parts.0, ap (list_all is_logical) same ∙ parts.1)
