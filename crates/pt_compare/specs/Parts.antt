-- The items of an object as a comparison goes over them.
use Rattle.std.specs.Prelude.{ℕ, Bool, false, codes, filter, is_some, map, not, List, [], ◌∷◌, ◌++◌, Option, None, Some}
use Rattle.pt_object.specs.FilePaths.{File}
use Rattle.pt_object.specs.Files.{object_declaration_bytes, sidecar_text}
use Rattle.pt_object.specs.Object.{in_content, inventory_name, object_declaration_name, sidecar_name, version_folder}
use Rattle.pt_object.specs.Script.{Item, MakeFolder, MakeFile}
use Rattle.pt_object.specs.declared.algorithm.Algorithm.{Algorithm}
use Rattle.pt_object.specs.declared.table.contents.Content.{Content}
use Rattle.pt_tree.specs.Forest.{Forest}
use Rattle.pt_tree.specs.Path.{Path, rest_below}
use Rattle.pt_walk.specs.Left.{bytes_at}

-- each path that begins this one, but for itself, from the empty one on
abbrev pub fronts : Path → List Path
fronts [] = []
fronts (name ∷ path) = [] ∷ map (λ front. name ∷ front) (fronts path)

-- the folder is on the way to the content that was met last
abbrev pub leads_to_last : Option Path → Path → Bool
leads_to_last None folder = false
leads_to_last (Some last) folder = is_some (rest_below folder last)

-- those of these folders that aren't
abbrev pub new_folders : Option Path → List Path → List Item
new_folders last folders = map MakeFolder (filter (λ folder. not (leads_to_last last folder)) folders)

-- the new folders on the way to a content that have one of these paths in place of its logical path
abbrev pub way_items : Option Path → List Path → List Item
way_items last fronts = new_folders last (map in_content fronts)

-- each content, with the new folders on the way to it before it
abbrev pub content_items : Option Path → List File → List Item
content_items last [] = []
content_items last (file ∷ files) = way_items last (fronts file.0)
    ++ MakeFile (in_content file.0) file.1 ∷ content_items (Some (in_content file.0)) files

-- the files that are stored, with the bytes that they have in the source
abbrev pub files_of : Forest → Path → List Content → List File
files_of source from contents =
    map (λ content. (content.path, bytes_at source (from ++ content.path))) contents

-- the items before the contents
abbrev pub first_items : List Item
first_items = MakeFolder [] ∷ MakeFile (object_declaration_name ∷ []) object_declaration_bytes
    ∷ MakeFolder version_folder ∷ []

-- those after the version's inventory
abbrev pub last_items : Algorithm → List ℕ → List Item
last_items algorithm inventory =
    MakeFile (version_folder ++ sidecar_name algorithm ∷ []) (sidecar_text algorithm inventory)
    ∷ MakeFile (inventory_name ∷ []) inventory
    ∷ MakeFile (sidecar_name algorithm ∷ []) (sidecar_text algorithm inventory) ∷ []

-- the items of an object whose contents are these
abbrev pub early_items : List File → List Item
early_items files = first_items ++ content_items None files
