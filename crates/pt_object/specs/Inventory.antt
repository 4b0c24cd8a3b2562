-- The inventory of an object of one version, as a tree of JSON over its rows.
use Rattle.std.specs.Prelude.{ℕ, List, [], ◌∷◌, ◌++◌, codes, filter, fold, map, Option, None, Some}
use Rattle.hex.specs.Hex.{encode_lower}
use Rattle.serde_json.specs.Data.{Data, string, array, object, Items, Members, no_members, member, put}
use Rattle.serde_json.specs.View.{items_of}
use Rattle.serde_json.specs.Written.{compact_text}
use Rattle.pt_tree.specs.Path.{Path, joined}
use Rattle.pt_object.specs.Algorithm.{algorithm_word}
use Rattle.pt_object.specs.Distinct.{content_of_row, distinct, row_has_digest}
use Rattle.pt_object.specs.MetaParts.{MetaParts}
use Rattle.pt_object.specs.declared.algorithm.Algorithm.{Algorithm}
use Rattle.pt_object.specs.declared.table.contents.Content.{Content}
use Rattle.pt_object.specs.declared.rows.Row.{Row}

-- where the content of a file is stored
abbrev pub content_path : Path → List ℕ
content_path path = codes "v1/content/" ++ joined path

-- these texts, as the items of an array
abbrev pub texts : List (List ℕ) → Items
texts list = items_of (map string list)

-- the content's digest with the path where it is stored
abbrev pub put_content : Members → Content → Members
put_content members content =
    put (encode_lower content.digest) (array (texts (content_path content.path ∷ []))) members

-- the manifest: each distinct digest with the stored path of its first file
abbrev pub manifest_members : List Row → Members
manifest_members rows = fold put_content no_members (map content_of_row (distinct rows))

-- the paths of the files with this digest, in order
abbrev pub paths_with : List Row → List ℕ → List Path
paths_with rows digest = map (λ row. row.path) (filter (row_has_digest digest) rows)

-- the content's digest with the logical paths of all its files
abbrev pub put_paths : List Row → Members → Content → Members
put_paths rows members content =
    put (encode_lower content.digest)
    (array (texts (map joined (paths_with rows content.digest)))) members

-- the state: each distinct digest with the logical paths of its files
abbrev pub state_members : List Row → Members
state_members rows = fold (put_paths rows) no_members (map content_of_row (distinct rows))

-- who made the version: without an address the name alone
abbrev pub user_tree : Option (List ℕ) → List ℕ → Data
user_tree None name = object (member (codes "name") (string name) no_members)
user_tree (Some address) name =
    object (member (codes "address") (string address)
    (member (codes "name") (string name) no_members))

-- the one version: moment, message, state and user (OCFL 1.1, "Version Block")
abbrev pub version_tree : MetaParts → Data → Data
version_tree meta state = object
    (member (codes "created") (string meta.created)
    (member (codes "message") (string meta.message)
    (member (codes "state") state
    (member (codes "user") (user_tree meta.address meta.name) no_members))))

-- the inventory of an identifier, a manifest and a version (OCFL 1.1, "Inventory")
abbrev pub document_tree : List ℕ → Data → Data → Algorithm → Data
document_tree id manifest version algorithm = object
    (member (codes "digestAlgorithm") (string (algorithm_word algorithm))
    (member (codes "head") (string (codes "v1"))
    (member (codes "id") (string id)
    (member (codes "manifest") manifest
    (member (codes "type") (string (codes "https://ocfl.io/1.1/spec/#inventory"))
    (member (codes "versions") (object (member (codes "v1") version no_members)) no_members))))))

-- the inventory of the object with this identifier and these files
abbrev pub inventory_tree : List ℕ → List Row → MetaParts → Algorithm → Data
inventory_tree id rows meta algorithm =
    document_tree id (object (manifest_members rows))
    (version_tree meta (object (state_members rows))) algorithm

-- its text, with no space
abbrev pub inventory_text : List ℕ → List Row → MetaParts → Algorithm → List ℕ
inventory_text id rows meta algorithm = compact_text (inventory_tree id rows meta algorithm)
