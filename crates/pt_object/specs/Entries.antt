-- The entries of an inventory's manifest and state: a content's digest with what is said of it.
use Rattle.std.specs.Prelude.{ℕ, List, [], ◌∷◌, map}
use Rattle.std.specs.List.{flat_map}
use Rattle.std.proofs.Common.{get_or}
use Rattle.hex.specs.Hex.{encode_lower}
use Rattle.json.specs.Token.{Token}
use Rattle.json.specs.Token as token
use Rattle.serde_json.specs.Data.{Data, array}
use Rattle.pt_tree.specs.Path.{joined}
use Rattle.pt_object.specs.Contents.{content_of}
use Rattle.pt_object.specs.Inventory.{content_path, paths_with, texts}
use Rattle.pt_object.specs.Tokens.{tokens_of}
use Rattle.pt_object.specs.declared.table.contents.Content.{Content}
use Rattle.pt_object.specs.declared.rows.Row.{Row}

-- what stands at a position where no item is
abbrev pub no_content : Content
no_content = content_of [] []

-- the text of its digest
abbrev pub key : Content → List ℕ
key content = encode_lower content.digest

-- the contents at these positions
abbrev pub at_positions : List Content → List ℕ → List Content
at_positions items positions = map (λ p. get_or items p no_content) positions

-- what the manifest says of a content, and what the state of these rows says
abbrev pub stored : Content → Data
stored content = array (texts (content_path content.path ∷ []))

-- what the state has of a content's digest: the paths of all its files
abbrev pub grouped : List Row → Content → Data
grouped rows content = array (texts (map joined (paths_with rows content.digest)))

-- a content's digest with what is said of it
abbrev pub entry : (Content → Data) → Content → List Token
entry f x = token.key (key x) ∷ tokens_of (f x)

-- the entries of the contents at these positions
abbrev pub entries : (Content → Data) → List Content → List ℕ → List Token
entries f items positions = flat_map (entry f) (at_positions items positions)
