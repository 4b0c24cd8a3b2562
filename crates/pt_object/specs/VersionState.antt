-- What an object's version means: its logical paths with their bytes, as its inventory says.
use Rattle.std.specs.Prelude.{ℕ, Bool, ◌==◌, cond, List, [], ◌∷◌, ◌++◌, codes, map, Option, None, Some}
use Rattle.std.specs.List.{slice_split}
use Rattle.std.specs.Option.{option_map, option_and_then}
use Rattle.std.specs.Ordering.{is_lt, nat_cmp}
use Rattle.std.specs.Cmp.Lexicographic.{slice_cmp}
use Rattle.serde_json.specs.Data.{Data, null, boolean, number, string, array, object, Items, no_items, item, Members, no_members, member}
use Rattle.serde_json.specs.Find.{get, get_member}
use Rattle.serde_json.specs.Read.{read}
use Rattle.pt_tree.specs.Path.{Path}
use Rattle.pt_tree.specs.Tree.{Tree, bytes_of}
use Rattle.pt_object.specs.FilePaths.{File}
use Rattle.pt_object.specs.Object.{inventory_name}

-- the names that stand between the `/` of a text
abbrev pub names_in : List ℕ → Path
names_in text = slice_split (λ byte. byte == 47) text

-- name by name, p comes before q
abbrev pub path_before : Path → Path → Bool
path_before p q = is_lt (slice_cmp (slice_cmp nat_cmp) p q)

-- the file among others in rising order of their paths
abbrev pub inserted : File → List File → List File
inserted file [] = file ∷ []
inserted file (next ∷ files) =
    cond (path_before next.0 file.0) (next ∷ inserted file files) (file ∷ next ∷ files)

-- these files in rising order of their paths
abbrev pub in_order : List File → List File
in_order [] = []
in_order (file ∷ files) = inserted file (in_order files)

-- the text, if it is one
abbrev pub as_text : Data → Option (List ℕ)
as_text null = None
as_text (boolean b) = None
as_text (number n) = None
as_text (string text) = Some text
as_text (array ds) = None
as_text (object ms) = None

-- the texts, if all of them are texts
abbrev pub as_texts : Items → Option (List (List ℕ))
as_texts no_items = Some []
as_texts (item d items) =
    option_and_then (λ text. option_map (λ texts. text ∷ texts) (as_texts items)) (as_text d)

-- the texts of an array of texts
abbrev pub texts_of : Data → Option (List (List ℕ))
texts_of null = None
texts_of (boolean b) = None
texts_of (number n) = None
texts_of (string text) = None
texts_of (array ds) = as_texts ds
texts_of (object ms) = None

-- the first of these texts
abbrev pub first_of : List (List ℕ) → Option (List ℕ)
first_of [] = None
first_of (text ∷ texts) = Some text

-- the members of what is read, if it is a JSON object
abbrev pub members_of : Data → Option Members
members_of null = None
members_of (boolean b) = None
members_of (number n) = None
members_of (string text) = None
members_of (array ds) = None
members_of (object ms) = Some ms

-- the bytes at the first content path that the manifest has under the digest, in the object at a place
abbrev pub content_at : Tree → Path → Members → List ℕ → Option (List ℕ)
content_at t place manifest digest =
    option_and_then (λ text. bytes_of (t (place ++ names_in text)))
    (option_and_then first_of (option_and_then texts_of (get_member digest manifest)))

-- the logical paths under a digest, each with those bytes
abbrev pub files_under : Option (List ℕ) → Data → Option (List File)
files_under bytes paths =
    option_and_then
    (λ held. option_map (λ texts. map (λ text. (names_in text, held)) texts) (texts_of paths)) bytes

-- so for each digest of a state
abbrev pub files_of_state : Tree → Path → Members → Members → Option (List File)
files_of_state t place manifest no_members = Some []
files_of_state t place manifest (member digest paths state) =
    option_and_then
    (λ files. option_map (λ others. files ++ others) (files_of_state t place manifest state))
    (files_under (content_at t place manifest digest) paths)

-- the state of the version `v1` in an inventory
abbrev pub state_in : Data → Option Members
state_in inventory =
    option_and_then members_of
    (option_and_then (get (codes "state"))
    (option_and_then (get (codes "v1")) (get (codes "versions") inventory)))

-- what the inventory says of the object at a place, in rising order of the paths
abbrev pub state_by : Tree → Path → Data → Option (List File)
state_by t place inventory =
    option_and_then
    (λ manifest. option_and_then
    (λ state. option_map in_order (files_of_state t place manifest state)) (state_in inventory))
    (option_and_then members_of (get (codes "manifest") inventory))

-- the files that the first version of the object at a place has (OCFL 1.1, "Manifest", "Versions Block"): each logical path of its state with the
-- bytes at the first content path that the manifest has under the digest, in rising order of their paths, compared name by name
abbrev pub v1_state : Tree → Path → Option (List File)
v1_state t place =
    option_and_then (state_by t place)
    (option_and_then read (bytes_of (t (place ++ inventory_name ∷ []))))
