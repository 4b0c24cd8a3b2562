-- The identifier of an object that stands, as its inventory says it (OCFL 1.1, "Inventory").
use Rattle.std.specs.Prelude.{◌^◌, ℕ, cond, codes, List, [], ◌∷◌, length, nat_le, Option, None, Some, unwrap_or}
use Rattle.std.specs.Option.{option_and_then}
use Rattle.std.specs.Str.{is_utf8}
use Rattle.pt_object.specs.WellKnown.{known_text}
use Rattle.pt_object.specs.declared.well_known.WellKnownName.TheVariants as known
use Rattle.pt_tree.specs.Forest.{Forest, as_file, find}
use Rattle.serde_json.specs.Data.{Data, null}
use Rattle.serde_json.specs.Find.{as_str, get}
use Rattle.serde_json.specs.Read.{read}

-- how many bytes an inventory may have that is read: 1 GiB
abbrev pub most_bytes : ℕ
most_bytes = 2 ^ 30

-- the bytes of a file, if it isn't longer
abbrev pub unless_long : List ℕ → Option (List ℕ)
unless_long bytes = cond (nat_le (length bytes) most_bytes) (Some bytes) None

-- a text, if it has a byte
abbrev pub unless_empty : List ℕ → Option (List ℕ)
unless_empty [] = None
unless_empty (byte ∷ text) = Some (byte ∷ text)

-- the JSON of these bytes; null where they are no text, or it is none
abbrev pub json_in : List ℕ → Data
json_in bytes = cond (is_utf8 bytes) (unwrap_or (read bytes) null) null

-- the text at `id` in the JSON of an inventory, if it is an object that has one
abbrev pub text_in : Data → Option (List ℕ)
text_in inventory = option_and_then as_str (get (codes "id") inventory)

-- the same, if the text has a byte
abbrev pub id_by : Data → Option (List ℕ)
id_by inventory = option_and_then unless_empty (text_in inventory)

-- and of an inventory of these bytes
abbrev pub id_in : List ℕ → Option (List ℕ)
id_in bytes = id_by (json_in bytes)

-- the bytes of a folder's file `inventory.json`, if there is one
abbrev pub inventory_in : Forest → Option (List ℕ)
inventory_in inside = option_and_then as_file (find inside (known_text known.Inventory))

-- the identifier that the inventory in a folder says
abbrev pub id_of : Forest → Option (List ℕ)
id_of inside = option_and_then id_in (option_and_then unless_long (inventory_in inside))
