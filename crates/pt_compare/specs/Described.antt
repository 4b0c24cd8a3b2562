-- What an inventory says of its version, and the inventories that a run could make of the same files.
use Rattle.std.specs.Prelude.{◌≡◌, ◌↔◌, Bool, true, ℕ, List, codes, Option, None, Some}
use Rattle.std.specs.Option.{option_and_then, option_map}
use Rattle.std.specs.Str.{IsUtf8, bytes_eq}
use Rattle.pt_compare.specs.declared.inventories.Texts.{Texts}
use Rattle.pt_object.specs.Meta.{given_address, meta_refusal, parts_of}
use Rattle.pt_object.specs.MetaParts.{MetaParts}
use Rattle.pt_object.specs.declared.meta.MetaFault.{MetaFault}
use Rattle.serde_json.specs.Data.{Data}
use Rattle.serde_json.specs.Find.{as_str, get}

-- ---- what a run can be given

-- the description that a run is given with these texts, unless it refuses them
abbrev pub unless_refused : Option MetaFault → MetaParts → Option MetaParts
unless_refused None texts = Some (record texts { address = given_address texts.address })
unless_refused (Some refusal) texts = None

-- a description that a run can be given
abbrev pub given_by : MetaParts → Option MetaParts
given_by texts = unless_refused (meta_refusal texts.created texts.name) texts

-- a run can be given this description
abbrev pub IsGiven : MetaParts → Type 0
IsGiven meta = given_by meta ≡ Some meta

-- the inventory has, for some description that a run can be given, the text that is made with it
pub record IsMade (text_with : MetaParts → List ℕ) (inventory : List ℕ) : Type 0 where
  pub is_text : IsUtf8 inventory
  pub meta : MetaParts
  pub given : IsGiven meta
  pub is : inventory ≡ text_with meta

-- this says whether it has
abbrev pub TellsMade : (MetaParts → List ℕ) → List ℕ → Bool → Type 0
TellsMade text_with inventory made = (made ≡ true) ↔ IsMade text_with inventory

-- it has with this description
abbrev pub is_text_with : (MetaParts → List ℕ) → List ℕ → MetaParts → Bool
is_text_with text_with inventory meta = bytes_eq inventory (text_with meta)

-- ---- what an inventory says

-- these texts, as a description
abbrev pub texts_view : Texts → MetaParts
texts_view texts =
    parts_of texts.created.now texts.name.now (option_map (λ a. a.now) texts.address)
    texts.message.now

-- the address of a user, if none or a text stands at its key
abbrev pub address_if : Option Data → Option (Option (List ℕ))
address_if None = Some None
address_if (Some d) = option_map (λ address. Some address) (as_str d)

-- the texts of a moment, a user and a message, if all are there
abbrev pub texts_with : Option (List ℕ) → Option (List ℕ) → Option (Option (List ℕ)) → Option (List ℕ) → Option MetaParts
texts_with (Some created) (Some name) (Some address) (Some message) =
    Some (parts_of created name address message)
texts_with _ _ _ _ = None

-- the description that these parts of an inventory give, if they are texts
abbrev pub texts_in : (created message user : Data) → Option MetaParts
texts_in created message user =
    texts_with (as_str created) (option_and_then as_str (get (codes "name") user))
    (address_if (get (codes "address") user)) (as_str message)

-- those of a version
abbrev pub texts_in_version : Data → Option MetaParts
texts_in_version version =
    option_and_then (λ created. option_and_then (λ message. option_and_then
    (λ user. texts_in created message user)
    (get (codes "user") version)) (get (codes "message") version)) (get (codes "created") version)

-- and those of an inventory, of its version `v1`
abbrev pub texts_in_inventory : Data → Option MetaParts
texts_in_inventory inventory =
    option_and_then texts_in_version
    (option_and_then (get (codes "v1")) (get (codes "versions") inventory))

-- what it says of its version, if a run could be given that
abbrev pub description_in : Data → Option MetaParts
description_in inventory = option_and_then given_by (texts_in_inventory inventory)
