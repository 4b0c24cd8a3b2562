-- The members of a JSON object, and its line.
use Rattle.std.specs.Prelude.{◌≡◌, ◌⊎◌, ℕ, Bool, List, [], ◌∷◌, ◌++◌, Option, None, Some, codes, map}
use Rattle.serde_json.specs.Data.{Data, array, boolean, string, no_members, object, put, Members as DataMembers}
use Rattle.serde_json.specs.View.{items_of, view}
use Rattle.serde_json.specs.Written.{compact_text}
use Rattle.pt_messages.specs.Plain.{members_in}
use Rattle.pt_messages.specs.declared.members.Members.{Members}

-- the members of a JSON object, in the order of their keys
abbrev pub JsonMembers : Type 0
JsonMembers = DataMembers

-- none
abbrev pub empty_members : JsonMembers
empty_members = no_members

-- those that were put
abbrev pub members_of : Members → JsonMembers
members_of members = members_in (view members.object)

-- the line of an object with these members: its compact text, and LF
abbrev pub line_of : JsonMembers → List ℕ
line_of members = compact_text (object members) ++ 10 ∷ []

-- members with this text at a key
abbrev pub put_text : List ℕ → List ℕ → JsonMembers → JsonMembers
put_text key text members = put key (string text) members

-- and where there is one
abbrev pub put_if : List ℕ → Option (List ℕ) → JsonMembers → JsonMembers
put_if key None members = members
put_if key (Some text) members = put_text key text members

-- why a fault came is put into members of it: a path and a reason, or nothing
abbrev pub PutsWhy : JsonMembers → JsonMembers → Type 0
PutsWhy old new = (new ≡ old)
    ⊎ ((path : List ℕ) × (reason : List ℕ)
    × (new ≡ put_text (codes "reason") reason (put_text (codes "path") path old)))

-- a list of texts
abbrev pub texts_of : List (List ℕ) → Data
texts_of texts = array (items_of (map string texts))

-- members with a list of texts at a key
abbrev pub put_texts : List ℕ → List (List ℕ) → JsonMembers → JsonMembers
put_texts key texts members = put key (texts_of texts) members

-- and with whether something is so
abbrev pub put_flag : List ℕ → Bool → JsonMembers → JsonMembers
put_flag key is_set members = put key (boolean is_set) members
