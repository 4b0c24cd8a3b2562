-- JSON that has one text.
use Rattle.std.specs.Prelude.{Bool, false, not}
use Rattle.serde_json.specs.Data.{Data, null, boolean, number, string, array, object, Members, no_members}
use Rattle.serde_json.specs.Written.{members_have_float}

-- an object, with no float in it
abbrev pub is_plain : Data → Bool
is_plain null = false
is_plain (boolean b) = false
is_plain (number n) = false
is_plain (string s) = false
is_plain (array items) = false
is_plain (object members) = not (members_have_float members)

-- the members of an object, and none of what isn't one
abbrev pub members_in : Data → Members
members_in null = no_members
members_in (boolean b) = no_members
members_in (number n) = no_members
members_in (string s) = no_members
members_in (array items) = no_members
members_in (object members) = members
