-- What the members of a line are as JSON.
use Rattle.std.specs.Prelude.{List, [], ◌∷◌}
use Rattle.std.specs.String.{string_bytes}
use Rattle.pt_plan.specs.Lines.{number_member, text_member}
use Rattle.pt_plan.specs.declared.members.Member.{Member}
use Rattle.pt_plan.specs.declared.members.Member.TheVariants.{Number, Path, Text}
use Rattle.serde_json.specs.Data.{Members, no_members}

-- the members, in the order of their list
abbrev pub members_tree : List Member → Members
members_tree [] = no_members
members_tree (Number key n ∷ others) = number_member key.now n (members_tree others)
members_tree (Path key path ∷ others) = text_member key.now (string_bytes path) (members_tree others)
members_tree (Text key text ∷ others) = text_member key.now text.now (members_tree others)
