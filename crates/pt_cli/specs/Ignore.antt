-- The names that `--ignore` leaves out.
use Rattle.std.specs.Prelude.{ℕ, ◌≡◌, ◌⊎◌, Bool, true, false, List, [], Option, Some, None, Result, Ok, Err, codes}
use Rattle.std.specs.List.{list_all}
use Rattle.clap.specs.Words.{Row, Text, all_of}
use Rattle.pt_tree.specs.Name.{is_name}
use Rattle.pt_cli.specs.declared.faults.Unread.{Unread}
use Rattle.pt_cli.specs.declared.faults.Unread.TheVariants as unread

-- each text is a name that an entry may have
abbrev pub are_names : List Text → Bool
are_names = list_all is_name

-- the refusal of a text that is no name
abbrev pub not_a_name : Bool → Option Unread
not_a_name true = None
not_a_name false = Some unread.Ignored

-- the names that these texts write, or the refusal of one that is none; or memory ran out before that
abbrev pub AreNamed : List Text → Result (List (List ℕ)) Unread → Type 0
AreNamed texts (Ok names) = (are_names texts ≡ true) × (names ≡ texts)
AreNamed texts (Err e) = (e ≡ unread.Memory) ⊎ ((are_names texts ≡ false) × (e ≡ unread.Ignored))

-- these texts, where each is a name
abbrev pub names_only : Bool → List Text → Result (List Text) Unread
names_only true texts = Ok texts
names_only false texts = Err unread.Ignored

-- the names that some texts write, where there are any
abbrev pub names_of : Option (List Text) → Result (List Text) Unread
names_of None = Ok []
names_of (Some texts) = names_only (are_names texts) texts

-- the names of `--ignore`
abbrev pub ignored_in : List Row → Result (List Text) Unread
ignored_in rows = names_of (all_of (codes "ignore") rows)
