-- The lines of a check: each one compact JSON object with its keys in byte order, and LF.
use Rattle.std.specs.Prelude.{◌≡◌, ◌+◌, ℕ, cond, nat_lt, List, [], ◌∷◌, ◌++◌, codes}
use Rattle.pt_check.specs.Breakdown.{class_counts, class_word}
use Rattle.pt_check.specs.EndKey.{end_number, end_parts, end_word, is_told}
use Rattle.pt_check.specs.Trouble.{trouble_word}
use Rattle.pt_check.specs.declared.breakdown.Breakdown.{Breakdown}
use Rattle.pt_check.specs.declared.end_key.EndKey.{EndKey}
use Rattle.pt_check.specs.declared.end_key.EndPart.{EndPart}
use Rattle.pt_check.specs.declared.end_key.EndPart.TheVariants as part
use Rattle.pt_check.specs.declared.line_kind.LineKind.{LineKind}
use Rattle.pt_check.specs.declared.line_kind.LineKind.TheVariants as kind
use Rattle.pt_check.specs.declared.numbers.Numbers.{Numbers}
use Rattle.pt_check.specs.declared.trouble.Trouble.{Trouble}
use Rattle.pt_plan.specs.Lines.{number_member, text_member}
use Rattle.pt_plan.specs.Members.{members_tree}
use Rattle.pt_plan.specs.declared.members.Member.{Member}
use Rattle.pt_tree.specs.Path.{Path, joined}
use Rattle.serde_json.specs.Data.{Data, Members, no_members}
use Rattle.serde_json.specs.Data as json
use Rattle.serde_json.specs.Written.{compact_text}

-- what a line tells: a trouble at a path of the store's folder, a path that couldn't be read and why, or the numbers at the end
pub data Line : Type 0 where
  Told : (path : Path) → (trouble : Trouble) → Line
  Unreadable : (path : Path) → (reason : List ℕ) → Line
  End : (numbers : Numbers) → Line

-- the kind of a line; one of the numbers tells nothing, and none is asked
abbrev pub line_kind : Line → LineKind
line_kind (Told path trouble) = kind.Troubled trouble
line_kind (Unreadable path reason) = kind.Unreadable
line_kind (End numbers) = kind.Unreadable

-- the member of a key before others, if a line of these numbers has it
abbrev pub end_member : Numbers → EndKey → Members → Members
end_member numbers key others =
    cond (is_told numbers key) (number_member (end_word key) (end_number numbers key) others) others

-- the member of a class of which so many are counted, before others, if there are any
abbrev pub class_member : Breakdown → ℕ → ℕ → Members → Members
class_member breakdown class count others =
    cond (nat_lt 0 count) (number_member (class_word breakdown class) count others) others

-- the members of the classes from this one on, of which so many are counted, before others
abbrev pub class_members : Breakdown → ℕ → List ℕ → Members → Members
class_members breakdown class [] others = others
class_members breakdown class (count ∷ counts) others =
    class_member breakdown class count (class_members breakdown (class + 1) counts others)

-- the members of a part of a line of these numbers, before others
abbrev pub part_members : Numbers → EndPart → Members → Members
part_members numbers (part.One key) others = end_member numbers key others
part_members numbers (part.Each breakdown) others = class_members breakdown 0 (class_counts numbers breakdown) others

-- the members of these parts of a line of these numbers, before others
abbrev pub end_members : Numbers → List EndPart → Members → Members
end_members numbers [] others = others
end_members numbers (part ∷ parts) others = part_members numbers part (end_members numbers parts others)

-- to these members some are added, which stand so before others
abbrev pub Adds : (Members → Members) → List Member → List Member → Type 0
Adds before old new = (added : List Member) × (new ≡ old ++ added)
    × ((others : List Member) → members_tree (added ++ others) ≡ before (members_tree others))

-- the line as a tree of JSON
abbrev pub line_tree : Line → Data
line_tree (Told path trouble) = json.object
    (text_member (codes "as") (trouble_word trouble)
    (text_member (codes "path") (joined path) no_members))
line_tree (Unreadable path reason) = json.object
    (text_member (codes "as") (codes "unreadable")
    (text_member (codes "path") (joined path)
    (text_member (codes "reason") reason no_members)))
line_tree (End numbers) = json.object
    (text_member (codes "as") (codes "end") (end_members numbers end_parts no_members))

-- the compact text of the line, and LF
abbrev pub line_text : Line → List ℕ
line_text line = compact_text (line_tree line) ++ 10 ∷ []
