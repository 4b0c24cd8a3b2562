use Rattle.std.proofs.Common.{◌≡◌, ℕ, ◌+◌, ◌*◌, ◌≤◌, length}
use Rattle.std.specs.Option.{option_map}
use Rattle.json.specs.Json.{items, members, value, parse_map}
use Rattle.pt_extra.specs.Inventories.{text_in}
use Rattle.pt_extra.specs.Tokens.{IsStringIn, text_of}
use Rattle.serde_json.specs.Data.{Items, Members, no_members, object}
use Rattle.serde_json.specs.Read.{of_items, of_members, converted}
use Rattle.pt_extra.proofs.inventory.+read.Given as goal

abbrev pub decreases-read_value : goal.decreases-read_value
decreases-read_value l = 2 * l.depth

abbrev pub decreases-read_items : goal.decreases-read_items
decreases-read_items l = 2 * l.depth + 1

abbrev pub decreases-read_members : goal.decreases-read_members
decreases-read_members l = 2 * l.depth + 1

abbrev pub invariant-read_items-items : goal.invariant-read_items-items
invariant-read_items-items l =
    (n : ℕ) × (length l.reader.tokens ≤ n)
    × (before : Items → Items)
    × (converted of_items (items (value l.depth) (length l.initial.reader.tokens) l.initial.reader.tokens)
    ≡ parse_map before (converted of_items (items (value l.depth) n l.reader.tokens)))
    × (length l.reader.tokens ≤ length l.initial.reader.tokens)
    × (l.reader.text ≡ l.initial.reader.text)

abbrev pub decreases-read_items-items : goal.decreases-read_items-items
decreases-read_items-items l = length l.reader.tokens

abbrev pub invariant-read_members-members : goal.invariant-read_members-members
invariant-read_members-members l =
    (n : ℕ) × (length l.reader.tokens ≤ n)
    × (found : Members)
    × (converted (λ ms. of_members ms no_members) (members (value l.depth) (length l.initial.reader.tokens) l.initial.reader.tokens)
    ≡ converted (λ ms. of_members ms found) (members (value l.depth) n l.reader.tokens))
    × (length l.reader.tokens ≤ length l.initial.reader.tokens)
    × (option_map (λ text. text_of text.now) l.id ≡ text_in (object found))
    × (l.reader.text ≡ l.initial.reader.text)
    × IsStringIn l.initial.reader.text l.id

abbrev pub decreases-read_members-members : goal.decreases-read_members-members
decreases-read_members-members l = length l.reader.tokens
