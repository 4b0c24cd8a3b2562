-- What is read of a log whose lines are expected, and what that counts.
use Rattle.std.specs.List.{after_last}
use Rattle.std.specs.Option.{option_map, option_map_or, option_or}
use Rattle.std.specs.Prelude.{◌≡◌, ◌==◌, ◌-◌, ◌+◌, ⊤, ℕ, Bool, false, List, [], ◌∷◌, Option, Some, None, Result, Ok, Err, codes, if◌then◌else◌}
use Rattle.std.specs.Prelude.{length, nat_le, option_and_then, slice_index, take}
use Rattle.std.specs.Str.{bytes_eq, is_utf8}
use Rattle.std.specs.declared.io.Error.{Error}
use Rattle.serde_json.specs.Data.{Data}
use Rattle.serde_json.specs.Find.{as_number, as_str, as_u64, get}
use Rattle.serde_json.specs.Read.{read}
use Rattle.pt_messages.specs.Progress.{bounded}
use Rattle.pt_messages.specs.Reading.{EndsSo, FileWords}
use Rattle.pt_messages.specs.declared.expected.Counted.{Counted}
use Rattle.pt_messages.specs.declared.expected.Counted.TheVariants.{Lines, Entries}

-- the end of the log at this path was asked for, if there is one
abbrev pub AsksEnd : FileWords → Option (List ℕ) → Type 0
AsksEnd words None = ⊤
AsksEnd words (Some path) = (end : List ℕ) × (answer : Result ℕ Error) × EndsSo words end answer path

-- the last line, without its LF (10), of bytes that end with one
abbrev pub last_line : List ℕ → Option (List ℕ)
last_line bytes = if slice_index bytes (length bytes - 1) == 10
    then Some (after_last (λ byte. byte == 10) (take (length bytes - 1) bytes))
    else None

-- the JSON of bytes, if they are JSON
abbrev pub json_in : List ℕ → Option Data
json_in bytes = if is_utf8 bytes then read bytes else None

-- the number of a member
abbrev pub number_at : List ℕ → Data → Option ℕ
number_at key json = option_and_then as_u64 (option_and_then as_number (get key json))

-- the sum of these members and what was counted before, if each is a number
abbrev pub sum_from : ℕ → List (List ℕ) → Data → Option ℕ
sum_from total [] json = Some total
sum_from total (key ∷ keys) json = option_and_then (λ count. sum_from (bounded (total + count)) keys json) (number_at key json)

-- the same of nothing before
abbrev pub sum_of : List (List ℕ) → Data → Option ℕ
sum_of keys json = sum_from 0 keys json

-- the lines on the store that an end line of a run counts, or one of an audit, by bytes or by lengths
abbrev pub lines_in : Data → Option ℕ
lines_in end = option_or (sum_of (codes "done" ∷ codes "present" ∷ codes "skip" ∷ []) end)
    (option_or (sum_of (codes "absent" ∷ codes "differs" ∷ codes "same" ∷ codes "skip" ∷ []) end)
    (sum_of (codes "absent" ∷ codes "alike" ∷ codes "differs" ∷ codes "skip" ∷ []) end))

-- the files and folders that one of a check counts; SOURCE and pairtree_root are come to as well
abbrev pub entries_in : Data → Option ℕ
entries_in end = option_map (λ count. bounded (count + 2)) (sum_of (codes "files" ∷ codes "folders" ∷ []) end)

-- what is to be counted of an end line
abbrev pub counted_by : Counted → Data → Option ℕ
counted_by Lines = lines_in
counted_by Entries = entries_in

-- this is the JSON of an end line
abbrev pub is_end : Data → Bool
is_end json = option_map_or (λ word. bytes_eq word (codes "end")) (option_and_then as_str (get (codes "as") json)) false

-- what is counted of JSON, if that is an end line
abbrev pub count_of : (Data → Option ℕ) → Data → Option ℕ
count_of counted json = if is_end json then counted json else None

-- of the last line of these bytes
abbrev pub count_in : (Data → Option ℕ) → List ℕ → Option ℕ
count_in counted bytes = option_and_then (count_of counted) (option_and_then json_in (last_line bytes))

-- and of as many of them as were read, if they were
abbrev pub count_read : (Data → Option ℕ) → List ℕ → Result ℕ Error → Option ℕ
count_read counted end (Ok count) = if nat_le count (length end) then count_in counted (take count end) else None
count_read counted end (Err _) = None

-- this is counted by the end of the log at this path, if there is one
abbrev pub CountsEnd : (Data → Option ℕ) → FileWords → Option (List ℕ) → Option ℕ → Type 0
CountsEnd counted words None count = count ≡ None
CountsEnd counted words (Some path) count =
    (end : List ℕ) × (answer : Result ℕ Error) × EndsSo words end answer path × (count ≡ count_read counted end answer)
