-- The text of a file's length, and a tree in which each file has that text.
use Rattle.std.specs.Prelude.{◌++◌, ℕ, Bool, true, false, codes, decimal, length, nat_lt, List, []}
use Rattle.pt_tree.specs.Forest.{Forest, none, file, other, dir}

-- twenty zeros, where a length is over the greatest that is carried
abbrev pub mark_by : Bool → List ℕ
mark_by true = codes "00000000000000000000"
mark_by false = []

-- the text of a length: its decimal digits, at most twenty; and twenty zeros behind them if it is over the greatest
abbrev pub text_of_length : ℕ → ℕ → List ℕ
text_of_length longest count = decimal count ++ mark_by (nat_lt longest count)

-- the text of so many bytes
abbrev pub text_of_file : ℕ → List ℕ → List ℕ
text_of_file longest bytes = text_of_length longest (length bytes)

-- with the text of each file's length in the place of its bytes
abbrev pub lengths_of : ℕ → Forest → Forest
lengths_of longest none = none
lengths_of longest (file name bytes after) = file name (text_of_file longest bytes) (lengths_of longest after)
lengths_of longest (other name after) = other name (lengths_of longest after)
lengths_of longest (dir name inside after) = dir name (lengths_of longest inside) (lengths_of longest after)
