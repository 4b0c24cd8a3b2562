-- What `names -` makes of an input that has an identifier in each line.
use Rattle.std.specs.Prelude.{ℕ, ◌≡◌, List, [], ◌∷◌, ◌++◌, Option, None, Some, Result, Ok, Err}
use Rattle.std.specs.Io.KnownBytes.{Appends, Consumes, IsAtEnd}
use Rattle.pt_tree.specs.Log.{AppendsFront}
use Rattle.pt_tree.specs.Path.{joined}
use Rattle.pt_name.specs.Clean.{pairpath_of}
use Rattle.pt_name.specs.Place.{place_of}
use Rattle.pt_cli.specs.Lines.{line_fault, lines_from, next_number, whole_lines_from}
use Rattle.pt_cli.specs.declared.command.NamesArgs.{NamesArgs}
use Rattle.pt_cli.specs.declared.list_fault.BadLine.{BadLine}
use Rattle.pt_cli.specs.declared.list_fault.LineFault.{LineFault}
use Rattle.pt_cli.specs.declared.list_fault.LinesFault.{LinesFault}
use Rattle.pt_cli.specs.declared.list_fault.LinesFault.TheVariants as lines
use Rattle.pt_cli.specs.declared.list_fault.ListFault.{ListFault}
use Rattle.pt_cli.specs.declared.list_fault.ListFault.TheVariants as list

-- the number of a refusal
abbrev pub list_number : ListFault → ℕ
list_number (list.Line bad) = 1
list_number list.Read = 2
list_number list.Write = 3
list_number list.Memory = 4

-- the refusal of names where lines aren't read on
abbrev pub list_fault_of : LinesFault → ListFault
list_fault_of (lines.Line bad) = list.Line bad
list_fault_of lines.Memory = list.Memory

-- the pairpath of an identifier, a tab, and the place in a layout of a prefix with it behind, as a line
abbrev pub names_line : NamesArgs → List ℕ → List ℕ
names_line asked id = pairpath_of id ++ 9 ∷ joined (place_of asked.layout (asked.prefix ++ id)) ++ 10 ∷ []

-- what lines come to: the names of those before the first that is no identifier, and that one, if there is one
pub record NamesListed : Type 0 where
  pub text : List ℕ
  pub bad : Option BadLine

-- what a line comes to, by what is against it, before what comes behind it
abbrev pub listed_before : NamesArgs → ℕ → List ℕ → Option LineFault → NamesListed → NamesListed
listed_before asked number id None behind = record { text = names_line asked id ++ behind.text; bad = behind.bad }
listed_before asked number id (Some fault) behind =
    record { text = []; bad = Some (record { number = number; fault = fault }) }

-- what lines come to, the first of which has this number
abbrev pub listed_from : NamesArgs → ℕ → List (List ℕ) → NamesListed
listed_from asked number [] = record { text = []; bad = None }
listed_from asked number (id ∷ ids) =
    listed_before asked number id (line_fault id) (listed_from asked (next_number number) ids)

-- what an input comes to
abbrev pub listed_of : NamesArgs → List ℕ → NamesListed
listed_of asked bytes = listed_from asked 1 (lines_from [] bytes)

-- what the whole lines of an input come to
abbrev pub whole_of : NamesArgs → List ℕ → NamesListed
whole_of asked bytes = listed_from asked 1 (whole_lines_from [] bytes)

-- each whole line of these bytes is an identifier, and an output grew by the names of them all
abbrev pub AppendsWhole : NamesArgs → Option (List ℕ) → Option (List ℕ) → List ℕ → Type 0
AppendsWhole asked old new bytes =
    ((whole_of asked bytes).bad ≡ None) × Appends old new (whole_of asked bytes).text

-- the same of the whole lines in a front of these bytes
pub record AppendsSome (asked : NamesArgs) (old new : Option (List ℕ)) (bytes : List ℕ) : Type 0 where
  pub front : List ℕ
  pub behind : List ℕ
  pub both : bytes ≡ front ++ behind
  pub appended : AppendsWhole asked old new front

-- what was read and written where the answer is so: of these bytes, behind which this is left of the input
abbrev pub AnswersSo : NamesArgs → List ℕ → Option (List ℕ) → Option (List ℕ) → Option (List ℕ)
    → Result (Unit {0}) ListFault → Type 0
AnswersSo asked bytes rest old new (Ok done) =
    IsAtEnd rest × ((listed_of asked bytes).bad ≡ None) × Appends old new (listed_of asked bytes).text
AnswersSo asked bytes rest old new (Err (list.Line bad)) =
    ((listed_of asked bytes).bad ≡ Some bad) × Appends old new (listed_of asked bytes).text
AnswersSo asked bytes rest old new (Err list.Read) = AppendsWhole asked old new bytes
AnswersSo asked bytes rest old new (Err list.Write) = AppendsFront old new (listed_of asked bytes).text
AnswersSo asked bytes rest old new (Err list.Memory) = AppendsSome asked old new bytes

-- bytes were read from an input, and what they come to was written to an output, as the answer says
pub record ListsNames (asked : NamesArgs) (input rest old new : Option (List ℕ)) (answer : Result (Unit {0}) ListFault)
    : Type 0 where
  pub bytes : List ℕ
  pub consumed : Consumes input rest bytes
  pub listed : AnswersSo asked bytes rest old new answer
