-- What the words of the command line are answered.
use Rattle.std.specs.Prelude.{ℕ, ◌≡◌, ◌≢◌, ◌⊎◌, ⊤, codes, List, [], ◌∷◌, Option, Result, Ok, Err}
use Rattle.clap.specs.Words.{Kinds, IsAmong, Row, Text, fault_of, subcommand_of}
use Rattle.clap.specs.declared.error.kind.ErrorKind.{ErrorKind}
use Rattle.clap.specs.declared.error.kind.ErrorKind.TheVariants as kind
use Rattle.pt_cli.specs.Grammar.{Spellings, program}
use Rattle.pt_cli.specs.Options.{answer_to}
use Rattle.pt_cli.specs.declared.command.Command.{Command}
use Rattle.pt_cli.specs.declared.faults.Unread.{Unread}
use Rattle.pt_cli.specs.declared.faults.Unread.TheVariants as unread
use Rattle.pt_cli.specs.declared.faults.WordsFault.{WordsFault}
use Rattle.pt_cli.specs.declared.faults.WordsFault.TheVariants as fault

-- neither help nor the version was asked for
abbrev pub IsRefusal : ErrorKind → Type 0
IsRefusal k = (k ≢ kind.DisplayHelp) × (k ≢ kind.DisplayVersion)

-- one of the kinds is that of a refusal
abbrev pub HasRefusal : Kinds → Type 0
HasRefusal [] = ⊥
HasRefusal (k ∷ ks) = IsRefusal k ⊎ HasRefusal ks

-- the parser accepts, and this is what the command that it found asks for
abbrev pub Accepted : Kinds → Option (Text × List Row) → Result Command Unread → Type 0
Accepted kinds found answer = (kinds ≡ []) × (answer_to found ≡ answer)

-- What is answered where the parser gives these kinds of error (none, where it accepts) and finds this command:
-- help, the version and refusals are the parser's, and what it accepts has its answer.
abbrev pub Answers : Kinds → Option (Text × List Row) → Result Command WordsFault → Type 0
Answers kinds found (Ok command) = Accepted kinds found (Ok command)
Answers kinds found (Err (fault.Help text)) = IsAmong kind.DisplayHelp kinds
Answers kinds found (Err (fault.Version text)) = IsAmong kind.DisplayVersion kinds
Answers kinds found (Err (fault.Words text)) = HasRefusal kinds
Answers kinds found (Err fault.Created) = Accepted kinds found (Err unread.Created)
Answers kinds found (Err fault.EmptyName) = Accepted kinds found (Err unread.EmptyName)
Answers kinds found (Err fault.EmptyId) = Accepted kinds found (Err unread.EmptyId)
Answers kinds found (Err fault.Memory) = ⊤
Answers kinds found (Err fault.Tuples) = Accepted kinds found (Err unread.Tuples)
Answers kinds found (Err fault.Share) = Accepted kinds found (Err unread.Share)
Answers kinds found (Err fault.Folders) = Accepted kinds found (Err unread.Folders)
Answers kinds found (Err fault.Ignored) = Accepted kinds found (Err unread.Ignored)
Answers kinds found (Err fault.EmptyEvent) = Accepted kinds found (Err unread.EmptyEvent)
Answers kinds found (Err fault.EmptyList) = Accepted kinds found (Err unread.EmptyList)
Answers kinds found (Err fault.EmptyDest) = Accepted kinds found (Err unread.EmptyDest)

-- how an error of the parser is refused: as Memory at any time, since its text takes memory
abbrev pub RefusedAs : ErrorKind → WordsFault → Type 0
RefusedAs k (fault.Help text) = k ≡ kind.DisplayHelp
RefusedAs k (fault.Version text) = k ≡ kind.DisplayVersion
RefusedAs k (fault.Words text) = IsRefusal k × (k ≢ kind.OutOfMemory)
RefusedAs k fault.Memory = ⊤
RefusedAs k _ = ⊥

-- what these words, the program's name first, are answered
abbrev pub ReadsWords : List Text → Result Command WordsFault → Type 0
ReadsWords words result =
    (spelled : Spellings) × Answers (fault_of (program spelled) words) (subcommand_of (program spelled) words) result

-- the number of a refusal
abbrev pub words_number : WordsFault → ℕ
words_number (fault.Help text) = 1
words_number (fault.Words text) = 2
words_number fault.Created = 3
words_number fault.EmptyName = 4
words_number fault.EmptyId = 5
words_number fault.Memory = 6
words_number fault.Tuples = 7
words_number (fault.Version text) = 8
words_number fault.Share = 9
words_number fault.Ignored = 10
words_number fault.EmptyEvent = 11
words_number fault.EmptyList = 12
words_number fault.EmptyDest = 13
words_number fault.Folders = 14

-- what standard error is told of a refusal
abbrev pub words_line : WordsFault → List ℕ
words_line (fault.Help text) = text
words_line (fault.Version text) = text
words_line (fault.Words text) = text
words_line fault.Created = codes "pairtree2ocfl: --created is not a moment of RFC 3339 to the second\n"
words_line fault.EmptyName = codes "pairtree2ocfl: --name is empty\n"
words_line fault.EmptyId = codes "pairtree2ocfl: the identifier is empty\n"
words_line fault.Memory = codes "pairtree2ocfl: out of memory\n"
words_line fault.Tuples =
    codes "pairtree2ocfl: the tuples are out of range: --tuple-size and --tuples are each from 1 to 32, with a product of at most 64, or both 0\n"
words_line fault.Share = codes "pairtree2ocfl: --share is not K/N with N from 1 to 4096 and K from 1 to N\n"
words_line fault.Ignored = codes "pairtree2ocfl: --ignore is not the name of a file or folder\n"
words_line fault.EmptyEvent = codes "pairtree2ocfl: --event is empty\n"
words_line fault.EmptyList = codes "pairtree2ocfl: --list is empty\n"
words_line fault.EmptyDest = codes "pairtree2ocfl: --dest is empty\n"
words_line fault.Folders = codes "pairtree2ocfl: --by-folders is not a number from 1 to 600 beside --share\n"
