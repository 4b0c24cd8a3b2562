-- The list of identifiers that `--list` names, and the share that takes those.
use Rattle.std.specs.Prelude.{ℕ, ◌≡◌, ◌≢◌, ◌⊎◌, ◌==◌, ◌&&◌, ⊤, codes, List, [], ◌∷◌, ◌++◌, Option, None, Some, Result, Ok, Err, String, Vec, map, if◌then◌else◌}
use Rattle.std.specs.Global.{Global}
use Rattle.std.specs.List.{FoldsTo}
use Rattle.std.specs.String.{string_bytes}
use Rattle.std.specs.IoError.{error_kind}
use Rattle.std.specs.declared.io.Error.{Error}
use Rattle.std.specs.declared.io.ErrorKind.TheVariants.{OutOfMemory}
use Rattle.clap.specs.Words.{Text}
use Rattle.pt_folder.specs.Runs.{GivesPiece, Reads}
use Rattle.pt_name.specs.Share.{ListsAs, Portion, begins_with}
use Rattle.pt_messages.specs.Reading.{FileWords}
use Rattle.pt_cli.specs.Lines.{line_fault, lines_from, next_number}
use Rattle.pt_cli.specs.declared.list_fault.BadLine.{BadLine}
use Rattle.pt_cli.specs.declared.list_fault.FileFault.{FileFault}
use Rattle.pt_cli.specs.declared.list_fault.FileFault.TheVariants as file
use Rattle.pt_cli.specs.declared.list_fault.LineFault.{LineFault}
use Rattle.pt_cli.specs.declared.list_fault.LineFault.TheVariants.{ByteOrderMark}
use Rattle.pt_cli.specs.declared.list_fault.LinesFault.{LinesFault}
use Rattle.pt_cli.specs.declared.list_fault.LinesFault.TheVariants as lines
use Rattle.pt_cli.specs.declared.listing.Untaken.{Untaken}
use Rattle.pt_cli.specs.declared.listing.Untaken.TheVariants as untaken
use Rattle.pt_host.specs.Machine.{MachineWords}
use Rattle.pt_host.specs.Told.{Tells, own_line}
use Rattle.pt_plan.specs.declared.fault.Fault.TheVariants.{Memory}

-- the number of a reason why a file's identifiers can't be had
abbrev pub file_number : FileFault → ℕ
file_number (file.Line bad) = 1
file_number (file.Read error) = 2
file_number file.Memory = 3

-- why a file's identifiers can't be had, where its lines aren't read on
abbrev pub file_fault_of : LinesFault → FileFault
file_fault_of (lines.Line bad) = file.Line bad
file_fault_of lines.Memory = file.Memory

-- what lines come to: their identifiers, or the first line that is none
abbrev pub Identifiers : Type 0
Identifiers = Result (List (List ℕ)) BadLine

-- what a file comes to, by what was read of it: its identifiers, or why these can't be had
abbrev pub Answer : Type 0
Answer = Result (List (List ℕ)) FileFault

-- the texts of these, or that reason
abbrev pub texts_of : Result (Vec (String Global) Global) FileFault → Answer
texts_of (Ok ids) = Ok (map string_bytes ids.items)
texts_of (Err fault) = Err fault

-- U+FEFF
abbrev pub byte_order_mark : List ℕ
byte_order_mark = 239 ∷ 187 ∷ 191 ∷ []

-- why the line of this number is no identifier of a list, where this is against it as a line: the first doesn't begin with a mark
abbrev pub fault_with_mark : ℕ → List ℕ → Option LineFault → Option LineFault
fault_with_mark number id (Some fault) = Some fault
fault_with_mark number id None = if number == 1 && begins_with byte_order_mark id then Some ByteOrderMark else None

-- why the line of this number is no identifier of a list, if it is none
abbrev pub listed_fault : ℕ → List ℕ → Option LineFault
listed_fault number id = fault_with_mark number id (line_fault id)

-- these identifiers, and what the lines behind them come to
abbrev pub behind : List (List ℕ) → Identifiers → Identifiers
behind ids (Ok more) = Ok (ids ++ more)
behind ids (Err bad) = Err bad

-- what a line with this number comes to, by what is against it, and those behind it
abbrev pub read_before : ℕ → List ℕ → Option LineFault → Identifiers → Identifiers
read_before number id None more = behind (id ∷ []) more
read_before number id (Some fault) more = Err (record { number = number; fault = fault })

-- what lines come to, the first of which has this number
abbrev pub read_from : ℕ → List (List ℕ) → Identifiers
read_from number [] = Ok []
read_from number (id ∷ ids) = read_before number id (listed_fault number id) (read_from (next_number number) ids)

-- what the bytes of a file come to
abbrev pub identifiers_in : List ℕ → Identifiers
identifiers_in bytes = read_from 1 (lines_from [] bytes)

-- ---- byte by byte

-- where the reading stands: at the line of this number, of which this was read, behind these identifiers
pub record Reading : Type 0 where
  pub number : ℕ
  pub line : List ℕ
  pub ids : List (List ℕ)

-- what it comes to with these bytes
abbrev pub come_to : Reading → List ℕ → Identifiers
come_to at rest = behind at.ids (read_from at.number (lines_from at.line rest))

-- the line at hand is this, as a whole: it is an identifier, or that one which is none
abbrev pub EndsLine : Reading → List ℕ → Reading → Result (Unit {0}) FileFault → Type 0
EndsLine old id new (Ok done) = (listed_fault old.number id ≡ None)
    × (new ≡ record { number = next_number old.number; line = []; ids = old.ids ++ id ∷ [] })
EndsLine old id new (Err (file.Line bad)) = (listed_fault old.number id ≡ Some bad.fault) × (bad.number ≡ old.number)
EndsLine old id new (Err (file.Read error)) = ⊥
EndsLine old id new (Err file.Memory) = ⊤

-- bytes were read: all comes to the same; or to that line, whatever comes behind
abbrev pub TakesBytes : Reading → List ℕ → Reading → Result (Unit {0}) FileFault → Type 0
TakesBytes old bytes new (Ok done) = (rest : List ℕ) → come_to old (bytes ++ rest) ≡ come_to new rest
TakesBytes old bytes new (Err (file.Line bad)) = (rest : List ℕ) → come_to old (bytes ++ rest) ≡ Err bad
TakesBytes old bytes new (Err (file.Read error)) = ⊥
TakesBytes old bytes new (Err file.Memory) = ⊤

-- the file is at its end: this is what it comes to
abbrev pub TakesEnd : Reading → Answer → Type 0
TakesEnd at (Ok ids) = come_to at [] ≡ Ok ids
TakesEnd at (Err (file.Line bad)) = come_to at [] ≡ Err bad
TakesEnd at (Err (file.Read error)) = ⊥
TakesEnd at (Err file.Memory) = ⊤

-- ---- block by block

-- a read into the room for a block gave a piece, which stands behind what was read before
abbrev pub ReadsMore : {F : Type 0} → (F → List ℕ → Result ℕ Error → F → Type 0) → F × List ℕ → List ℕ → F × List ℕ → Type 0
ReadsMore reads old piece new = GivesPiece reads 8192 old.0 piece new.0 × (new.1 ≡ old.1 ++ piece)

-- why reading ended behind these bytes, with this answer: a read gave none, and they are identifiers, or not; a line is no identifier,
-- whatever comes behind; a read failed; or memory was wanting
abbrev pub EndsReading : {F : Type 0} → (F → List ℕ → Result ℕ Error → F → Type 0) → F × List ℕ → F → Answer → Type 0
EndsReading reads last new (Ok ids) = Reads reads 8192 last.0 (Ok 0) new × (identifiers_in last.1 ≡ Ok ids)
EndsReading reads last new (Err (file.Line bad)) = (Reads reads 8192 last.0 (Ok 0) new × (identifiers_in last.1 ≡ Err bad))
    ⊎ ((rest : List ℕ) → identifiers_in (last.1 ++ rest) ≡ Err bad)
EndsReading reads last new (Err (file.Read error)) = Reads reads 8192 last.0 (Err error) new
EndsReading reads last new (Err file.Memory) = ⊤

-- a file was read piece by piece, and this is the answer
pub record ReadsIdentifiers {F : Type 0} (reads : F → List ℕ → Result ℕ Error → F → Type 0) (old new : F) (answer : Answer) : Type 0 where
  pub pieces : List (List ℕ)
  pub last : F × List ℕ
  pub read : FoldsTo (ReadsMore reads) (old, []) pieces last
  pub ends : EndsReading reads last new answer

-- the same where the file was to be opened first
abbrev pub ReadsOpened : {F : Type 0} → (F → List ℕ → Result ℕ Error → F → Type 0) → Result F Error → Answer → Type 0
ReadsOpened {F} reads (Ok opened) answer = (rest : F) × ReadsIdentifiers reads opened rest answer
ReadsOpened reads (Err error) answer = answer ≡ Err (file.Read error)

-- the file at this path was opened and read
abbrev pub ReadsList : FileWords → Text → Answer → Type 0
ReadsList files path answer = (opened : Result files.File Error) × files.opens path opened × ReadsOpened files.reads opened answer

-- ---- the share

-- the share, whose list has just these identifiers
abbrev pub IsListing : List (List ℕ) → Portion → Portion → Type 0
IsListing lines share taken = (ids : List (List ℕ)) × ListsAs ids lines
    × (taken ≡ record share { list = Some ids })

-- the share takes these identifiers, or memory was wanting
abbrev pub TakesIdentifiers : List (List ℕ) → Portion → Result Portion Untaken → Type 0
TakesIdentifiers lines share (Ok taken) = IsListing lines share taken
TakesIdentifiers lines share (Err untaken.Memory) = ⊤
TakesIdentifiers lines share (Err (untaken.Refused line)) = ⊥

-- a line that begins with the program's name
abbrev pub IsOwnLine : List ℕ → Type 0
IsOwnLine line = (rest : List ℕ) × (line ≡ codes "pairtree2ocfl: " ++ rest)

-- why there is no share where a file's identifiers can't be had: a line that is none is refused, and so is a file that can't be read, by a line
-- that says so; and want of memory is another
abbrev pub IsUnread : FileFault → Untaken → Type 0
IsUnread fault untaken.Memory = ⊤
IsUnread (file.Line bad) (untaken.Refused line) = IsOwnLine (string_bytes line)
IsUnread (file.Read error) (untaken.Refused line) = (error_kind error ≢ OutOfMemory) × IsOwnLine (string_bytes line)
IsUnread file.Memory (untaken.Refused line) = ⊥

-- the share takes what a file came to, or this is why not
abbrev pub TakesAnswer : Answer → Portion → Result Portion Untaken → Type 0
TakesAnswer (Ok lines) share taken = TakesIdentifiers lines share taken
TakesAnswer (Err fault) share (Ok taken) = ⊥
TakesAnswer (Err fault) share (Err why) = IsUnread fault why

-- the same of the file of this path, which is read; without a list the share stays
abbrev pub TakesList : FileWords → Option Text → Portion → Result Portion Untaken → Type 0
TakesList files None share taken = taken ≡ Ok share
TakesList files (Some path) share taken = (answer : Answer) × ReadsList files path answer × TakesAnswer answer share taken

-- why there is no share is told, and nothing else is asked of the machine: a refusal, or want of memory
abbrev pub IsUntaken : {H : Type 0} → MachineWords H → Untaken → H → H → ℕ → Type 0
IsUntaken machine (untaken.Refused line) old new status = (status ≡ 2) × Tells machine (string_bytes line) old new
IsUntaken machine untaken.Memory old new status = (status ≡ 3) × Tells machine (own_line Memory) old new

-- that is made with the share, if there is one
abbrev pub MakesListed : {H : Type 0} → MachineWords H → (Portion → H → H → ℕ → Type 0) → Result Portion Untaken → H → H → ℕ → Type 0
MakesListed machine makes (Ok share) old new status = makes share old new status
MakesListed machine makes (Err why) old new status = IsUntaken machine why old new status
