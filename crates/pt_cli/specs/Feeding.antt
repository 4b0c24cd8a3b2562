-- How the lines of an input are named byte by byte.
use Rattle.std.specs.Prelude.{ℕ, ◌≡◌, ◌==◌, ⊤, nat_lt, List, [], ◌∷◌, ◌++◌, length, Option, None, Some, Result, Ok, Err, if◌then◌else◌}
use Rattle.std.specs.List.{fold}
use Rattle.std.specs.Io.BufRead.{strip_last}
use Rattle.std.specs.Io.KnownBytes.{Appends, Keeps}
use Rattle.pt_tree.specs.Log.{AppendsFront}
use Rattle.pt_cli.specs.Lines.{line_fault, next_number}
use Rattle.pt_cli.specs.NameList.{names_line}
use Rattle.pt_cli.specs.declared.command.NamesArgs.{NamesArgs}
use Rattle.pt_cli.specs.declared.list_fault.BadLine.{BadLine}
use Rattle.pt_cli.specs.declared.list_fault.LineFault.{LineFault}
use Rattle.pt_cli.specs.declared.list_fault.LineFault.TheVariants.{TooLong}
use Rattle.pt_cli.specs.declared.list_fault.ListFault.{ListFault}
use Rattle.pt_cli.specs.declared.list_fault.ListFault.TheVariants as list

-- where it stands: at the line of this number, of which this was read, behind these names
pub record Fed : Type 0 where
  pub number : ℕ
  pub line : List ℕ
  pub text : List ℕ

-- where it ended, behind these names, at a line that is no identifier
pub record Stopped : Type 0 where
  pub text : List ℕ
  pub bad : BadLine

-- the line at hand is no identifier
abbrev pub stopped_by : Fed → LineFault → Stopped
stopped_by at fault = record { text = at.text; bad = record { number = at.number; fault = fault } }

-- the line at hand is this, as a whole, and this is against it, if anything is
abbrev pub ended_by : NamesArgs → Fed → List ℕ → Option LineFault → Result Fed Stopped
ended_by asked at id (Some fault) = Err (stopped_by at fault)
ended_by asked at id None =
    Ok (record { number = next_number at.number; line = []; text = at.text ++ names_line asked id })

-- the line at hand is this, as a whole
abbrev pub ended : NamesArgs → Fed → List ℕ → Result Fed Stopped
ended asked at id = ended_by asked at id (line_fault id)

-- a byte is read that isn't a LF: the line at hand may be too long with it, whatever comes
abbrev pub longer : Fed → ℕ → Result Fed Stopped
longer at byte =
    if nat_lt 65536 (length at.line) then Err (stopped_by at TooLong)
    else Ok (record at { line = at.line ++ byte ∷ [] })

-- a byte is read
abbrev pub fed_byte : NamesArgs → Fed → ℕ → Result Fed Stopped
fed_byte asked at byte = if byte == 10 then ended asked at (strip_last 13 at.line) else longer at byte

-- the same, unless it has ended
abbrev pub fed_step : NamesArgs → Result Fed Stopped → ℕ → Result Fed Stopped
fed_step asked (Ok at) byte = fed_byte asked at byte
fed_step asked (Err stop) byte = Err stop

-- bytes are read
abbrev pub fed : NamesArgs → Result Fed Stopped → List ℕ → Result Fed Stopped
fed asked at bytes = fold (fed_step asked) at bytes

-- the input is at its end: what was read of the line at hand is a line, if it isn't empty
abbrev pub finished : NamesArgs → Fed → Result Fed Stopped
finished asked at = if length at.line == 0 then Ok at else ended asked at at.line

-- it came to this, and stands here; or want of memory broke it off
abbrev pub IsFed : Result Fed Stopped → Fed → Result (Unit {0}) ListFault → Type 0
IsFed expected at (Ok done) = expected ≡ Ok at
IsFed expected at (Err (list.Line bad)) = expected ≡ Err (record { text = at.text; bad = bad })
IsFed expected at (Err list.Read) = ⊥
IsFed expected at (Err list.Write) = ⊥
IsFed expected at (Err list.Memory) = ⊤

-- the names that it came to
abbrev pub text_in : Result Fed Stopped → List ℕ
text_in (Ok at) = at.text
text_in (Err stop) = stop.text

-- it came to this, and its names were written to an output; it stands here, behind none
abbrev pub IsPut : Result Fed Stopped → Fed → Option (List ℕ) → Option (List ℕ)
    → Result (Unit {0}) ListFault → Type 0
IsPut expected at old new (Ok done) =
    (expected ≡ Ok (record at { text = text_in expected })) × (at.text ≡ []) × Appends old new (text_in expected)
IsPut expected at old new (Err (list.Line bad)) =
    (expected ≡ Err (record { text = text_in expected; bad = bad })) × Appends old new (text_in expected)
IsPut expected at old new (Err list.Read) = ⊥
IsPut expected at old new (Err list.Write) = AppendsFront old new (text_in expected)
IsPut expected at old new (Err list.Memory) = Keeps old new

-- the names before the line at hand were written to an output, and it stands where it did, behind none
abbrev pub Puts : Fed → Fed → Option (List ℕ) → Option (List ℕ) → Result (Unit {0}) ListFault → Type 0
Puts before after old new (Ok done) = (after ≡ record before { text = [] }) × Appends old new before.text
Puts before after old new (Err list.Write) = AppendsFront old new before.text
Puts before after old new (Err _) = ⊥
