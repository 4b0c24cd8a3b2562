-- How the bytes of an input are cut into lines, and which line is an identifier.
use Rattle.std.specs.Prelude.{
  ℕ,
  ◌+◌,
  ◌-◌,
  ◌^◌,
  ◌<◌,
  ◌≡◌,
  ◌==◌,
  ⊤,
  min,
  nat_lt,
  Bool,
  true,
  false,
  List,
  [],
  ◌∷◌,
  ◌++◌,
  length,
  Option,
  None,
  Some,
  Result,
  Ok,
  Err,
  if◌then◌else◌,
}
use Rattle.std.specs.Io.BufRead.{strip_last}
use Rattle.std.specs.Str.{is_utf8}
use Rattle.pt_cli.specs.declared.list_fault.LineFault.{LineFault}
use Rattle.pt_cli.specs.declared.list_fault.LineFault.TheVariants as line
use Rattle.pt_cli.specs.declared.list_fault.LinesFault.{LinesFault}
use Rattle.pt_cli.specs.declared.list_fault.LinesFault.TheVariants as lines

-- the number of a reason against a line
abbrev pub line_fault_number : LineFault → ℕ
line_fault_number line.TooLong = 1
line_fault_number line.Empty = 2
line_fault_number line.NotUtf8 = 3
line_fault_number line.ByteOrderMark = 4

-- why a line is no identifier, if it is none
abbrev pub line_fault : List ℕ → Option LineFault
line_fault id =
    if nat_lt 65536 (length id) then Some line.TooLong
    else if length id == 0 then Some line.Empty
    else if is_utf8 id then None else Some line.NotUtf8

-- the lines of an input, of whose first this front was read before: a line ends with a LF, and neither that nor a CR right before it
-- is of the line; what stands behind the last LF is a line where it isn't empty
abbrev pub lines_from : List ℕ → List ℕ → List (List ℕ)
lines_from front [] = if length front == 0 then [] else front ∷ []
lines_from front (b ∷ bs) =
    if b == 10 then strip_last 13 front ∷ lines_from [] bs else lines_from (front ++ b ∷ []) bs

-- the same without what stands behind the last LF
abbrev pub whole_lines_from : List ℕ → List ℕ → List (List ℕ)
whole_lines_from front [] = []
whole_lines_from front (b ∷ bs) =
    if b == 10 then strip_last 13 front ∷ whole_lines_from [] bs else whole_lines_from (front ++ b ∷ []) bs

-- the number of the line behind that of a number, as far as numbers of 64 bits go
abbrev pub next_number : ℕ → ℕ
next_number number = min (number + 1) (2 ^ 64 - 1)

-- where the reading of lines stands: at the line of this number, of which this was read
pub record AtLine : Type 0 where
  pub number : ℕ
  pub line : List ℕ

-- a byte is read: the line at hand is whole with it, or has one byte more, or is too long whatever comes; or memory is wanting
abbrev pub TakesByte : AtLine → ℕ → AtLine → Result Bool LinesFault → Type 0
TakesByte old byte new (Ok true) = ((byte == 10) ≡ true) × (new ≡ record old { line = strip_last 13 old.line })
TakesByte old byte new (Ok false) =
    ((byte == 10) ≡ false) × (nat_lt 65536 (length old.line) ≡ false) × (new ≡ record old { line = old.line ++ byte ∷ [] })
TakesByte old byte new (Err (lines.Line bad)) =
    ((byte == 10) ≡ false) × (65536 < length old.line) × (new ≡ old) × (bad ≡ record { number = old.number; fault = line.TooLong })
TakesByte old byte new (Err lines.Memory) = ⊤
