-- What a turn tells in a run's log, and how it is counted.
use Rattle.std.specs.Prelude.{◌≡◌, ◌⊎◌, ℕ, ◌+◌, List, ◌++◌, count_by, flat_map, Option, Result, Ok, Err, ⊤}
use Rattle.std.specs.Io.KnownBytes.{Appends}
use Rattle.pt_plan.specs.Lines.{Line, Done, Present, Skipped, End, end_line, is_done, is_present, is_skipped, line_text}
use Rattle.pt_tree.specs.Log.{AppendsFront}
use Rattle.pt_plan.specs.declared.fault.Fault.{Fault}
use Rattle.pt_state.specs.declared.job.Report.{Report}
use Rattle.pt_move.specs.declared.mover.Turn.{Turn}
use Rattle.pt_move.specs.declared.mover.Turn.TheVariants as turn

-- the lines are counted as before
abbrev pub SameLines : Report → Report → Type 0
SameLines old new = (new.done ≡ old.done) × (new.present ≡ old.present) × (new.skipped ≡ old.skipped)

-- the line is counted with those of its kind; the end line tells the numbers, and isn't counted itself
abbrev pub CountsLine : Line → Report → Report → Type 0
CountsLine (Done at bytes empty files id to) old new = (new.done ≡ old.done + 1)
    × (new.present ≡ old.present) × (new.skipped ≡ old.skipped)
CountsLine (Present at id to) old new = (new.done ≡ old.done) × (new.present ≡ old.present + 1)
    × (new.skipped ≡ old.skipped)
CountsLine (Skipped at why) old new = (new.done ≡ old.done) × (new.present ≡ old.present)
    × (new.skipped ≡ old.skipped + 1)
CountsLine (End done present skipped) old new = ((done ≡ old.done) × (present ≡ old.present)
    × (skipped ≡ old.skipped)) × SameLines old new

-- the log got this line
unfoldable pub GotLine : Line → Option (List ℕ) → Option (List ℕ) → Type 0
GotLine line before after = Appends before after (line_text line)

-- the log got a front of this line
unfoldable pub GotFront : Line → Option (List ℕ) → Option (List ℕ) → Type 0
GotFront line before after = AppendsFront before after (line_text line)

-- the log got nothing, and nothing is counted; or it got one line, whole, which is counted
unfoldable pub TellsLine : Option (List ℕ) → Option (List ℕ) → Report → Report → Type 0
TellsLine before after old new = ((after ≡ before) × SameLines old new)
    ⊎ ((line : Line) × (GotLine line before after × CountsLine line old new))

-- nothing is counted, and the log got nothing, or a front of one line
unfoldable pub TellsFront : Option (List ℕ) → Option (List ℕ) → Report → Report → Type 0
TellsFront before after old new = ((after ≡ before) ⊎ ((line : Line) × GotFront line before after))
    × SameLines old new

-- what the log got in one turn, by the answer: nothing, or one line that is counted; after a fault nothing, or a front of one line
abbrev pub Tells : {T : Type 0} → Option (List ℕ) → Option (List ℕ) → Report → Report
    → Result T Fault → Type 0
Tells before after old new (Ok x) = TellsLine before after old new
Tells before after old new (Err f) = TellsFront before after old new

-- where the run ended, its last line told the numbers, which stay
abbrev pub TellsEnd : Option (List ℕ) → Option (List ℕ) → Report → Report → Type 0
TellsEnd before after old new =
    GotLine (End old.done old.present old.skipped) before after × SameLines old new

-- so it did where the turn was the last
abbrev pub FinishTold : Turn → Option (List ℕ) → Option (List ℕ) → Report → Report → Type 0
FinishTold turn.Finished before after old new = TellsEnd before after old new
FinishTold turn.More before after old new = ⊤

-- the report counts these lines by their kind
abbrev pub IsReport : List Line → Report → Type 0
IsReport told counts = (count_by is_done told ≡ counts.done)
    × (count_by is_present told ≡ counts.present) × (count_by is_skipped told ≡ counts.skipped)

-- the log got lines, which the report counts
unfoldable pub HasTold : Option (List ℕ) → Option (List ℕ) → Report → Type 0
HasTold before after counts = (told : List Line)
    × (Appends before after (flat_map line_text told) × IsReport told counts)

-- the log of a whole run: lines, which the report counts, and the end line of these
unfoldable pub HasToldAll : Option (List ℕ) → Option (List ℕ) → Report → Type 0
HasToldAll before after counts = (told : List Line)
    × (Appends before after (flat_map line_text told ++ line_text (end_line told))
    × IsReport told counts)

-- the log of a run that a fault ended: lines, and a front of one more
unfoldable pub HasToldFront : Option (List ℕ) → Option (List ℕ) → Type 0
HasToldFront before after = (told : List Line)
    × ((last : Line) × AppendsFront before after (flat_map line_text told ++ line_text last))
