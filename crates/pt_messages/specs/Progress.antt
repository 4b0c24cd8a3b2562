-- What progress shows: how far a run, an audit or a check is, how fast it was, and how long it may take.
use Rattle.std.specs.Prelude.{◌≡◌, ℕ, ◌+◌, ◌-◌, ◌*◌, ◌/◌, ◌^◌, List, [], ◌∷◌, ◌++◌, ◌==◌, Option, None, Some, codes, decimal, if◌then◌else◌, max, min, take}
use Rattle.std.specs.Str.{chars, encode_utf8_all}
use Rattle.pt_messages.specs.Escaped.{escaped}
use Rattle.pt_messages.specs.Numbers.{counted_text, grouped, size_text, time_text}
use Rattle.pt_messages.specs.declared.progress.Moment.{Moment}
use Rattle.pt_messages.specs.declared.tally.Seen.{Seen}
use Rattle.pt_messages.specs.declared.watch.Words.{Words}
use Rattle.pt_messages.specs.declared.watch.Words.TheVariants.{Audit, BothWays, Check, Run}
use Rattle.pt_audit.specs.CompareBy.{fitting_word}
use Rattle.pt_audit.specs.declared.compare_by.CompareBy.{CompareBy}
use Rattle.pt_audit.specs.declared.compare_by.CompareBy.TheVariants.{Bytes, Lengths}

-- a number, or the largest of 64 bits where it is more
abbrev pub bounded : ℕ → ℕ
bounded n = min n (2 ^ 64 - 1)

-- how many lines there are of all kinds
abbrev pub line_count : Seen → ℕ
line_count seen = bounded (bounded (seen.done + seen.present) + seen.skipped)

-- what is counted: the lines of a run or an audit, the files and folders of a check
abbrev pub count_so_far : Words → Seen → ℕ
count_so_far Check seen = seen.met
count_so_far _ seen = line_count seen

-- how much there is a second, where this passed in so many milliseconds
abbrev pub per_second : ℕ → ℕ → ℕ
per_second n passed = bounded (n * 1000) / max passed 1

-- the lines of each kind, of which the first two go by these words
abbrev pub lines_text : Seen → List ℕ → List ℕ → List ℕ
lines_text seen carried other = grouped seen.done ++ (32 ∷ carried ++ (codes ", " ++ (grouped seen.present
    ++ (32 ∷ other ++ (codes ", " ++ (grouped seen.skipped ++ codes " skipped"))))))

-- what is said of the objects of an audit that don't fit
abbrev pub unfit_word : CompareBy → List ℕ
unfit_word Bytes = codes "not the same"
unfit_word Lengths = codes "not alike"

-- what is counted, as its words have it
abbrev pub seen_text : Words → Seen → List ℕ
seen_text Run seen = lines_text seen (codes "done") (codes "present")
seen_text Check seen = counted_text seen.met (codes "file or folder") (codes "files and folders")
seen_text (Audit by) seen = lines_text seen (fitting_word by) (unfit_word by)
seen_text (BothWays by) seen = lines_text seen (fitting_word by) (unfit_word by)

-- of so many that are expected so many are done: in percent, not rounded up, and the time that is left at the speed so far, unless none is done
abbrev pub share_text : ℕ → ℕ → ℕ → List ℕ
share_text done expected passed = if done == 0 then decimal (bounded (done * 100) / max expected 1) ++ codes " %, "
    else decimal (bounded (done * 100) / max expected 1)
    ++ (codes " %, " ++ (time_text (bounded (passed * (expected - done)) / done) ++ codes " left, "))

-- where that is known, of how many are expected, no more than these are done
abbrev pub ahead_text : Option ℕ → ℕ → ℕ → List ℕ
ahead_text None count passed = []
ahead_text (Some expected) count passed = share_text (min count expected) expected passed

-- the time that passed, how many of what is counted and how many bytes a second, the bytes that were read, and what is read just now
abbrev pub speed_text : Moment → List ℕ → List ℕ
speed_text now at = time_text now.passed ++ (codes ", " ++ (grouped (per_second (count_so_far now.words now.seen) now.passed)
    ++ (codes "/s, " ++ (size_text (per_second now.seen.bytes now.passed) ++ (codes "/s, " ++ (size_text now.seen.bytes
    ++ (codes " read, at " ++ escaped at)))))))

-- all of it on one line, what matters most in front
abbrev pub progress_text : Moment → List ℕ → List ℕ
progress_text now at = ahead_text now.expected (count_so_far now.words now.seen) now.passed
    ++ (seen_text now.words now.seen ++ (codes ", " ++ speed_text now at))

-- a summary: the lines, and how long it took
abbrev pub summary_text : List ℕ → ℕ → List ℕ
summary_text lines passed = lines ++ (codes ", " ++ time_text passed)

-- a line, no longer than one less than the columns of the terminal, where these are known
abbrev pub cut_line : Option ℕ → List ℕ → List ℕ
cut_line None line = line
cut_line (Some columns) line = encode_utf8_all (take (columns - 1) (chars line))

-- what writes a line over the one that a terminal shows: to its begin, with no wrapping meanwhile, and what is left of the old one taken away
abbrev pub over_text : Option ℕ → List ℕ → List ℕ
over_text columns line = codes "\r\u{1b}[?7l" ++ (cut_line columns line ++ codes "\u{1b}[K\u{1b}[?7h")

-- a text tells how far a run, an audit or a check with these words is after so many milliseconds; what a tally holds and where it reads, no clause knows
abbrev pub IsProgress : Words → Option ℕ → ℕ → List ℕ → Type 0
IsProgress words expected passed text = (seen : Seen) × (at : List ℕ)
    × (text ≡ progress_text (record { words = words; expected = expected; seen = seen; passed = passed }) at)

-- a text is a summary after so many milliseconds
abbrev pub IsSummary : ℕ → List ℕ → Type 0
IsSummary passed text = (lines : List ℕ) × (text ≡ summary_text lines passed)
