-- How many lines of each kind a log has after a line more.
use Rattle.std.specs.List.{position}
use Rattle.std.specs.Option.{option_map_or}
use Rattle.std.specs.Prelude.{ℕ, ◌+◌, ◌||◌, List, option_and_then, codes, if◌then◌else◌, replicate, slice_index, slice_set, Option, unwrap_or}
use Rattle.std.specs.Str.{bytes_eq}
use Rattle.pt_messages.specs.Counts.{causes, reasons, troubles}
use Rattle.pt_messages.specs.Cuts.{Parts, cut_at, cut_first, cut_last, number_in, without_end, without_front}
use Rattle.pt_messages.specs.Progress.{bounded}
use Rattle.pt_messages.specs.declared.counted.LineCounts.{LineCounts}
use Rattle.pt_messages.specs.declared.line.LineKind.{LineKind}
use Rattle.pt_messages.specs.declared.line.LineKind.TheVariants as kind

-- no lines
abbrev pub no_lines : LineCounts
no_lines = record {
  well = 0;
  files = 0;
  bytes = 0;
  present = 0;
  absent = 0;
  extra = 0;
  stray = 0;
  differs = 0;
  skips = 0;
  told = 0;
  differing = replicate 5 0;
  skipped = replicate 9 0;
  kinds = replicate 20 0;
}

-- the word under "as", which comes first, and what follows its `"` (34)
abbrev pub kind_and_rest : List ℕ → Option Parts
kind_and_rest line = option_and_then (cut_at 34) (without_front (codes "{\"as\":\"") line)

-- the number that comes before the next `,` (44)
abbrev pub number_before_comma : List ℕ → ℕ
number_before_comma text = option_map_or (λ (parts : Parts). unwrap_or (number_in parts.0) 0) (cut_at 44 text) 0

-- the number behind a key, 0 where there is none
abbrev pub number_behind : List ℕ → List ℕ → ℕ
number_behind key rest = option_map_or (λ (parts : Parts). number_before_comma parts.1) (cut_first key rest) 0

-- what ends a line: the text of its last key
abbrev pub last_text : List ℕ → List ℕ
last_text rest = option_map_or (λ (parts : Parts). unwrap_or (without_end (codes "\"}\n") parts.1) parts.1) (cut_last (codes ":\"") rest) (codes "")

-- of which kind a line is, by its word
abbrev pub kind_named : List ℕ → LineKind
kind_named word = if bytes_eq word (codes "done") || bytes_eq word (codes "same") || bytes_eq word (codes "alike") then kind.Carried
    else (if bytes_eq word (codes "present") then kind.Present
    else (if bytes_eq word (codes "absent") then kind.Absent
    else (if bytes_eq word (codes "extra") then kind.Extra
    else (if bytes_eq word (codes "stray") then kind.Stray
    else (if bytes_eq word (codes "differs") then kind.Differs
    else (if bytes_eq word (codes "skip") then kind.Skipped
    else (if bytes_eq word (codes "end") then kind.End
    else kind.Trouble)))))))

-- one more
abbrev pub one_more : ℕ → ℕ
one_more count = bounded (count + 1)

-- the counts of words with one more of this, if it is one of them
abbrev pub with_word : List (List ℕ) → List ℕ → List ℕ → List ℕ
with_word words word counts =
    option_map_or (λ at. slice_set counts at (one_more (slice_index counts at))) (position (λ known. bytes_eq known word) words) counts

-- the counts with one more line of a kind, whose word is this and behind that the rest
abbrev pub with_kind : LineKind → Parts → LineCounts → LineCounts
with_kind kind.Carried line counts = record counts {
  well = one_more counts.well;
  bytes = bounded (counts.bytes + number_behind (codes ",\"bytes\":") line.1);
  files = bounded (counts.files + number_behind (codes ",\"files\":") line.1);
}
with_kind kind.Present line counts = record counts { present = one_more counts.present }
with_kind kind.Absent line counts = record counts { absent = one_more counts.absent }
with_kind kind.Extra line counts = record counts { extra = one_more counts.extra }
with_kind kind.Stray line counts = record counts { stray = one_more counts.stray }
with_kind kind.Differs line counts = record counts {
  differs = one_more counts.differs;
  differing = with_word reasons (last_text line.1) counts.differing;
}
with_kind kind.Skipped line counts = record counts {
  skips = one_more counts.skips;
  skipped = with_word causes (last_text line.1) counts.skipped;
}
with_kind kind.End line counts = counts
with_kind kind.Trouble line counts = record counts {
  told = one_more counts.told;
  kinds = with_word troubles line.0 counts.kinds;
}

-- the counts with one more line
abbrev pub with_line : List ℕ → LineCounts → LineCounts
with_line line counts = option_map_or (λ (parts : Parts). with_kind (kind_named parts.0) parts counts) (kind_and_rest line) counts
