-- The lines of an audit's log: each one compact JSON object with its keys in byte order, and LF.
use Rattle.std.specs.Prelude.{ℕ, Bool, cond, List, [], ◌∷◌, ◌++◌, codes}
use Rattle.pt_audit.specs.declared.counts.Counts.{Counts}
use Rattle.pt_audit.specs.declared.compare_by.CompareBy.{CompareBy}
use Rattle.pt_audit.specs.declared.compare_by.CompareBy.TheVariants.{Bytes, Lengths}
use Rattle.pt_compare.specs.Difference.{why_word}
use Rattle.pt_compare.specs.declared.difference.Comparison.{Comparison}
use Rattle.pt_compare.specs.declared.difference.Comparison.TheVariants as finding
use Rattle.pt_compare.specs.declared.difference.Why.{Why}
use Rattle.pt_plan.specs.Lines.{number_member, text_member}
use Rattle.pt_plan.specs.declared.lines.ToldObject.{ToldObject}
use Rattle.pt_tree.specs.Path.{Path, joined}
use Rattle.serde_json.specs.Data.{Data, no_members}
use Rattle.serde_json.specs.Data as json
use Rattle.serde_json.specs.Written.{compact_text}

-- an object of the store, as a line tells of it
pub record Told : Type 0 where
  pub at : Path
  pub bytes : ℕ
  pub empty : ℕ
  pub files : ℕ
  pub id : List ℕ
  pub to : Path

-- what a line tells: the object stands, by its bytes or by names and lengths, nothing stands at its place, it differs there, or the audit ended, of
-- which by lengths the second is told
pub data Line : Type 0 where
  Same : Told → Line
  Alike : Told → Line
  Absent : Told → Line
  Differs : Told → (path : Path) → (why : List ℕ) → Line
  End : (same absent differs skipped : ℕ) → Line
  QuickEnd : (alike absent differs skipped : ℕ) → Line

-- the word of why an object differs: that it is a twin, or else what is wrong at the path
abbrev pub why_told : Bool → Why → List ℕ
why_told twin why = cond twin (codes "twin") (why_word why)

-- the line of an object that stands, by what was compared
abbrev pub standing_by : CompareBy → Told → Line
standing_by Bytes told = Same told
standing_by Lengths told = Alike told

-- the line of an object, by what was compared, whether it is a twin, and what was found at its place
abbrev pub line_by : CompareBy → Told → Bool → Comparison → Line
line_by by told twin finding.Same = standing_by by told
line_by by told twin finding.Absent = Absent told
line_by by told twin (finding.Differs difference) = Differs told difference.path (why_told twin difference.why)

-- the end line, by what was compared, with these counts
abbrev pub end_by : CompareBy → Counts → Line
end_by Bytes counts = End counts.same counts.absent counts.differs counts.skipped
end_by Lengths counts = QuickEnd counts.same counts.absent counts.differs counts.skipped

-- the line as a tree of JSON
abbrev pub line_tree : Line → Data
line_tree (Same told) = json.object
    (text_member (codes "as") (codes "same")
    (text_member (codes "at") (joined told.at)
    (number_member (codes "bytes") told.bytes
    (number_member (codes "empty") told.empty
    (number_member (codes "files") told.files
    (text_member (codes "id") told.id
    (text_member (codes "to") (joined told.to) no_members)))))))
line_tree (Alike told) = json.object
    (text_member (codes "as") (codes "alike")
    (text_member (codes "at") (joined told.at)
    (number_member (codes "files") told.files
    (text_member (codes "id") told.id
    (text_member (codes "to") (joined told.to) no_members)))))
line_tree (Absent told) = json.object
    (text_member (codes "as") (codes "absent")
    (text_member (codes "at") (joined told.at)
    (text_member (codes "id") told.id
    (text_member (codes "to") (joined told.to) no_members))))
line_tree (Differs told path why) = json.object
    (text_member (codes "as") (codes "differs")
    (text_member (codes "at") (joined told.at)
    (text_member (codes "id") told.id
    (text_member (codes "path") (joined path)
    (text_member (codes "to") (joined told.to)
    (text_member (codes "why") why no_members))))))
line_tree (End same absent differs skipped) = json.object
    (number_member (codes "absent") absent
    (text_member (codes "as") (codes "end")
    (number_member (codes "differs") differs
    (number_member (codes "same") same
    (number_member (codes "skip") skipped no_members)))))
line_tree (QuickEnd alike absent differs skipped) = json.object
    (number_member (codes "absent") absent
    (number_member (codes "alike") alike
    (text_member (codes "as") (codes "end")
    (number_member (codes "differs") differs
    (number_member (codes "skip") skipped no_members)))))

-- the compact text of the line, and LF
abbrev pub line_text : Line → List ℕ
line_text line = compact_text (line_tree line) ++ 10 ∷ []

-- what the line of an object tells, as a survey has it
abbrev pub told_of : ToldObject → Told
told_of object = record {
  at = object.at;
  bytes = object.bytes;
  empty = object.empty;
  files = object.files;
  id = object.id.now;
  to = object.to.now;
}
