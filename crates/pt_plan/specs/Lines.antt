-- The lines of a run's log: each one compact JSON object with its keys in byte order, and LF.
use Rattle.std.specs.Prelude.{ℕ, Bool, true, false, List, [], ◌∷◌, ◌++◌, codes, count_by, flat_map, length, sum_by, take}
use Rattle.pt_name.specs.Place.{place_of}
use Rattle.pt_object.specs.FilePaths.{File}
use Rattle.pt_tree.specs.Forest.{Forest}
use Rattle.pt_tree.specs.Path.{Path, joined}
use Rattle.pt_tree.specs.Tree.{Tree}
use Rattle.pt_walk.specs.Cause.{cause_word}
use Rattle.pt_walk.specs.Object.{empties_of}
use Rattle.pt_walk.specs.declared.cause.Cause.{Cause}
use Rattle.serde_json.specs.Data.{Data, string, number, unsigned, Members, member, no_members}
use Rattle.serde_json.specs.Data as json
use Rattle.serde_json.specs.Written.{compact_text}
use Rattle.pt_plan.specs.Carried.{Marked, marked}
use Rattle.pt_plan.specs.Items.{Interior, Named, Outcome, Fails, Holds, PairtreeObject, Skip, Verdict, outcome}
use Rattle.pt_plan.specs.Job.{Job}

-- what a line tells: an object was carried, its place was taken, something was passed over, or the run ended
pub data Line : Type 0 where
  Done : (at : Path) → (bytes empty files : ℕ) → (id : List ℕ) → (to : Path) → Line
  Present : (at : Path) → (id : List ℕ) → (to : Path) → Line
  Skipped : (at : Path) → (why : Cause) → Line
  End : (done present skipped : ℕ) → Line

-- ---- the lines of the items

-- the lengths of the files together
abbrev pub bytes_in_all : List File → ℕ
bytes_in_all = sum_by (λ file. length file.1)

-- an object whose place isn't taken is carried, or passed over for a cause at its site
abbrev pub line_by_outcome : Path → List ℕ → PairtreeObject → Path → Outcome → Line
line_by_outcome site id object place (Fails why) = Skipped site why
line_by_outcome site id object place (Holds files) =
    Done object.at (bytes_in_all files) (empties_of object.inside) (length files) id place

-- of an object: a taken place is told before any cause
abbrev pub line_of_object : Job → Path → List ℕ → PairtreeObject → Bool → Line
line_of_object job site id object true = Present object.at id (place_of job.tuples id)
line_of_object job site id object false =
    line_by_outcome site id object (place_of job.tuples id) (outcome job.limits object)

-- of an item with this verdict
abbrev pub line_by_verdict : Job → Path → Bool → Verdict → List Line
line_by_verdict job path taken Interior = []
line_by_verdict job path taken (Skip why) = Skipped path why ∷ []
line_by_verdict job path taken (Named id object) = line_of_object job path id object taken ∷ []

-- the line of an item: none, if it only leads on; a taken place is told before any cause
abbrev pub line_of : Job → Marked → List Line
line_of job m = line_by_verdict job m.0.path m.1 m.0.verdict

-- the lines of the first k items
abbrev pub lines : Job → Forest → Tree → ℕ → List Line
lines job source root k = flat_map (line_of job) (take k (marked job source root))

-- the lines of all items
abbrev pub all_lines : Job → Forest → Tree → List Line
all_lines job source root = flat_map (line_of job) (marked job source root)

-- ---- the end line

-- the line tells of an object that was carried
abbrev pub is_done : Line → Bool
is_done (Done at bytes empty files id to) = true
is_done (Present at id to) = false
is_done (Skipped at why) = false
is_done (End done present skipped) = false

-- the line tells of a place that was taken
abbrev pub is_present : Line → Bool
is_present (Done at bytes empty files id to) = false
is_present (Present at id to) = true
is_present (Skipped at why) = false
is_present (End done present skipped) = false

-- the line tells of something that was passed over
abbrev pub is_skipped : Line → Bool
is_skipped (Done at bytes empty files id to) = false
is_skipped (Present at id to) = false
is_skipped (Skipped at why) = true
is_skipped (End done present skipped) = false

-- how many of the lines are of each kind
abbrev pub end_line : List Line → Line
end_line told = End (count_by is_done told) (count_by is_present told) (count_by is_skipped told)

-- ---- their texts

-- a member that is a text
abbrev pub text_member : List ℕ → List ℕ → Members → Members
text_member key text others = member key (string text) others

-- a member that is a number
abbrev pub number_member : List ℕ → ℕ → Members → Members
number_member key n others = member key (number (unsigned n)) others

-- the line as a tree of JSON
abbrev pub line_tree : Line → Data
line_tree (Done at bytes empty files id to) = json.object
    (text_member (codes "as") (codes "done")
    (text_member (codes "at") (joined at)
    (number_member (codes "bytes") bytes
    (number_member (codes "empty") empty
    (number_member (codes "files") files
    (text_member (codes "id") id
    (text_member (codes "to") (joined to) no_members)))))))
line_tree (Present at id to) = json.object
    (text_member (codes "as") (codes "present")
    (text_member (codes "at") (joined at)
    (text_member (codes "id") id
    (text_member (codes "to") (joined to) no_members))))
line_tree (Skipped at why) = json.object
    (text_member (codes "as") (codes "skip")
    (text_member (codes "at") (joined at)
    (text_member (codes "cause") (cause_word why) no_members)))
line_tree (End done present skipped) = json.object
    (text_member (codes "as") (codes "end")
    (number_member (codes "done") done
    (number_member (codes "present") present
    (number_member (codes "skip") skipped no_members))))

-- the compact text of the line, and LF
abbrev pub line_text : Line → List ℕ
line_text line = compact_text (line_tree line) ++ 10 ∷ []

-- what the log of a run has of the first k items
abbrev pub text : Job → Forest → Tree → ℕ → List ℕ
text job source root k = flat_map line_text (lines job source root k)

-- the log of a whole run: the lines of all items, and the end line, which counts them by kind
abbrev pub log_of : Job → Forest → Tree → List ℕ
log_of job source root =
    flat_map line_text (all_lines job source root)
    ++ line_text (end_line (all_lines job source root))
