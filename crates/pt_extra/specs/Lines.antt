-- The lines that tell what a root has and its store lacks: each one compact JSON object with its keys in byte order, and LF.
use Rattle.std.specs.Prelude.{ℕ, List, [], ◌∷◌, ◌++◌, codes}
use Rattle.pt_audit.specs.declared.compare_by.CompareBy.{CompareBy}
use Rattle.pt_audit.specs.declared.compare_by.CompareBy.TheVariants.{Bytes, Lengths}
use Rattle.pt_extra.specs.declared.auditing.AuditCounts.{AuditCounts}
use Rattle.pt_plan.specs.Lines.{number_member, text_member}
use Rattle.pt_tree.specs.Path.{Path, joined}
use Rattle.serde_json.specs.Data.{Data, no_members}
use Rattle.serde_json.specs.Data as json
use Rattle.serde_json.specs.Written.{compact_text}

-- what is told of a path from the storage root on: it is no part of the root or of an object, or of an object that doesn't stand at its
-- place; or the folder there couldn't be listed whole, for this reason; or an object stands there which the store doesn't have
pub data ExtraFinding : Type 0 where
  Stray : (to : Path) → ExtraFinding
  Unlisted : (reason : List ℕ) → (to : Path) → ExtraFinding
  Extra : (id : List ℕ) → (to : Path) → ExtraFinding

-- the line as a tree of JSON
abbrev pub line_tree : ExtraFinding → Data
line_tree (Stray to) = json.object
    (text_member (codes "as") (codes "stray")
    (text_member (codes "to") (joined to) no_members))
line_tree (Unlisted reason to) = json.object
    (text_member (codes "as") (codes "stray")
    (text_member (codes "reason") reason
    (text_member (codes "to") (joined to) no_members)))
line_tree (Extra id to) = json.object
    (text_member (codes "as") (codes "extra")
    (text_member (codes "id") id
    (text_member (codes "to") (joined to) no_members)))

-- the compact text of the line, and LF
abbrev pub line_text : ExtraFinding → List ℕ
line_text finding = compact_text (line_tree finding) ++ 10 ∷ []

-- the lines of findings, one after another
abbrev pub texts : List ExtraFinding → List ℕ
texts [] = []
texts (finding ∷ findings) = line_text finding ++ texts findings

-- the end line, by what was compared, with these counts, as a tree of JSON
abbrev pub last_tree : CompareBy → AuditCounts → Data
last_tree Bytes told = json.object
    (number_member (codes "absent") told.counts.absent
    (text_member (codes "as") (codes "end")
    (number_member (codes "differs") told.counts.differs
    (number_member (codes "extra") told.numbers.extra
    (number_member (codes "same") told.counts.same
    (number_member (codes "skip") told.counts.skipped
    (number_member (codes "stray") told.numbers.stray no_members)))))))
last_tree Lengths told = json.object
    (number_member (codes "absent") told.counts.absent
    (number_member (codes "alike") told.counts.same
    (text_member (codes "as") (codes "end")
    (number_member (codes "differs") told.counts.differs
    (number_member (codes "extra") told.numbers.extra
    (number_member (codes "skip") told.counts.skipped
    (number_member (codes "stray") told.numbers.stray no_members)))))))

-- its compact text, and LF
abbrev pub last_text : CompareBy → AuditCounts → List ℕ
last_text by told = compact_text (last_tree by told) ++ 10 ∷ []
