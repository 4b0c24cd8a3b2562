-- How many lines of each kind a log has, and how a record says that.
use Rattle.std.specs.List.{zip}
use Rattle.std.specs.Prelude.{◌≡◌, ℕ, List, [], ◌∷◌, codes}
use Rattle.serde_json.specs.Data.{number, unsigned, object, put, no_members}
use Rattle.pt_audit.specs.CompareBy.{fitting_word}
use Rattle.pt_audit.specs.declared.compare_by.CompareBy.{CompareBy}
use Rattle.pt_messages.specs.Members.{JsonMembers}
use Rattle.pt_messages.specs.declared.counted.LineCounts.{LineCounts}
use Rattle.pt_messages.specs.declared.counted.Totals.{Totals}
use Rattle.pt_messages.specs.declared.counted.Totals.TheVariants as total
use Rattle.pt_messages.specs.declared.watch.Words.{Words}
use Rattle.pt_messages.specs.declared.watch.Words.TheVariants.{Audit, BothWays, Check, Run}

-- counts with what a run, an audit or a check says itself in the place of what was counted of it
abbrev pub with_totals : Totals → LineCounts → LineCounts
with_totals (total.Run run) counts = record counts { well = run.done; present = run.present; skips = run.skips }
with_totals (total.Audit audit) counts = record counts {
  well = audit.same;
  absent = audit.absent;
  differs = audit.differs;
  skips = audit.skips;
  extra = audit.extra;
  stray = audit.stray;
}
with_totals (total.Check check) counts =
    record counts { told = check.told; well = check.objects; files = check.files; bytes = check.bytes }

-- counts have what it says itself
abbrev pub HasTotals : Totals → LineCounts → Type 0
HasTotals totals counts = (counted : LineCounts) × (counts ≡ with_totals totals counted)

-- members with this number at a key
abbrev pub put_count : List ℕ → ℕ → JsonMembers → JsonMembers
put_count key n members = put key (number (unsigned n)) members

-- and with each of these
abbrev pub put_counts : List (List ℕ × ℕ) → JsonMembers → JsonMembers
put_counts [] members = members
put_counts (one ∷ more) members = put_counts more (put_count one.0 one.1 members)

-- why objects differ, as the lines have it
abbrev pub reasons : List (List ℕ)
reasons = codes "missing" ∷ codes "extra" ∷ codes "kind" ∷ codes "bytes" ∷ codes "twin" ∷ []

-- and why folders are skipped
abbrev pub causes : List (List ℕ)
causes = codes "root" ∷ codes "empty" ∷ codes "split" ∷ codes "past" ∷ codes "name" ∷ codes "utf8" ∷ codes "other" ∷ codes "limit" ∷ codes "reserved" ∷ []

-- what the lines of a check tell of
abbrev pub troubles : List (List ℕ)
troubles = codes "missing" ∷ codes "unreadable" ∷ codes "prefix" ∷ codes "doubtful" ∷ codes "deep" ∷ codes "root" ∷ codes "empty" ∷ codes "split"
    ∷ codes "name" ∷ codes "utf8" ∷ codes "reserved" ∷ codes "past" ∷ codes "spelling" ∷ codes "other" ∷ codes "long" ∷ codes "many" ∷ codes "large"
    ∷ codes "place" ∷ codes "width" ∷ codes "desktop" ∷ []

-- members with how many lines of objects an audit that compares this has of each kind
abbrev pub put_audit_kinds : CompareBy → LineCounts → JsonMembers → JsonMembers
put_audit_kinds by counts members = put_count (fitting_word by) counts.well
    (put_count (codes "differs") counts.differs (put_count (codes "absent") counts.absent members))

-- members with how many skips there are
abbrev pub put_skip : LineCounts → JsonMembers → JsonMembers
put_skip counts members = put_count (codes "skip") counts.skips members

-- members with how many lines there are of each kind
abbrev pub put_kinds : Words → LineCounts → JsonMembers → JsonMembers
put_kinds Run counts members =
    put_skip counts (put_count (codes "present") counts.present (put_count (codes "done") counts.well members))
put_kinds (Audit by) counts members = put_skip counts (put_audit_kinds by counts members)
put_kinds (BothWays by) counts members = put_skip counts
    (put_count (codes "stray") counts.stray (put_count (codes "extra") counts.extra (put_audit_kinds by counts members)))
put_kinds Check counts members = put_counts (zip troubles counts.kinds) members

-- members with how many skips there are by their cause
abbrev pub put_skips : LineCounts → JsonMembers → JsonMembers
put_skips counts members = put (codes "skips") (object (put_counts (zip causes counts.skipped) no_members)) members

-- the same, of an audit how many objects differ by their reason too; of a check how many objects it met
abbrev pub put_beside : Words → LineCounts → JsonMembers → JsonMembers
put_beside Run counts members = put_skips counts members
put_beside Check counts members = put_count (codes "objects") counts.well members
put_beside _ counts members =
    put (codes "differs") (object (put_counts (zip reasons counts.differing) no_members)) (put_skips counts members)

-- members with all that a record says of the lines
abbrev pub put_line_counts : Words → LineCounts → JsonMembers → JsonMembers
put_line_counts words counts members =
    put_count (codes "bytes") counts.bytes (put_count (codes "files") counts.files
    (put (codes "lines") (object (put_kinds words counts no_members)) (put_beside words counts members)))
