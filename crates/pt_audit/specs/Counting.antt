-- What an audit counts.
use Rattle.std.specs.Prelude.{◌+◌, ℕ, min}
use Rattle.pt_audit.specs.declared.counts.Counts.{Counts}
use Rattle.pt_compare.specs.declared.difference.Comparison.{Comparison}
use Rattle.pt_compare.specs.declared.difference.Comparison.TheVariants as finding
use Rattle.pt_tree.specs.Failures.{greatest_count}

-- no line is counted
abbrev pub no_counts : Counts
no_counts = record { same = 0; absent = 0; differs = 0; skipped = 0 }

-- one more than this, up to the greatest number that is counted
abbrev pub one_more : ℕ → ℕ
one_more n = min (n + 1) greatest_count

-- an object more, by what was found
abbrev pub counts_with : Comparison → Counts → Counts
counts_with finding.Same counts = record counts { same = one_more counts.same }
counts_with finding.Absent counts = record counts { absent = one_more counts.absent }
counts_with (finding.Differs difference) counts = record counts { differs = one_more counts.differs }
