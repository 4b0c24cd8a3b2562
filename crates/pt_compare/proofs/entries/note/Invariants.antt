use Rattle.std.proofs.Common.{◌≡◌, drop}
use Rattle.pt_compare.specs.Marks.{marks_of, with_listed}
use Rattle.pt_compare.proofs.entries.note.Given as goal

abbrev pub invariant-loop-i : goal.invariant-loop-i
invariant-loop-i l = with_listed l.fn.path l.fn.listing (marks_of l.fn.entries) ≡ with_listed l.fn.path (drop l.i l.fn.listing) (marks_of l.entries)
