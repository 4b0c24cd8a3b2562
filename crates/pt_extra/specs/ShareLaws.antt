-- Of a root that tells, the shares of a store by folders find together what the whole finds.
use Rattle.std.specs.Prelude.{◌≡◌, ◌≤◌, ℕ, Bool, count_by}
use Rattle.pt_extra.specs.Findings.{Against}
use Rattle.pt_extra.specs.Lines.{ExtraFinding}
use Rattle.pt_extra.specs.Walk.{found_in}
use Rattle.pt_name.specs.Share.{Portion}
use Rattle.pt_name.specs.declared.division.Division.TheVariants as division
use Rattle.pt_plan.specs.ShareLaws.{sum_of_shares, with_share}
use Rattle.pt_tree.specs.Forest.{Forest}

-- the whole of a store, of which the same identifiers are chosen
abbrev pub whole_of : Portion → Portion
whole_of share = record share { index = 1; count = 1; division = division.Identifiers }

-- the share of this number, of so many by folders so deep, of which the same are chosen
abbrev pub folders_of : Portion → ℕ → ℕ → ℕ → Portion
folders_of share depth count index =
    record share { index = index; count = count; division = division.Folders depth }

-- a root is held against the same, by a run with this share
abbrev pub by_share : Against → Portion → Against
by_share c share = record c { job = with_share c.job share }

-- whatever is asked of findings, as many of the whole's are such as of those of all shares together: each finding of the whole is just one share's,
-- and there is no other
abbrev pub FolderSharesFindTheWhole : Type 0
FolderSharesFindTheWhole =
    (c : Against) (standing : Forest) (depth count : ℕ) → 1 ≤ count → (test : ExtraFinding → Bool)
    → count_by test (found_in (by_share c (whole_of c.job.share)) standing)
    ≡ sum_of_shares
    (λ index. count_by test
    (found_in (by_share c (folders_of c.job.share depth count index)) standing)) count
