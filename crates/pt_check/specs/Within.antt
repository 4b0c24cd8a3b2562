-- What a folder is to a run over a store, by those above it.
use Rattle.std.specs.Prelude.{ℕ, ◌==◌, Bool, true, false, cond, List, length}
use Rattle.pt_check.specs.Counting.{plus}
use Rattle.pt_check.specs.declared.within.Within.{Within}
use Rattle.pt_check.specs.declared.within.Within.TheVariants as within
use Rattle.pt_walk.specs.Site.{is_short}
use Rattle.pt_walk.specs.declared.site.At.{At}
use Rattle.pt_walk.specs.declared.site.At.TheVariants as at
use Rattle.pt_walk.specs.declared.site.Finding.{Finding}
use Rattle.pt_walk.specs.declared.site.Finding.TheVariants as finding

-- what a shorty of this name is in a site that stands so (Pairtree 0.1: no piece stands below one of one byte)
abbrev pub below_site : At → List ℕ → Within
below_site at.Last name = within.Past
below_site at.Root name = within.Site (cond (length name == 1) at.Last at.Pair)
below_site at.Pair name = within.Site (cond (length name == 1) at.Last at.Pair)

-- what a folder beside the shorties of a site is, by what the site is found to be, whose path has so many bytes: the object's own, if its
-- path has that many, or a folder in the object that the site is
abbrev pub beside_shorties : Finding → ℕ → ℕ → Within
beside_shorties finding.Interior site bytes = within.Beside
beside_shorties (finding.Skip why) site bytes = within.Beside
beside_shorties (finding.Candidate i) site bytes = within.Object (plus bytes 1)
beside_shorties finding.Gathered site bytes = within.Object (plus site 1)

-- what a folder of this name is that stands in one which is this, and found to be that; their paths have so many bytes
abbrev pub below : Within → Finding → List ℕ → ℕ → ℕ → Within
below (within.Site at) what name site bytes =
    cond (is_short name) (below_site at name) (beside_shorties what site bytes)
below within.Past what name site bytes = within.Beside
below (within.Object before) what name site bytes = within.Object before
below within.Beside what name site bytes = within.Beside

-- what holds the entries of a folder which is this, and found to be that, and whose path has so many bytes: the folder, or the object that
-- a site is
abbrev pub holder : Within → Finding → ℕ → Within
holder here finding.Interior site = here
holder here (finding.Skip why) site = here
holder here (finding.Candidate i) site = here
holder here finding.Gathered site = within.Object (plus site 1)

-- an object starts with a folder that is this, in what is that
abbrev pub starts_object : Within → Within → Bool
starts_object (within.Object before) (within.Site at) = true
starts_object _ _ = false
