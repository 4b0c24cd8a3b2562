-- What a site is, by what its directory holds.
use Rattle.std.specs.Prelude.{ℕ, ◌+◌, ◌==◌, ◌||◌, ◌&&◌, Bool, true, false, cond, List, [], ◌∷◌, length}
use Rattle.pt_tree.specs.declared.kind.Kind.{Kind}
use Rattle.pt_tree.specs.declared.kind.Kind.TheVariants as kind
use Rattle.pt_tree.specs.Listing.{Item}
use Rattle.pt_walk.specs.declared.cause.Cause.TheVariants as cause
use Rattle.pt_walk.specs.declared.site.At.{At}
use Rattle.pt_walk.specs.declared.site.At.TheVariants as at
use Rattle.pt_walk.specs.declared.site.Form.{Form}
use Rattle.pt_walk.specs.declared.site.Form.TheVariants as form
use Rattle.pt_walk.specs.declared.site.Finding.{Finding}
use Rattle.pt_walk.specs.declared.site.Finding.TheVariants as finding

-- it is a directory
abbrev pub is_dir : Kind → Bool
is_dir kind.File = false
is_dir kind.Dir = true
is_dir kind.Other = false

-- the name has one or two bytes
abbrev pub is_short : List ℕ → Bool
is_short name = (length name == 1) || (length name == 2)

-- a directory whose name has one or two bytes
abbrev pub is_shorty : Item → Bool
is_shorty item = is_dir item.1 && is_short item.0

-- the entries that are no shorties: where each stands, if the first entry stands at i, and its kind
abbrev pub non_shorties_from : ℕ → List Item → List (ℕ × Kind)
non_shorties_from i [] = []
non_shorties_from i (item ∷ items) =
    cond (is_shorty item) (non_shorties_from (i + 1) items)
    ((i, item.1) ∷ non_shorties_from (i + 1) items)

-- the entries that are no shorties, each with its place and kind
abbrev pub non_shorties : List Item → List (ℕ × Kind)
non_shorties = non_shorties_from 0

-- nothing at all, or shorties alone
abbrev pub without_object : List Item → Finding
without_object [] = finding.Skip cause.Empty
without_object (item ∷ items) = finding.Interior

-- neither shorties alone nor one directory beside them
abbrev pub divided : Form → Finding
divided form.Plain = finding.Skip cause.Split
divided form.Gathering = finding.Gathered

-- the top directory, by its non-shorties
abbrev pub found_at_top : List (ℕ × Kind) → Finding
found_at_top [] = finding.Interior
found_at_top (first ∷ others) = finding.Skip cause.Root

-- any other site, by its entries and its non-shorties
abbrev pub found_below : Form → List Item → List (ℕ × Kind) → Finding
found_below form items [] = without_object items
found_below form items ((i, kind.Dir) ∷ []) = finding.Candidate i
found_below form items ((i, kind.File) ∷ []) = divided form
found_below form items ((i, kind.Other) ∷ []) = divided form
found_below form items (first ∷ second ∷ others) = divided form

-- what the site with these entries is
abbrev pub found : List Item → At → Form → Finding
found items at.Root form = found_at_top (non_shorties items)
found items at.Pair form = found_below form items (non_shorties items)
found items at.Last form = found_below form items (non_shorties items)
