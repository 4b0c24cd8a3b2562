-- A folder that looks as if the store were cut into longer pieces.
use Rattle.std.specs.Prelude.{ℕ, Bool, true, false, ◌&&◌, cond, drop, length, nat_lt, not, List, [], ◌∷◌, Option, None, Some}
use Rattle.pt_check.specs.declared.trouble.Trouble.{Trouble}
use Rattle.pt_check.specs.declared.trouble.Trouble.TheVariants as trouble
use Rattle.pt_tree.specs.Listing.{Item}
use Rattle.pt_tree.specs.Path.{Path}
use Rattle.pt_walk.specs.Site.{found, is_short}
use Rattle.pt_walk.specs.declared.site.At.TheVariants as at
use Rattle.pt_walk.specs.declared.site.Finding.{Finding}
use Rattle.pt_walk.specs.declared.site.Finding.TheVariants as finding
use Rattle.pt_walk.specs.declared.site.Form.TheVariants as form

-- the last of these names has over two bytes, and no other: the folder stands where shorties stand, and is none
abbrev pub is_among_shorties : Path → Bool
is_among_shorties [] = false
is_among_shorties (name ∷ []) = not (is_short name)
is_among_shorties (name ∷ next ∷ names) = is_short name && is_among_shorties (next ∷ names)

-- what has so many entries, and as a site would be found to be this, holds shorties, and beside them one folder at most
abbrev pub has_shorties_alone : ℕ → Finding → Bool
has_shorties_alone entries finding.Interior = true
has_shorties_alone entries (finding.Skip why) = false
has_shorties_alone entries (finding.Candidate i) = nat_lt 1 entries
has_shorties_alone entries finding.Gathered = false

-- what is told of a folder at a path that lists these entries: shorties stand in it as in a site, and by its own name it is none
abbrev pub width_trouble : Path → List Item → Option Trouble
width_trouble path items =
    cond (is_among_shorties (drop 1 path) && has_shorties_alone (length items) (found items at.Pair form.Plain))
    (Some trouble.Width) None
