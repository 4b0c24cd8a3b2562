-- Twins: a store may have several sites whose names give one identifier. One of them is where it belongs, and the others are its twins.
use Rattle.std.specs.Prelude.{ℕ, Bool, true, false, ◌&&◌, not, nat_lt, List, drop, length, Option, None, Some}
use Rattle.pt_compare.specs.declared.difference.Comparison.{Comparison}
use Rattle.pt_compare.specs.declared.difference.Comparison.TheVariants as comparison
use Rattle.pt_name.specs.Clean.{cleaned, pieces_of_two}
use Rattle.pt_plan.specs.Job.{Job, form_of}
use Rattle.pt_plan.specs.Store.{prefix_of}
use Rattle.pt_plan.specs.TurnWalk.{in_pairtree}
use Rattle.pt_tree.specs.Forest.{Forest, dir_at, listing_of}
use Rattle.pt_tree.specs.Path.{Path, same_path}
use Rattle.pt_walk.specs.Site.{found}
use Rattle.pt_walk.specs.Sites.{at_of}
use Rattle.pt_walk.specs.declared.site.Finding.{Finding}
use Rattle.pt_walk.specs.declared.site.Finding.TheVariants as finding

-- the site where an identifier belongs, which is given without the store's prefix: its pairpath (Pairtree 0.1)
abbrev pub proper_site : List ℕ → Path
proper_site id = pieces_of_two (cleaned id)

-- a site that is found to be this has an object
abbrev pub has_object : Finding → Bool
has_object finding.Interior = false
has_object (finding.Skip why) = false
has_object (finding.Candidate i) = true
has_object finding.Gathered = true

-- the directory at the path of a site, if there is one, has an object, by what it lists
abbrev pub has_object_in : Job → Path → Option Forest → Bool
has_object_in job site None = false
has_object_in job site (Some inside) = has_object (found (listing_of inside) (at_of site) (form_of job))

-- an object stands at the path of a site, which isn't too deep to be listed
abbrev pub object_stands : Job → Forest → Path → Bool
object_stands job source site =
    not (nat_lt job.limits.depth (length site)) && has_object_in job site (dir_at source (in_pairtree site))

-- the site isn't where the identifier belongs, which is given without the store's prefix, and an object stands there
abbrev pub is_second : Job → Forest → Path → List ℕ → Bool
is_second job source site id =
    not (same_path site (proper_site id)) && object_stands job source (proper_site id)

-- the object at the site is a twin: the site isn't where its identifier belongs, and an object stands there
abbrev pub is_twin : Job → Forest → Path → List ℕ → Bool
is_twin job source site id = is_second job source site (drop (length (prefix_of source)) id)

-- it differs
abbrev pub is_differing : Comparison → Bool
is_differing comparison.Same = false
is_differing comparison.Absent = false
is_differing (comparison.Differs difference) = true
