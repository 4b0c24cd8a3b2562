-- Which identifiers a run meets, and which of a list it doesn't.
use Rattle.std.specs.Prelude.{ℕ, Bool, false, cond, List, map, Option, None, Some}
use Rattle.std.specs.List.{list_any}
use Rattle.std.specs.Str.{bytes_eq}
use Rattle.pt_name.specs.Identifying.{identifier_read}
use Rattle.pt_name.specs.Unmet.{unmet_by, without_any}
use Rattle.pt_tree.specs.Forest.{Forest, listing_of}
use Rattle.pt_tree.specs.Path.{Path}
use Rattle.pt_walk.specs.Site.{found}
use Rattle.pt_walk.specs.Sites.{Deep, Elsewhere, Listed, Past, Site, Visit, at_of}
use Rattle.pt_walk.specs.Trail.{trail_path}
use Rattle.pt_walk.specs.declared.frame.Frame.{Frame}
use Rattle.pt_walk.specs.declared.site.Finding.{Finding}
use Rattle.pt_walk.specs.declared.site.Finding.TheVariants as finding
use Rattle.pt_plan.specs.Job.{Job, form_of, reach_of}
use Rattle.pt_plan.specs.Store.{prefix_of, sites_of}
use Rattle.pt_plan.specs.TurnWalk.{found_at}
use Rattle.pt_plan.specs.declared.phase.Phase.{Phase}
use Rattle.pt_plan.specs.declared.phase.Opening.TheVariants as opening
use Rattle.pt_plan.specs.declared.phase.Phase.TheVariants as phase

-- the identifier that the names of a site read, where it has an object, whatever its place
abbrev pub met_by_finding : List ℕ → Path → Finding → Option (List ℕ)
met_by_finding prefix site finding.Interior = None
met_by_finding prefix site (finding.Skip why) = None
met_by_finding prefix site (finding.Candidate index) = identifier_read prefix site
met_by_finding prefix site finding.Gathered = identifier_read prefix site

-- ---- by the turns

-- the identifier that is met at the site that the innermost listing is of
abbrev pub met_at : Job → List ℕ → List Frame → Option (List ℕ)
met_at job prefix trail = met_by_finding prefix (trail_path trail) (found_at (form_of job) trail)

-- those of the share's list that are unmet after a turn from this phase, where these were before it: the first turn begins with all, and the one
-- that judges a site meets the identifier of its object
abbrev pub unmet_after : Job → Phase → List ℕ → List Frame → List (Option (List ℕ)) → List (Option (List ℕ))
unmet_after job (phase.Opening opening.Begin) prefix trail unmet = unmet_by job.share
unmet_after job phase.Judge prefix trail unmet = without_any (met_at job prefix trail) unmet
unmet_after job _ prefix trail unmet = unmet

-- ---- by the store

-- the identifier that is met at a site of the store, by how that is met
abbrev pub met_by_visit : Job → List ℕ → Path → Visit → Option (List ℕ)
met_by_visit job prefix path (Listed inside) =
    met_by_finding prefix path (found (listing_of inside) (at_of path) (form_of job))
met_by_visit job prefix path Past = None
met_by_visit job prefix path Deep = None
met_by_visit job prefix path Elsewhere = None

-- it is this one
abbrev pub is_it : List ℕ → Option (List ℕ) → Bool
is_it id None = false
is_it id (Some met) = bytes_eq id met

-- one of these sites has an object whose names read this identifier
abbrev pub is_met : Job → List ℕ → List Site → List ℕ → Bool
is_met job prefix sites id =
    list_any (λ site. is_it id (met_by_visit job prefix site.0 site.1)) sites

-- one of a list, unless it is met
abbrev pub unless_met : Job → List ℕ → List Site → Option (List ℕ) → Option (List ℕ)
unless_met job prefix sites None = None
unless_met job prefix sites (Some id) = cond (is_met job prefix sites id) None (Some id)

-- those of the share's list that are met at none of these sites
abbrev pub unmet_among : Job → List ℕ → List Site → List (Option (List ℕ))
unmet_among job prefix sites = map (unless_met job prefix sites) (unmet_by job.share)

-- those that are met nowhere in the store
abbrev pub unmet_in_store : Job → Forest → List (Option (List ℕ))
unmet_in_store job source =
    unmet_among job (prefix_of source) (sites_of (reach_of job) source)
