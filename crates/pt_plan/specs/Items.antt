-- The items of a source, in the order in which they are walked, each with its verdict.
use Rattle.std.specs.Prelude.{ℕ, Bool, true, false, ◌&&◌, cond, not, nat_lt, List, [], ◌∷◌, ◌++◌, length, map, Option, None, Some, Result, Ok, Err}
use Rattle.std.specs.Option.{option_map}
use Rattle.pt_name.specs.Identifying.{identifier_at, is_own_place}
use Rattle.pt_name.specs.Place.{place_of}
use Rattle.pt_name.specs.Share.{Portion, takes, tells_at}
use Rattle.pt_name.specs.declared.identifying.Refusal.{Refusal}
use Rattle.pt_name.specs.declared.identifying.Refusal.TheVariants as refusal
use Rattle.pt_object.specs.FilePaths.{File}
use Rattle.pt_tree.specs.Forest.{Forest, none, file, other, dir, listing_of}
use Rattle.pt_tree.specs.Path.{Path}
use Rattle.pt_walk.specs.Left.{entries_from}
use Rattle.pt_walk.specs.Limits.{Bounds}
use Rattle.pt_walk.specs.Object.{Entry, entries, files, first_bad, without_shorties}
use Rattle.pt_walk.specs.Site.{found}
use Rattle.pt_walk.specs.Sites.{Site, Visit, Listed, Past, Deep, Elsewhere, at_of}
use Rattle.pt_walk.specs.declared.cause.Cause.{Cause}
use Rattle.pt_walk.specs.declared.cause.Cause.TheVariants as cause
use Rattle.pt_walk.specs.declared.site.Finding.{Finding}
use Rattle.pt_walk.specs.declared.site.Finding.TheVariants as finding
use Rattle.pt_plan.specs.Job.{Job, form_of, reach_of}
use Rattle.pt_plan.specs.Store.{prefix_of, sites_of}

-- an object of a site: the directory that encapsulates it, or, if it is gathered, the site without its shorties
pub record PairtreeObject : Type 0 where
  pub at : Path
  pub gathered : Bool
  pub inside : Forest

-- what a directory on the way comes to: it only leads on; it is passed over; or it has an object with an identifier
pub data VerdictOn (A : Type 0) : Type 0 where
  Interior : VerdictOn A
  Skip : (why : Cause) → VerdictOn A
  Named : (id : List ℕ) → (object : A) → VerdictOn A

-- of an item: with all that its object holds
abbrev pub Verdict : Type 0
Verdict = VerdictOn PairtreeObject

-- what comes of an object: it is passed over for a cause, or its files are carried
pub data Outcome : Type 0 where
  Fails : (why : Cause) → Outcome
  Holds : (files : List File) → Outcome

-- a directory on the way, how it is met, and what it comes to
pub record Item : Type 0 where
  pub path : Path
  pub visit : Visit
  pub verdict : Verdict

-- ---- shares

-- of what stands at this path, what has an identifier is of the share that takes that, and what is passed over before one is carried of the share
-- that tells it
abbrev pub is_ours : {A : Type 0} → Portion → Path → VerdictOn A → Bool
is_ours share path Interior = true
is_ours share path (Skip why) = tells_at share path
is_ours share path (Named id object) = takes share path id

-- what isn't of the share only leads on in it, and has no line
abbrev pub ours : {A : Type 0} → Portion → Path → VerdictOn A → VerdictOn A
ours share path verdict = cond (is_ours share path verdict) verdict Interior

-- ---- the outcome of an object

-- the encapsulating directory itself is too deep to be listed; a site never is
abbrev pub is_too_deep : Bounds → PairtreeObject → Bool
is_too_deep limits object = not object.gathered && nat_lt limits.depth (length object.at)

-- the first entry of the object for which there is a cause, with the cause
abbrev pub bad_entry : Bounds → PairtreeObject → Option (Entry × Cause)
bad_entry limits object = first_bad limits (length object.at) 0 (entries object.inside)

-- why the object isn't carried
abbrev pub cause_of : Bounds → PairtreeObject → Option Cause
cause_of limits object =
    cond (is_too_deep limits object) (Some cause.Limit)
    (option_map (λ bad. bad.1) (bad_entry limits object))

-- by the cause against it, if there is one
abbrev pub outcome_by : List File → Option Cause → Outcome
outcome_by files None = Holds files
outcome_by files (Some why) = Fails why

-- the cause of the first bad entry, or, if there is none, all files
abbrev pub outcome : Bounds → PairtreeObject → Outcome
outcome limits object = outcome_by (files (entries object.inside)) (cause_of limits object)

-- ---- the verdict on a site

-- the place of the identifier is the storage root's own
abbrev pub is_reserved : Job → List ℕ → Bool
is_reserved job id = is_own_place job.tuples (place_of job.tuples id)

-- why an object has no identifier that can be carried, as a cause
abbrev pub cause_of_refusal : Refusal → Cause
cause_of_refusal refusal.Malformed = cause.Name
cause_of_refusal refusal.NotUtf8 = cause.Utf8
cause_of_refusal refusal.Reserved = cause.Reserved

-- an object by its identifier, or by why it has none that can be carried
abbrev pub verdict_by_identifier : {A : Type 0} → A → Result (List ℕ) Refusal → VerdictOn A
verdict_by_identifier object (Ok id) = Named id object
verdict_by_identifier object (Err why) = Skip (cause_of_refusal why)

-- by what the names of the site's path read, behind the prefix
abbrev pub verdict_on_object : Job → List ℕ → Path → PairtreeObject → Verdict
verdict_on_object job prefix site object =
    verdict_by_identifier object (identifier_at job.tuples prefix site)

-- the first entry as an object of the site at this path, if it is a directory
abbrev pub encapsulated : Path → Forest → Option PairtreeObject
encapsulated site none = None
encapsulated site (file name bytes after) = None
encapsulated site (other name after) = None
encapsulated site (dir name inside after) =
    Some (record { at = site ++ name ∷ []; gathered = false; inside = inside })

-- the object of a site that is gathered
abbrev pub gathered_from : Path → Forest → PairtreeObject
gathered_from site entries = record { at = site; gathered = true; inside = without_shorties entries }

-- a candidate is always a directory
abbrev pub verdict_on_candidate : Job → List ℕ → Path → Option PairtreeObject → Verdict
verdict_on_candidate job prefix site None = Interior
verdict_on_candidate job prefix site (Some object) = verdict_on_object job prefix site object

-- by what the site with these entries was found to be
abbrev pub verdict_by_finding : Job → List ℕ → Path → Forest → Finding → Verdict
verdict_by_finding job prefix site inside finding.Interior = Interior
verdict_by_finding job prefix site inside (finding.Skip why) = Skip why
verdict_by_finding job prefix site inside (finding.Candidate i) =
    verdict_on_candidate job prefix site (encapsulated site (entries_from i inside))
verdict_by_finding job prefix site inside finding.Gathered =
    verdict_on_object job prefix site (gathered_from site inside)

-- a site that is listed comes to what it is found to be; a shorty below a name of one byte, or too deep, is passed over; one that another share lists
-- only leads on
abbrev pub verdict_by_visit : Job → List ℕ → Path → Visit → Verdict
verdict_by_visit job prefix path (Listed inside) =
    verdict_by_finding job prefix path inside (found (listing_of inside) (at_of path) (form_of job))
verdict_by_visit job prefix path Past = Skip cause.Past
verdict_by_visit job prefix path Deep = Skip cause.Limit
verdict_by_visit job prefix path Elsewhere = Interior

-- the verdict, as far as it is of the job's share
abbrev pub verdict_of : Job → List ℕ → Path → Visit → Verdict
verdict_of job prefix path visit = ours job.share path (verdict_by_visit job prefix path visit)

-- the directory on the way, with its verdict
abbrev pub item_of : Job → List ℕ → Site → Item
item_of job prefix site =
    record { path = site.0; visit = site.1; verdict = verdict_of job prefix site.0 site.1 }

-- the directories that shorties lead to, in the order of the walk, each with how it is met and its verdict
abbrev pub items : Job → Forest → List Item
items job source = map (item_of job (prefix_of source)) (sites_of (reach_of job) source)
