-- No named item has a reserved place.
use Rattle.std.proofs.Common.{◌≡◌, ℕ, zero, suc, Bool, true, false, List, [], ◌∷◌, ◌++◌, refl, cond, map}
use Rattle.std.specs.Prelude.{Option, None, Some, Ok, Err, not, slice_get}
use Rattle.std.specs.List.{concat, list_all}
use Rattle.std.specs.Str.{is_utf8}
use Rattle.std.proofs.lemmas.Bool.{and_from, not-true, not_from_false}
use Rattle.pt_name.specs.Identifying.{identifier_by, unless_reserved}
use Rattle.pt_name.specs.Reading.{reading_of}
use Rattle.pt_name.specs.declared.identifying.Refusal.TheVariants as refusal
use Rattle.pt_tree.specs.Forest.{Forest, listing_of}
use Rattle.pt_tree.specs.Path.{Path}
use Rattle.pt_walk.specs.Left.{entries_from}
use Rattle.pt_walk.specs.Site.{found}
use Rattle.pt_walk.specs.Sites.{Site, Visit, Listed, at_of}
use Rattle.pt_walk.specs.declared.site.Finding.{Finding}
use Rattle.pt_walk.specs.declared.site.Finding.TheVariants as finding
use Rattle.pt_plan.specs.Items.{
  Interior,
  Item,
  Named,
  PairtreeObject,
  Skip,
  Verdict,
  encapsulated,
  gathered_from,
  is_ours,
  is_reserved,
  item_of,
  items,
  verdict_by_finding,
  verdict_by_identifier,
  verdict_by_visit,
  verdict_of,
  verdict_on_candidate,
}
use Rattle.pt_plan.specs.Job.{Job, form_of, reach_of}
use Rattle.pt_plan.specs.PlaceLaws.{NamedIsNotReserved}
use Rattle.pt_plan.specs.Store.{prefix_of, sites_of}

-- its place isn't reserved, if it has one
abbrev pub free : Job → Verdict → Bool
free job Interior = true
free job (Skip why) = true
free job (Named id object) = not (is_reserved job id)

free_named : (job : Job) (id : List ℕ) (object : PairtreeObject) → free job (verdict_by_identifier object (unless_reserved job.tuples id)) ≡ true
free_named job id object = by (is_reserved job id) refl
  where
    by : (t : Bool) → is_reserved job id ≡ t → free job (verdict_by_identifier object (cond t (Err refusal.Reserved) (Ok id))) ≡ true
    by true e = refl
    by false e = not_from_false (is_reserved job id) e

free_by_reading : (job : Job) (prefix : List ℕ) (object : PairtreeObject) (reading : Option (List ℕ))
    → free job (verdict_by_identifier object (identifier_by job.tuples prefix reading)) ≡ true
free_by_reading _ _ _ None = refl
free_by_reading job prefix object (Some read) = by (is_utf8 read)
  where
    by : (t : Bool) → free job (verdict_by_identifier object (cond t (unless_reserved job.tuples (prefix ++ read)) (Err refusal.NotUtf8))) ≡ true
    by true = free_named job (prefix ++ read) object
    by false = refl

free_candidate : (job : Job) (prefix : List ℕ) (site : Path) (object : Option PairtreeObject) → free job (verdict_on_candidate job prefix site object) ≡ true
free_candidate _ _ _ None = refl
free_candidate job prefix site (Some object) = free_by_reading job prefix object (reading_of (concat site))

free_by_finding : (job : Job) (prefix : List ℕ) (site : Path) (inside : Forest) (what : Finding)
    → free job (verdict_by_finding job prefix site inside what) ≡ true
free_by_finding _ _ _ _ finding.Interior = refl
free_by_finding _ _ _ _ (finding.Skip _) = refl
free_by_finding job prefix site inside (finding.Candidate i) = free_candidate job prefix site (encapsulated site (entries_from i inside))
free_by_finding job prefix site inside finding.Gathered = free_by_reading job prefix (gathered_from site inside) (reading_of (concat site))

free_by_visit : (job : Job) (prefix : List ℕ) (path : Path) (visit : Visit) → free job (verdict_by_visit job prefix path visit) ≡ true
free_by_visit job prefix path (Listed inside) = free_by_finding job prefix path inside (found (listing_of inside) (at_of path) (form_of job))
free_by_visit _ _ _ _ = refl

-- whether it is of the share or not
free_if : (job : Job) (b : Bool) (v : Verdict) → free job v ≡ true → free job (cond b v Interior) ≡ true
free_if _ true _ h = h
free_if _ false _ _ = refl

free_verdict : (job : Job) (prefix : List ℕ) (path : Path) (visit : Visit) → free job (verdict_of job prefix path visit) ≡ true
free_verdict job prefix path visit = free_if job (is_ours job.share path (verdict_by_visit job prefix path visit)) _ (free_by_visit job prefix path visit)

free_at : (job : Job) (prefix : List ℕ) (ways : List Site) (k : ℕ) {item : Item} → slice_get (map (item_of job prefix) ways) k ≡ Some item
    → free job item.verdict ≡ true
free_at job prefix [] k is = absurd (cc)
free_at job prefix (site ∷ ways) zero {item} is =
    let same : item_of job prefix site ≡ item = cc in
    rw (← same) (free_verdict job prefix site.0 site.1)
free_at job prefix (_ ∷ ways) (suc k) {item} is = free_at job prefix ways k is

abbrev pub free_item : Job → Item → Bool
free_item job item = free job item.verdict

free_items : (job : Job) (prefix : List ℕ) (ways : List Site) → list_all (free_item job) (map (item_of job prefix) ways) ≡ true
free_items _ _ [] = refl
free_items job prefix (site ∷ ways) = and_from _ _ (free_verdict job prefix site.0 site.1) (free_items job prefix ways)

pub all_free : (job : Job) (source : Forest) → list_all (free_item job) (items job source) ≡ true
all_free job source = free_items job (prefix_of source) (sites_of (reach_of job) source)

pub named_is_not_reserved : NamedIsNotReserved
named_is_not_reserved job source k _ id _ is what =
    not-true (is_reserved job id) (rw what at (free_at job _ _ k is))
