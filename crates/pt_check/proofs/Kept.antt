-- No run passes an object of a clean store over for `reserved`.
use Rattle.std.proofs.Common.{
  ◌≡◌,
  ◌∙◌,
  ◌+◌,
  ◌-◌,
  ℕ,
  Bool,
  true,
  false,
  cond,
  length,
  List,
  [],
  ◌∷◌,
  ◌++◌,
  Option,
  None,
  Some,
  Result,
  Ok,
  Err,
  refl,
  sym,
  ap,
  subst,
  nat_lt,
}
use Rattle.std.specs.List.{concat}
use Rattle.std.specs.Prelude.{◌≢◌, ◌&&◌, ◌==◌, ⊤, codes, map, unwrap_or}
use Rattle.std.specs.Str.{is_utf8}
use Rattle.pt_check.specs.Clean.{CoversForm, Each, IsClean, IsCleanFolder, IsNotSkippedForReserved, NoRunSkipsForReserved}
use Rattle.pt_check.specs.Visits.{Folder, finding_of, reserved_by, reserved_trouble}
use Rattle.pt_check.specs.Within.{below_site, beside_shorties}
use Rattle.pt_check.specs.declared.wants.Wants.{Wants}
use Rattle.pt_check.specs.declared.within.Within.{Within}
use Rattle.pt_check.specs.declared.within.Within.TheVariants as within
use Rattle.pt_check.proofs.Others.{each_both}
use Rattle.pt_check.proofs.SameFound.{is_told, leads_to, same_found}
use Rattle.pt_name.specs.Identifying.{identification_by, identifier_at, identifier_by, unless_reserved}
use Rattle.pt_name.specs.Place.{place_of}
use Rattle.pt_name.specs.Reading.{reading_of}
use Rattle.pt_name.specs.Share.{whole}
use Rattle.pt_name.specs.Tuples.{Tuples}
use Rattle.pt_name.specs.declared.identifying.Refusal.{Refusal}
use Rattle.pt_name.specs.declared.identifying.Refusal.TheVariants as refusal
use Rattle.pt_plan.specs.Items.{
  Interior,
  Named,
  PairtreeObject,
  Skip,
  Verdict,
  encapsulated,
  gathered_from,
  is_ours,
  item_of,
  verdict_by_finding,
  verdict_by_identifier,
  verdict_by_visit,
  verdict_of,
  verdict_on_candidate,
  verdict_on_object,
}
use Rattle.pt_plan.specs.Job.{Job, form_of, reach_of}
use Rattle.pt_plan.specs.Store.{pairtree_root, prefix_of, sites_in_root}
use Rattle.pt_tree.specs.Forest.{Forest, none, file, other, dir, dir_at, listing_of}
use Rattle.pt_tree.specs.Path.{Path, joined, same_path}
use Rattle.pt_tree.specs.declared.kind.Kind.{Kind}
use Rattle.pt_walk.proofs.Findings.{last_name_says}
use Rattle.pt_walk.specs.Left.{entries_from}
use Rattle.pt_walk.specs.Site.{found, found_at_top, is_short, non_shorties}
use Rattle.pt_walk.specs.Sites.{Reach, Site, Visit, Listed, Past, Deep, Elsewhere, at_of, is_last, sites_in, visit_of, walked}
use Rattle.pt_walk.specs.declared.cause.Cause.TheVariants as cause
use Rattle.pt_walk.specs.declared.site.At.{At}
use Rattle.pt_walk.specs.declared.site.At.TheVariants as at
use Rattle.pt_walk.specs.declared.site.Finding.{Finding}
use Rattle.pt_walk.specs.declared.site.Finding.TheVariants as finding

module _ (wants : Wants) (prefix top : List ℕ) where
  -- the folder of a site, below a folder of this name
  abbrev site_folder : Path → ℕ → Folder
  site_folder path left = record { path = top ∷ path; prefix = prefix; here = within.Site (at_of path); left = left }

  -- there is nothing to tell of a site that lists this
  abbrev IsFree : Path → Forest → Type 0
  IsFree path inside = let seen = found (listing_of inside) (at_of path) wants.form in
      (is_told (at_of path) seen (top ∷ path) ≡ None) × (reserved_trouble wants.layout prefix seen (top ∷ path) ≡ None)

  abbrev FreeVisit : Path → Visit → Type 0
  FreeVisit path (Listed inside) = IsFree path inside
  FreeVisit path Past = ⊤
  FreeVisit path Deep = ⊤
  FreeVisit path Elsewhere = ⊤

  abbrev FreeSite : Site → Type 0
  FreeSite site = FreeVisit site.0 site.1

  -- what a check finds of a folder in a site, and of all that stands in it
  abbrev Met : Path → ℕ → Forest → Within → Type 0
  Met path left inside here = let it : Folder = record { path = top ∷ path; prefix = prefix; here = here; left = left } in
      IsCleanFolder wants it (listing_of inside) × IsClean wants it (finding_of wants.form here (listing_of inside)) inside

  free_shorty : (reach : Reach) (path : Path) (left : ℕ) (name : List ℕ) (inside : Forest) → Met (path ++ name ∷ []) left inside (below_site (at_of path) name)
      → (Met (path ++ name ∷ []) left inside (within.Site (at_of (path ++ name ∷ []))) → Each FreeSite (sites_in reach (path ++ name ∷ []) inside))
      → Each FreeSite ((path ++ name ∷ [], visit_of reach path name inside)
      ∷ walked (visit_of reach path name inside) (sites_in reach (path ++ name ∷ []) inside))
  free_shorty reach path left name inside met on = by (is_last (at_of path)) (nat_lt reach.depth (length path + 1)) (reach.walks (path ++ name ∷ []))
      refl
    where
      by : (a b w : Bool) → is_last (at_of path) ≡ a
          → Each FreeSite ((path ++ name ∷ [], cond a Past (cond b Deep (cond w (Listed inside) Elsewhere)))
          ∷ walked (cond a Past (cond b Deep (cond w (Listed inside) Elsewhere))) (sites_in reach (path ++ name ∷ []) inside))
      by true b w last = (tt, tt)
      by false true w last = (tt, tt)
      by false false false last = (tt, tt)
      by false false true last =
          let here : below_site (at_of path) name ≡ within.Site (at_of (path ++ name ∷ [])) =
          leads_to (at_of path) name last ∙ ap (λ (w : At). within.Site w) (sym (last_name_says path name)) in
          let there : Met (path ++ name ∷ []) left inside (within.Site (at_of (path ++ name ∷ []))) = subst (Met (path ++ name ∷ []) left inside) here met in
          ((there.0.1, there.0.2), on there)

  -- what a folder of a site comes to, by whether its name is short
  abbrev in_site : At → Finding → ℕ × ℕ → List ℕ → Bool → Within
  in_site w seen lengths name short = cond short (below_site w name) (beside_shorties seen lengths.0 lengths.1)

  free_sites : (reach : Reach) (path : Path) (left : ℕ) (seen : Finding) (tree : Forest) → IsClean wants (site_folder path left) seen tree
      → Each FreeSite (sites_in reach path tree)
  free_sites reach path left seen none clean = tt
  free_sites reach path left seen (file name bytes after) clean = free_sites reach path left seen after clean.2
  free_sites reach path left seen (other name after) clean = free_sites reach path left seen after clean.1
  free_sites reach path left seen (dir name inside after) clean =
      each_both FreeSite (here (is_short name)) (sites_in reach path after)
      (by (is_short name) refl (clean.1, clean.3)
      (λ met. free_sites reach (path ++ name ∷ []) (left - 1) (finding_of wants.form (within.Site (at_of (path ++ name ∷ []))) (listing_of inside)) inside
      met.1))
      (free_sites reach path left seen after clean.4)
    where
      here : Bool → List Site
      here b = cond b ((path ++ name ∷ [], visit_of reach path name inside)
          ∷ walked (visit_of reach path name inside) (sites_in reach (path ++ name ∷ []) inside)) []

      bytes : ℕ × ℕ
      bytes = (length (joined (top ∷ path)), length (joined (top ∷ (path ++ name ∷ []))))

      by : (b : Bool) → is_short name ≡ b → Met (path ++ name ∷ []) (left - 1) inside (in_site (at_of path) seen bytes name (is_short name))
          → (Met (path ++ name ∷ []) (left - 1) inside (within.Site (at_of (path ++ name ∷ []))) → Each FreeSite (sites_in reach (path ++ name ∷ []) inside))
          → Each FreeSite (here b)
      by false is met on = tt
      by true is met on =
          free_shorty reach path (left - 1) name inside (subst (λ (s : Bool). Met (path ++ name ∷ []) (left - 1) inside
          (in_site (at_of path) seen bytes name s)) is met) on

  free_root : (reach : Reach) (left : ℕ) (tree : Option Forest) → Met [] left (unwrap_or tree none) (within.Site at.Root)
      → Each FreeSite (sites_in_root reach tree)
  free_root reach left None met = tt
  free_root reach left (Some inside) met =
      ((met.0.1, met.0.2), free_sites reach [] left (finding_of wants.form (within.Site at.Root) (listing_of inside)) inside met.1)

  -- ---- the verdict on a site

  abbrev FreeVerdict : Verdict → Type 0
  FreeVerdict Interior = ⊤
  FreeVerdict (Skip why) = why ≢ cause.Reserved
  FreeVerdict (Named id object) = ⊤

  no_candidate_at_top : (i : ℕ) (l : List (ℕ × Kind)) → found_at_top l ≡ finding.Candidate i → ⊥
  no_candidate_at_top i [] e = absurd (cc)
  no_candidate_at_top i (x ∷ l) e = absurd (cc)

  none_gathered_at_top : (l : List (ℕ × Kind)) → found_at_top l ≡ finding.Gathered → ⊥
  none_gathered_at_top [] e = absurd (cc)
  none_gathered_at_top (x ∷ l) e = absurd (cc)

  module _ (job : Job) (covers : CoversForm wants job) (told : wants.layout ≡ job.tuples) where
    free_named : (path : Path) (object : PairtreeObject) (named : Result (List ℕ) Refusal) → reserved_by (identification_by job.tuples whole path named) ≡ None
        → FreeVerdict (verdict_by_identifier object named)
    free_named path object (Ok id) silent = tt
    free_named path object (Err refusal.Malformed) silent = λ e. absurd (cc)
    free_named path object (Err refusal.NotUtf8) silent = λ e. absurd (cc)
    free_named path object (Err refusal.Reserved) silent = absurd (cc)

    free_with_tuples : (object : PairtreeObject) (read : Option (List ℕ)) → (job.tuples.count == 0) ≡ false
        → FreeVerdict (verdict_by_identifier object (identifier_by job.tuples prefix read))
    free_with_tuples object None some = λ e. absurd (cc)
    free_with_tuples object (Some read) some = by (is_utf8 read)
      where
        id : List ℕ
        id = prefix ++ read

        own : (flat : Bool) → flat ≡ false
            → FreeVerdict (verdict_by_identifier object (cond (flat && same_path (place_of job.tuples id) (codes "extensions" ∷ [])) (Err refusal.Reserved)
            (Ok id)))
        own true is = absurd (cc)
        own false is = tt

        by : (valid : Bool) → FreeVerdict (verdict_by_identifier object (cond valid (unless_reserved job.tuples id) (Err refusal.NotUtf8)))
        by true = own (job.tuples.count == 0) some
        by false = λ e. absurd (cc)

    free_on : (path : Path) (object : PairtreeObject) (flat : Bool) → (job.tuples.count == 0) ≡ flat
        → cond flat (reserved_by (identification_by job.tuples whole path (identifier_at job.tuples prefix path))) None ≡ None
        → FreeVerdict (verdict_by_identifier object (identifier_at job.tuples prefix path))
    free_on path object true is silent = free_named path object (identifier_at job.tuples prefix path) silent
    free_on path object false is silent = free_with_tuples object (reading_of (concat path)) is

    free_encapsulated : (path : Path) (object : Option PairtreeObject)
        → cond (job.tuples.count == 0) (reserved_by (identification_by job.tuples whole path (identifier_at job.tuples prefix path))) None ≡ None
        → FreeVerdict (verdict_on_candidate job prefix path object)
    free_encapsulated path None silent = tt
    free_encapsulated path (Some object) silent = free_on path object (job.tuples.count == 0) refl silent

    free_candidate : (path : Path) (i : ℕ) (inside : Forest) → found (listing_of inside) (at_of path) wants.form ≡ finding.Candidate i
        → reserved_trouble wants.layout prefix (finding.Candidate i) (top ∷ path) ≡ None
        → FreeVerdict (verdict_on_candidate job prefix path (encapsulated path (entries_from i inside)))
    free_candidate [] i inside is silent = absurd (no_candidate_at_top i (non_shorties (listing_of inside)) is)
    free_candidate (name ∷ names) i inside is silent =
        let path : Path = name ∷ names in
        free_encapsulated path (encapsulated path (entries_from i inside))
        (sym (ap (λ (l : Tuples). reserved_trouble l prefix (finding.Candidate i) (top ∷ path)) told) ∙ silent)

    free_gathered : (path : Path) (inside : Forest) → found (listing_of inside) (at_of path) wants.form ≡ finding.Gathered
        → reserved_trouble wants.layout prefix finding.Gathered (top ∷ path) ≡ None
        → FreeVerdict (verdict_on_object job prefix path (gathered_from path inside))
    free_gathered [] inside is silent = absurd (none_gathered_at_top (non_shorties (listing_of inside)) is)
    free_gathered (name ∷ names) inside is silent =
        let path : Path = name ∷ names in
        free_on path (gathered_from path inside) (job.tuples.count == 0) refl
        (sym (ap (λ (l : Tuples). reserved_trouble l prefix finding.Gathered (top ∷ path)) told) ∙ silent)

    free_finding : (path : Path) (inside : Forest) (f : Finding) → found (listing_of inside) (at_of path) wants.form ≡ f
        → is_told (at_of path) f (top ∷ path) ≡ None
        → reserved_trouble wants.layout prefix f (top ∷ path) ≡ None → FreeVerdict (verdict_by_finding job prefix path inside f)
    free_finding path inside finding.Interior is silent free = tt
    free_finding path inside (finding.Skip why) is silent free = absurd (cc)
    free_finding path inside (finding.Candidate i) is silent free = free_candidate path i inside is free
    free_finding path inside finding.Gathered is silent free = free_gathered path inside is free

    free_by_visit : (path : Path) (visit : Visit) → FreeVisit path visit → FreeVerdict (verdict_by_visit job prefix path visit)
    free_by_visit path (Listed inside) free =
        let items = listing_of inside in
        let seen = found items (at_of path) wants.form in
        let same : found items (at_of path) (form_of job) ≡ seen = same_found (at_of path) wants.form (form_of job) items (top ∷ path) covers free.0 in
        subst (λ (f : Finding). FreeVerdict (verdict_by_finding job prefix path inside f)) (sym same) (free_finding path inside seen refl free.0 free.1)
    free_by_visit path Past free = λ e. absurd (cc)
    free_by_visit path Deep free = λ e. absurd (cc)
    free_by_visit path Elsewhere free = tt

    free_verdict : (path : Path) (visit : Visit) → FreeVisit path visit → FreeVerdict (verdict_of job prefix path visit)
    free_verdict path visit free = by (is_ours job.share path (verdict_by_visit job prefix path visit))
      where
        by : (b : Bool) → FreeVerdict (cond b (verdict_by_visit job prefix path visit) Interior)
        by true = free_by_visit path visit free
        by false = tt

    free_items : (all : List Site) → Each FreeSite all → Each IsNotSkippedForReserved (map (item_of job prefix) all)
    free_items [] free = tt
    free_items (site ∷ rest) free =
        ((λ is. let skips : FreeVerdict (Skip cause.Reserved) = subst FreeVerdict is (free_verdict site.0 site.1 free.0) in skips refl), free_items rest free.1)

pub none_for_reserved : NoRunSkipsForReserved
none_for_reserved wants job tree covers told clean =
    let prefix = prefix_of tree in
    let root = dir_at tree (pairtree_root ∷ []) in
    free_items wants prefix pairtree_root job covers told (sites_in_root (reach_of job) root)
    (free_root wants prefix pairtree_root (reach_of job) 601 root (clean.top, clean.inside))
