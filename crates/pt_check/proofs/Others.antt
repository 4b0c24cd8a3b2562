-- No run passes an object of a clean store over for `other`.
use Rattle.std.proofs.Common.{
  ◌≡◌,
  ◌+◌,
  ◌||◌,
  ℕ,
  zero,
  suc,
  Bool,
  true,
  false,
  cond,
  length,
  List,
  [],
  ◌∷◌,
  ◌++◌,
  Option,
  None,
  Some,
  Result,
  Ok,
  Err,
  refl,
  subst,
  nat_lt,
}
use Rattle.std.specs.Prelude.{◌≢◌, ⊤, option_map, map, unwrap_or}
use Rattle.pt_check.specs.Clean.{Each, IsClean, IsNotSkippedForOther, NoRunSkipsForOther, has_other}
use Rattle.pt_check.specs.Visits.{Folder, finding_of, folder_in}
use Rattle.pt_check.specs.declared.trouble.Trouble.TheVariants as trouble
use Rattle.pt_check.specs.declared.wants.Wants.{Wants}
use Rattle.pt_name.specs.Identifying.{identifier_at}
use Rattle.pt_name.specs.declared.identifying.Refusal.{Refusal}
use Rattle.pt_plan.specs.Items.{
  Named,
  PairtreeObject,
  Verdict,
  Interior,
  Skip,
  bad_entry,
  cause_of,
  encapsulated,
  gathered_from,
  is_ours,
  is_too_deep,
  item_of,
  verdict_by_finding,
  verdict_by_identifier,
  verdict_by_visit,
  verdict_of,
  verdict_on_candidate,
}
use Rattle.pt_plan.specs.Job.{Job, form_of, reach_of}
use Rattle.pt_plan.specs.Store.{pairtree_root, prefix_of, sites_in_root}
use Rattle.pt_tree.specs.Forest.{Forest, none, file, other, dir, Node, File, Dir, Other, dir_at, listing_of}
use Rattle.pt_tree.specs.Path.{Path}
use Rattle.pt_walk.specs.Left.{entries_from}
use Rattle.pt_walk.specs.Limits.{Bounds}
use Rattle.pt_walk.specs.Object.{Entry, bad_or, entries_in, entry_cause, files_with, first_bad, without_shorties}
use Rattle.pt_walk.specs.Site.{found, is_short}
use Rattle.pt_walk.specs.Sites.{Reach, Site, Visit, Listed, Past, Deep, Elsewhere, at_of, is_last, sites_in, visit_of, walked}
use Rattle.pt_walk.specs.declared.cause.Cause.{Cause}
use Rattle.pt_walk.specs.declared.cause.Cause.TheVariants as cause
use Rattle.pt_walk.specs.declared.site.Finding.{Finding}
use Rattle.pt_walk.specs.declared.site.Finding.TheVariants as finding

pub each_both : {X : Type 0} (P : X → Type 0) (xs ys : List X) → Each P xs → Each P ys → Each P (xs ++ ys)
each_both P [] ys first second = second
each_both P (x ∷ xs) ys first second = (first.0, each_both P xs ys first.1 second)

neither : (a b : Bool) → (a || b) ≡ false → (a ≡ false) × (b ≡ false)
neither false b e = (refl, e)
neither true b e = absurd (cc)

both_not : (a b : Bool) → a ≡ false → b ≡ false → (a || b) ≡ false
both_not false b first second = second
both_not true b first second = absurd (cc)

-- ---- a tree

no_other : (wants : Wants) (folder : Folder) (seen : Finding) (tree : Forest) → IsClean wants folder seen tree → has_other tree ≡ false
no_other wants folder seen none clean = refl
no_other wants folder seen (file name bytes after) clean = no_other wants folder seen after clean.2
no_other wants folder seen (other name after) clean =
    let bad : Some (trouble.Skipped cause.Other) ≡ None = clean.0.0 in
    absurd (cc)
no_other wants folder seen (dir name inside after) clean =
    let it = folder_in folder seen name in
    both_not (has_other inside) (has_other after) (no_other wants it (finding_of wants.form it.here (listing_of inside)) inside clean.3)
    (no_other wants folder seen after clean.4)

none_from : (i : ℕ) (tree : Forest) → has_other tree ≡ false → has_other (entries_from i tree) ≡ false
none_from zero tree plain = plain
none_from (suc i) none plain = refl
none_from (suc i) (file name bytes after) plain = none_from i after plain
none_from (suc i) (other name after) plain = absurd (cc)
none_from (suc i) (dir name inside after) plain = none_from i after (neither (has_other inside) (has_other after) plain).1

none_beside : (tree : Forest) → has_other tree ≡ false → has_other (without_shorties tree) ≡ false
none_beside none plain = refl
none_beside (file name bytes after) plain = none_beside after plain
none_beside (other name after) plain = absurd (cc)
none_beside (dir name inside after) plain =
    let parts = neither (has_other inside) (has_other after) plain in
    by (is_short name) parts.0 (none_beside after parts.1)
  where
    by : (b : Bool) → has_other inside ≡ false → has_other (without_shorties after) ≡ false
        → has_other (cond b (without_shorties after) (dir name inside (without_shorties after))) ≡ false
    by true within beside = beside
    by false within beside = both_not (has_other inside) (has_other (without_shorties after)) within beside

-- ---- the sites

abbrev IsPlainVisit : Visit → Type 0
IsPlainVisit (Listed inside) = has_other inside ≡ false
IsPlainVisit Past = ⊤
IsPlainVisit Deep = ⊤
IsPlainVisit Elsewhere = ⊤

abbrev IsPlainSite : Site → Type 0
IsPlainSite site = IsPlainVisit site.1

plain_visit : (reach : Reach) (path : Path) (name : List ℕ) (inside : Forest) → has_other inside ≡ false → IsPlainVisit (visit_of reach path name inside)
plain_visit reach path name inside plain = by (is_last (at_of path)) (nat_lt reach.depth (length path + 1)) (reach.walks (path ++ name ∷ []))
  where
    by : (a b w : Bool) → IsPlainVisit (cond a Past (cond b Deep (cond w (Listed inside) Elsewhere)))
    by true b w = tt
    by false true w = tt
    by false false true = plain
    by false false false = tt

plain_walked : (visit : Visit) (below : List Site) → Each IsPlainSite below → Each IsPlainSite (walked visit below)
plain_walked (Listed inside) below all = all
plain_walked Past below all = tt
plain_walked Deep below all = tt
plain_walked Elsewhere below all = tt

plain_sites : (reach : Reach) (path : Path) (tree : Forest) → has_other tree ≡ false → Each IsPlainSite (sites_in reach path tree)
plain_sites reach path none plain = tt
plain_sites reach path (file name bytes after) plain = plain_sites reach path after plain
plain_sites reach path (other name after) plain = absurd (cc)
plain_sites reach path (dir name inside after) plain =
    let parts = neither (has_other inside) (has_other after) plain in
    each_both IsPlainSite (here (is_short name)) (sites_in reach path after) (by (is_short name) parts.0 (plain_sites reach (path ++ name ∷ []) inside parts.0))
    (plain_sites reach path after parts.1)
  where
    here : Bool → List Site
    here b = cond b ((path ++ name ∷ [], visit_of reach path name inside)
        ∷ walked (visit_of reach path name inside) (sites_in reach (path ++ name ∷ []) inside)) []

    by : (b : Bool) → has_other inside ≡ false → Each IsPlainSite (sites_in reach (path ++ name ∷ []) inside) → Each IsPlainSite (here b)
    by false within below = tt
    by true within below = (
      plain_visit reach path name inside within,
      plain_walked (visit_of reach path name inside) (sites_in reach (path ++ name
          ∷ []) inside) below,
    )

plain_in_root : (reach : Reach) (top : Option Forest) → has_other (unwrap_or top none) ≡ false → Each IsPlainSite (sites_in_root reach top)
plain_in_root reach None plain = tt
plain_in_root reach (Some tree) plain = (plain, plain_sites reach [] tree plain)

-- ---- the objects

abbrev IsPlainVerdict : Verdict → Type 0
IsPlainVerdict Interior = ⊤
IsPlainVerdict (Skip why) = ⊤
IsPlainVerdict (Named id object) = has_other object.inside ≡ false

plain_object : (object : PairtreeObject) (named : Result (List ℕ) Refusal) → has_other object.inside ≡ false
    → IsPlainVerdict (verdict_by_identifier object named)
plain_object object (Ok id) plain = plain
plain_object object (Err why) plain = tt

module _ (job : Job) (prefix : List ℕ) (path : Path) where
  plain_candidate : (tree : Forest) → has_other tree ≡ false → IsPlainVerdict (verdict_on_candidate job prefix path (encapsulated path tree))
  plain_candidate none plain = tt
  plain_candidate (file name bytes after) plain = tt
  plain_candidate (other name after) plain = tt
  plain_candidate (dir name inside after) plain =
      plain_object (record { at = path ++ name ∷ []; gathered = false; inside = inside }) (identifier_at job.tuples prefix path)
      (neither (has_other inside) (has_other after) plain).0

  plain_finding : (inside : Forest) (f : Finding) → has_other inside ≡ false → IsPlainVerdict (verdict_by_finding job prefix path inside f)
  plain_finding inside finding.Interior plain = tt
  plain_finding inside (finding.Skip why) plain = tt
  plain_finding inside (finding.Candidate i) plain = plain_candidate (entries_from i inside) (none_from i inside plain)
  plain_finding inside finding.Gathered plain = plain_object (gathered_from path inside) (identifier_at job.tuples prefix path) (none_beside inside plain)

  plain_by_visit : (visit : Visit) → IsPlainVisit visit → IsPlainVerdict (verdict_by_visit job prefix path visit)
  plain_by_visit (Listed inside) plain = plain_finding inside (found (listing_of inside) (at_of path) (form_of job)) plain
  plain_by_visit Past plain = tt
  plain_by_visit Deep plain = tt
  plain_by_visit Elsewhere plain = tt

  plain_verdict : (visit : Visit) → IsPlainVisit visit → IsPlainVerdict (verdict_of job prefix path visit)
  plain_verdict visit plain = by (is_ours job.share path (verdict_by_visit job prefix path visit))
    where
      by : (b : Bool) → IsPlainVerdict (cond b (verdict_by_visit job prefix path visit) Interior)
      by true = plain_by_visit visit plain
      by false = tt

-- ---- the entries of an object

abbrev IsPlainNode : Node → Type 0
IsPlainNode (File bytes) = ⊤
IsPlainNode (Dir inside) = ⊤
IsPlainNode Other = ⊥

abbrev IsPlainEntry : Entry → Type 0
IsPlainEntry entry = IsPlainNode entry.1

plain_entries : (path : Path) (tree : Forest) → has_other tree ≡ false → Each IsPlainEntry (entries_in path tree)
plain_entries path none plain = tt
plain_entries path (file name bytes after) plain = (tt, plain_entries path after plain)
plain_entries path (other name after) plain = absurd (cc)
plain_entries path (dir name inside after) plain =
    let parts = neither (has_other inside) (has_other after) plain in (
      tt,
      each_both IsPlainEntry (entries_in (path ++ name ∷ []) inside) (entries_in path after) (plain_entries (path ++ name ∷ []) inside parts.0)
          (plain_entries path after parts.1),
    )

abbrev IsNotOther : Option Cause → Type 0
IsNotOther why = why ≢ Some cause.Other

limit_is_not : IsNotOther (Some cause.Limit)
limit_is_not e = absurd (cc)

none_is_not : IsNotOther None
none_is_not e = absurd (cc)

module _ (limits : Bounds) (depth : ℕ) where
  plain_cause : (b : Bool) → IsNotOther (cond b (Some cause.Limit) None)
  plain_cause true = limit_is_not
  plain_cause false = none_is_not

  entry_plain : (held : ℕ) (entry : Entry) → IsPlainEntry entry → IsNotOther (entry_cause limits depth held entry)
  entry_plain held (path, File bytes) plain = plain_cause _
  entry_plain held (path, Dir inside) plain = plain_cause _
  entry_plain held (path, Other) plain = absurd plain

  bad_plain : (why : Option Cause) (entry : Entry) (later : Option (Entry × Cause)) → IsNotOther why → IsNotOther (option_map (λ bad. bad.1) later)
      → IsNotOther (option_map (λ bad. bad.1) (bad_or why entry later))
  bad_plain None entry later first rest = rest
  bad_plain (Some why) entry later first rest = first

  first_plain : (held : ℕ) (all : List Entry) → Each IsPlainEntry all → IsNotOther (option_map (λ bad. bad.1) (first_bad limits depth held all))
  first_plain held [] plain = none_is_not
  first_plain held (entry ∷ others) plain =
      bad_plain (entry_cause limits depth held entry) entry (first_bad limits depth (files_with held entry) others) (entry_plain held entry plain.0)
      (first_plain (files_with held entry) others plain.1)

cause_plain : (limits : Bounds) (object : PairtreeObject) → has_other object.inside ≡ false → IsNotOther (cause_of limits object)
cause_plain limits object plain = by (is_too_deep limits object)
  where
    by : (b : Bool) → IsNotOther (cond b (Some cause.Limit) (option_map (λ bad. bad.1) (bad_entry limits object)))
    by true = limit_is_not
    by false = first_plain limits (length object.at) 0 (entries_in [] object.inside) (plain_entries [] object.inside plain)

-- ---- the items

item_plain : (job : Job) (prefix : List ℕ) (site : Site) → IsPlainSite site → IsNotSkippedForOther job (item_of job prefix site)
item_plain job prefix site plain id object is =
    let verdict : IsPlainVerdict (Named id object) = subst IsPlainVerdict is (plain_verdict job prefix site.0 site.1 plain) in
    cause_plain job.limits object verdict

items_plain : (job : Job) (prefix : List ℕ) (all : List Site) → Each IsPlainSite all → Each (IsNotSkippedForOther job) (map (item_of job prefix) all)
items_plain job prefix [] plain = tt
items_plain job prefix (site ∷ rest) plain = (item_plain job prefix site plain.0, items_plain job prefix rest plain.1)

pub none_for_other : NoRunSkipsForOther
none_for_other wants job tree clean =
    items_plain job (prefix_of tree) (sites_in_root (reach_of job) (dir_at tree (pairtree_root ∷ [])))
    (plain_in_root (reach_of job) (dir_at tree (pairtree_root ∷ [])) (no_other wants _ _ _ clean.inside))
