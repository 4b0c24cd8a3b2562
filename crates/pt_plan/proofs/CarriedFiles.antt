-- The objects of a proper source are proper, so their files come in order.
use Rattle.std.proofs.Common.{◌≡◌, ℕ, zero, suc, Bool, true, false, List, [], ◌∷◌, ◌++◌, refl, cond, map}
use Rattle.std.specs.Prelude.{Option, None, Some, Result, Ok, Err, nat_lt, take, ◌+◌, length}
use Rattle.std.specs.List.{list_all}
use Rattle.std.proofs.lemmas.Bool.{and_from, and_parts}
use Rattle.pt_name.specs.Identifying.{identifier_at}
use Rattle.pt_name.specs.declared.identifying.Refusal.{Refusal}
use Rattle.pt_object.specs.FilePaths.{File}
use Rattle.pt_tree.specs.Forest.{Forest, none, file, other, dir, dir_at, is_proper, listing_of}
use Rattle.pt_tree.proofs.Finding.{proper_dir, proper_file, proper_other}
use Rattle.pt_tree.specs.Path.{Path}
use Rattle.pt_tree.specs.Tree.{Tree}
use Rattle.pt_walk.proofs.FilePaths.{gathered_proper}
use Rattle.pt_walk.proofs.Paths.{reads_below}
use Rattle.pt_walk.specs.Left.{entries_from}
use Rattle.pt_walk.specs.Object.{entries, files}
use Rattle.pt_walk.specs.Site.{found, is_short}
use Rattle.pt_walk.specs.Sites.{Site, Visit, Listed, Past, Deep, Elsewhere, Reach, at_of, is_last, sites_in, visit_of, walked}
use Rattle.pt_walk.specs.declared.cause.Cause.{Cause}
use Rattle.pt_walk.specs.declared.site.Finding.{Finding}
use Rattle.pt_walk.specs.declared.site.Finding.TheVariants as finding
use Rattle.pt_plan.specs.Carried.{Carried, Marked, carried, carried_by, carried_by_outcome, marked, marked_after}
use Rattle.pt_plan.specs.FileLaws.{CarriedFilesComeInOrder, comes_in_order}
use Rattle.pt_plan.specs.Items.{
  Interior,
  Item,
  Named,
  PairtreeObject,
  Skip,
  Verdict,
  cause_of,
  encapsulated,
  is_ours,
  item_of,
  items,
  outcome_by,
  verdict_by_finding,
  verdict_by_identifier,
  verdict_by_visit,
  verdict_of,
  verdict_on_candidate,
}
use Rattle.pt_plan.specs.Job.{Job, form_of, reach_of}
use Rattle.pt_plan.specs.Store.{pairtree_root, prefix_of, sites_in_root, sites_of}
use Rattle.pt_plan.proofs.FilesInOrder.{files_come_in_order}

-- ---- a verdict is good whose object, if there is one, holds what is proper

abbrev good : Verdict → Bool
good Interior = true
good (Skip why) = true
good (Named id object) = is_proper object.inside

good_by_identifier : (object : PairtreeObject) (read : Result (List ℕ) Refusal) → is_proper object.inside ≡ true
    → good (verdict_by_identifier object read) ≡ true
good_by_identifier _ (Ok _) proper = proper
good_by_identifier _ (Err _) _ = refl

proper_from : (i : ℕ) (f : Forest) → is_proper f ≡ true → is_proper (entries_from i f) ≡ true
proper_from zero f proper = proper
proper_from (suc i) none proper = refl
proper_from (suc i) (file name bytes after) proper = proper_from i after (proper_file name bytes after proper).2
proper_from (suc i) (other name after) proper = proper_from i after (proper_other name after proper).2
proper_from (suc i) (dir name inside after) proper = proper_from i after (proper_dir name inside after proper).2

good_candidate : (job : Job) (prefix : List ℕ) (site : Path) (f : Forest) → is_proper f ≡ true
    → good (verdict_on_candidate job prefix site (encapsulated site f)) ≡ true
good_candidate job prefix site none proper = refl
good_candidate job prefix site (file name bytes after) proper = refl
good_candidate job prefix site (other name after) proper = refl
good_candidate job prefix site (dir name inside after) proper =
    good_by_identifier _ (identifier_at job.tuples prefix site) (proper_dir name inside after proper).3

good_by_finding : (job : Job) (prefix : List ℕ) (site : Path) (inside : Forest) (what : Finding) → is_proper inside ≡ true
    → good (verdict_by_finding job prefix site inside what) ≡ true
good_by_finding _ _ _ _ finding.Interior _ = refl
good_by_finding _ _ _ _ (finding.Skip _) _ = refl
good_by_finding job prefix site inside (finding.Candidate i) proper = good_candidate job prefix site _ (proper_from i inside proper)
good_by_finding job prefix site inside finding.Gathered proper = good_by_identifier _ (identifier_at job.tuples prefix site) (gathered_proper inside proper)

-- ---- a directory on the way is good that, if it is listed, holds what is proper

abbrev good_visit : Visit → Bool
good_visit (Listed inside) = is_proper inside
good_visit Past = true
good_visit Deep = true
good_visit Elsewhere = true

abbrev good_site : Site → Bool
good_site site = good_visit site.1

good_by_visit : (job : Job) (prefix : List ℕ) (path : Path) (visit : Visit) → good_visit visit ≡ true → good (verdict_by_visit job prefix path visit) ≡ true
good_by_visit job prefix path (Listed inside) h = good_by_finding job prefix path inside (found (listing_of inside) (at_of path) (form_of job)) h
good_by_visit _ _ _ _ _ = refl

-- whether it is of the share or not
good_if : (b : Bool) (v : Verdict) → good v ≡ true → good (cond b v Interior) ≡ true
good_if true _ h = h
good_if false _ _ = refl

good_verdict : (job : Job) (prefix : List ℕ) (path : Path) (visit : Visit) → good_visit visit ≡ true → good (verdict_of job prefix path visit) ≡ true
good_verdict job prefix path visit h = good_if (is_ours job.share path (verdict_by_visit job prefix path visit)) _ (good_by_visit job prefix path visit h)

visit_either : (b : Bool) (v w : Visit) → good_visit v ≡ true → good_visit w ≡ true → good_visit (cond b v w) ≡ true
visit_either true _ _ x _ = x
visit_either false _ _ _ y = y

all_append : {X : Type 0} → (p : X → Bool) (xs ys : List X) → list_all p xs ≡ true → list_all p ys ≡ true → list_all p (xs ++ ys) ≡ true
all_append _ [] _ _ k = k
all_append p (x ∷ xs) ys h k =
    let parts = and_parts (p x) _ h in
    and_from (p x) _ parts.0 (all_append p xs ys parts.1 k)

all_walked : (visit : Visit) (below : List Site) → list_all good_site below ≡ true → list_all good_site (walked visit below) ≡ true
all_walked (Listed _) _ h = h
all_walked _ _ _ = refl

all_either : (b : Bool) (xs : List Site) → list_all good_site xs ≡ true → list_all good_site (cond b xs []) ≡ true
all_either true _ h = h
all_either false _ _ = refl

good_sites : (reach : Reach) (path : Path) (f : Forest) → is_proper f ≡ true → list_all good_site (sites_in reach path f) ≡ true
good_sites reach path none proper = refl
good_sites reach path (file name bytes after) proper = good_sites reach path after (proper_file name bytes after proper).2
good_sites reach path (other name after) proper = good_sites reach path after (proper_other name after proper).2
good_sites reach path (dir name inside after) proper =
    let parts = proper_dir name inside after proper in
    let here = visit_either (is_last (at_of path)) Past
    (cond (nat_lt reach.depth (length path + 1)) Deep (cond (reach.walks (path ++ name ∷ [])) (Listed inside) Elsewhere)) refl
    (visit_either (nat_lt reach.depth (length path + 1)) Deep (cond (reach.walks (path ++ name ∷ [])) (Listed inside) Elsewhere) refl
    (visit_either (reach.walks (path ++ name ∷ [])) (Listed inside) Elsewhere parts.3 refl)) in
    let below = all_walked (visit_of reach path name inside) (sites_in reach (path ++ name ∷ []) inside) (good_sites reach (path ++ name
    ∷ []) inside parts.3) in
    all_append good_site (cond (is_short name) ((path ++ name ∷ [], visit_of reach path name inside)
    ∷ walked (visit_of reach path name inside) (sites_in reach (path ++ name ∷ []) inside)) []) (sites_in reach path after)
    (all_either (is_short name) ((path ++ name ∷ [], visit_of reach path name inside)
    ∷ walked (visit_of reach path name inside) (sites_in reach (path ++ name ∷ []) inside))
    (and_from (good_visit (visit_of reach path name inside)) (list_all good_site (walked (visit_of reach path name inside) (sites_in reach (path ++ name
    ∷ []) inside)))
    here below))
    (good_sites reach path after parts.2)

-- ---- so are the items, marked, and the first of them

abbrev good_item : Item → Bool
good_item item = good item.verdict

good_items : (job : Job) (prefix : List ℕ) (ways : List Site) → list_all good_site ways ≡ true → list_all good_item (map (item_of job prefix) ways) ≡ true
good_items _ _ [] _ = refl
good_items job prefix (site ∷ ways) h =
    let parts = and_parts _ _ h in
    and_from _ _ (good_verdict job prefix site.0 site.1 parts.0) (good_items job prefix ways parts.1)

abbrev good_marked : Marked → Bool
good_marked m = good_item m.0

all_marked : (job : Job) (root : Tree) (earlier others : List Item) → list_all good_item others ≡ true
    → list_all good_marked (marked_after job root earlier others) ≡ true
all_marked _ _ _ [] _ = refl
all_marked job root earlier (item ∷ others) h =
    let parts = and_parts _ _ h in
    and_from _ _ parts.0 (all_marked job root (earlier ++ item ∷ []) others parts.1)

pub all_take : {X : Type 0} → (p : X → Bool) (k : ℕ) (xs : List X) → list_all p xs ≡ true → list_all p (take k xs) ≡ true
all_take _ zero _ _ = refl
all_take _ (suc _) [] _ = refl
all_take p (suc k) (x ∷ xs) h =
    let parts = and_parts (p x) _ h in
    and_from (p x) _ parts.0 (all_take p k xs parts.1)

-- ---- and what is carried of them

abbrev in_order : Carried → Bool
in_order object = comes_in_order object.files

files_in_order : (inside : Forest) → is_proper inside ≡ true → comes_in_order (files (entries inside)) ≡ true
files_in_order inside proper =
    let both = files_come_in_order inside proper in
    and_from _ _ both.0 both.1

all_by_outcome : (id : List ℕ) (held : List File) (why : Option Cause) → comes_in_order held ≡ true
    → list_all in_order (carried_by_outcome id (outcome_by held why)) ≡ true
all_by_outcome _ held None h = and_from _ true h refl
all_by_outcome _ _ (Some _) _ = refl

carried_either : (taken : Bool) (xs : List Carried) → list_all in_order xs ≡ true → list_all in_order (cond taken [] xs) ≡ true
carried_either true _ _ = refl
carried_either false _ h = h

all_carried_by : (job : Job) (taken : Bool) (verdict : Verdict) → good verdict ≡ true → list_all in_order (carried_by job taken verdict) ≡ true
all_carried_by job taken (Named id object) h =
    carried_either taken _
    (all_by_outcome id _ (cause_of job.limits object) (files_in_order object.inside h))
all_carried_by _ _ _ _ = refl

all_in_order : (job : Job) (marks : List Marked) → list_all good_marked marks ≡ true → list_all in_order (carried job marks) ≡ true
all_in_order _ [] _ = refl
all_in_order job (m ∷ marks) h =
    let parts = and_parts (good_marked m) (list_all good_marked marks) h in
    all_append in_order (carried_by job m.1 m.0.verdict) (carried job marks) (all_carried_by job m.1 m.0.verdict parts.0) (all_in_order job marks parts.1)

good_in_root : (reach : Reach) (top : Option Forest) → ((inside : Forest) → top ≡ Some inside → is_proper inside ≡ true)
    → list_all good_site (sites_in_root reach top) ≡ true
good_in_root _ None _ = refl
good_in_root reach (Some top) h = and_from _ _ (h top refl) (good_sites reach [] top (h top refl))

pub carried_files_come_in_order : CarriedFilesComeInOrder
carried_files_come_in_order job source root k proper =
    all_in_order job (take k (marked job source root))
    (all_take good_marked k (marked job source root)
    (all_marked job root [] (items job source)
    (good_items job (prefix_of source) (sites_of (reach_of job) source)
    (good_in_root (reach_of job) (dir_at source (pairtree_root ∷ [])) (λ inside e. (reads_below source inside (pairtree_root ∷ []) [] e).1 proper)))))
