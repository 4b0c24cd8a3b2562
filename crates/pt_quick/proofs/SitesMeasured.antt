-- A walk by lengths comes to the same directories, with the same verdicts, and the same comes of each object.
use Rattle.std.proofs.Common.{◌≡◌, ◌<◌, ◌^◌, ◌+◌, ℕ, List, [], ◌∷◌, ◌++◌, true, false, refl, sym, ◌∙◌, ap, length, map, nat_lt, suc, zero}
use Rattle.std.specs.Prelude.{◌||◌, ◌&&◌, Bool, cond, Err, None, Ok, Option, Result, Some, nat_le}
use Rattle.std.specs.Option.{option_map}
use Rattle.std.proofs.lemmas.List.{map-append}
use Rattle.std.proofs.lemmas.List.Elements.{All-head, All-tail}
use Rattle.pt_name.specs.Identifying.{identifier_at}
use Rattle.pt_name.specs.declared.identifying.Refusal.{Refusal}
use Rattle.pt_object.specs.FilePaths.{File as CarriedFile}
use Rattle.pt_plan.specs.Items.{Interior, Named, PairtreeObject, Skip, Verdict, cause_of, encapsulated, gathered_from, is_too_deep, item_of}
use Rattle.pt_plan.specs.Items.{items, ours, outcome, outcome_by, verdict_by_finding, verdict_by_identifier}
use Rattle.pt_plan.specs.Items.{verdict_by_visit, verdict_on_candidate, verdict_on_object}
use Rattle.pt_name.specs.Share.{Portion, takes, tells_at}
use Rattle.pt_plan.specs.Job.{Job, form_of, reach_of}
use Rattle.pt_plan.specs.Store.{is_prefix, pairtree_root, prefix_file, prefix_in, prefix_of, sites_in_root, sites_of, version_file}
use Rattle.pt_tree.specs.Forest.{Dir, File, Forest, Node, Other, dir, dir_at, file, find, listing_of, none, other}
use Rattle.pt_tree.specs.Path.{Path, joined}
use Rattle.pt_walk.specs.Left.{entries_from}
use Rattle.pt_walk.specs.Limits.{Bounds}
use Rattle.pt_walk.specs.Object.{Entry, bad_or, entries, entries_in, entry_cause, files, first_bad, without_shorties}
use Rattle.pt_walk.specs.Site.{found, is_short}
use Rattle.pt_walk.specs.Sites.{Deep, Elsewhere, Listed, Past, Reach, Site, Visit, at_of, is_last, sites, sites_in, visit_of, walked}
use Rattle.pt_walk.specs.declared.cause.Cause.{Cause}
use Rattle.pt_walk.specs.declared.cause.Cause.TheVariants as cause
use Rattle.pt_walk.specs.declared.site.Finding.{Finding}
use Rattle.pt_walk.specs.declared.site.Finding.TheVariants as finding
use Rattle.pt_quick.specs.DepthLaws.{node_measured}
use Rattle.pt_quick.specs.DepthMeasured.{dir_at-measured, find-measured, is_dir-measured, is_file-measured}
use Rattle.pt_quick.specs.LengthsOf.{listing-lengths, node_lengths}
use Rattle.pt_quick.specs.Measured.{lengths_of, text_of_file}
use Rattle.pt_quick.specs.SitesMeasured.{AreShort, StoreStays, file_seen, item_seen, limits_seen, object_seen}
use Rattle.pt_quick.specs.SitesMeasured.{outcome_seen, site_seen, store_seen, verdict_seen, visit_seen}
use Rattle.pt_quick.proofs.LengthTexts.{text_of_carried}

-- ---- the top

-- what is read there is read of files alone
good_by : (longest : ℕ) (o : Option Node) → is_prefix (option_map (node_measured longest 0 []) o) ≡ is_prefix o
good_by longest None = refl
good_by longest (Some (File b)) = refl
good_by longest (Some (Dir d)) = refl
good_by longest (Some Other) = refl

prefix_by : (longest : ℕ) (o : Option Node) → prefix_in (option_map (node_measured longest 0 []) o) ≡ prefix_in o
prefix_by longest None = refl
prefix_by longest (Some (File b)) = refl
prefix_by longest (Some (Dir d)) = refl
prefix_by longest (Some Other) = refl

pub store_stays : StoreStays
store_stays = record {
  store = λ longest store i.
      is_file-measured longest 1 store (version_file ∷ []) i && is_dir-measured longest 1 store (pairtree_root ∷ []) i;
  good = λ longest store. ap is_prefix (find-measured longest 0 store prefix_file) ∙ good_by longest (find store prefix_file);
  prefix = λ longest store. ap prefix_in (find-measured longest 0 store prefix_file) ∙ prefix_by longest (find store prefix_file);
}

-- the pairtree itself holds the lengths of its files
folder_seen : (longest : ℕ) (r : List ℕ) (f : Forest) → dir_at (store_seen longest f) (r ∷ []) ≡ option_map (lengths_of longest) (dir_at f (r ∷ []))
folder_seen longest r f = dir_at-measured longest 1 f (r ∷ [])

-- ---- the sites

visit_by : (longest : ℕ) (reach : Reach) (path : Path) (name : List ℕ) (inside : Forest)
    → visit_of reach path name (lengths_of longest inside) ≡ visit_seen longest (visit_of reach path name inside)
visit_by longest reach path name inside = by (is_last (at_of path)) (nat_lt reach.depth (length path + 1)) (reach.walks (path ++ name ∷ []))
  where
    by : (a b c : Bool) → cond a Past (cond b Deep (cond c (Listed (lengths_of longest inside)) Elsewhere))
        ≡ visit_seen longest (cond a Past (cond b Deep (cond c (Listed inside) Elsewhere)))
    by true b c = refl
    by false true c = refl
    by false false true = refl
    by false false false = refl

walked_by : (longest : ℕ) (visit : Visit) (xs ys : List Site) → xs ≡ map (site_seen longest) ys
    → walked (visit_seen longest visit) xs ≡ map (site_seen longest) (walked visit ys)
walked_by longest (Listed inside) xs ys same = same
walked_by longest Past xs ys same = refl
walked_by longest Deep xs ys same = refl
walked_by longest Elsewhere xs ys same = refl

sites_below : (longest : ℕ) (reach : Reach) (path : Path) (f : Forest)
    → sites_in reach path (lengths_of longest f) ≡ map (site_seen longest) (sites_in reach path f)
sites_below longest reach path none = refl
sites_below longest reach path (file name bytes after) = sites_below longest reach path after
sites_below longest reach path (other name after) = sites_below longest reach path after
sites_below longest reach path (dir name inside after) =
    (λ i. cond (is_short name) ((path ++ name ∷ [], visit_by longest reach path name inside i) ∷ walked (visit_by longest reach path name inside i)
    (sites_in reach (path ++ name ∷ []) (lengths_of longest inside))) [] ++ sites_below longest reach path after i)
    ∙ by (is_short name) (visit_of reach path name inside) (sites_below longest reach (path ++ name ∷ []) inside)
  where
    by : (t : Bool) (visit : Visit)
        → sites_in reach (path ++ name ∷ []) (lengths_of longest inside) ≡ map (site_seen longest) (sites_in reach (path ++ name ∷ []) inside)
        → cond t ((path ++ name ∷ [], visit_seen longest visit) ∷ walked (visit_seen longest visit)
        (sites_in reach (path ++ name ∷ []) (lengths_of longest inside))) []
        ++ map (site_seen longest) (sites_in reach path after)
        ≡ map (site_seen longest)
        (cond t ((path ++ name ∷ [], visit) ∷ walked visit (sites_in reach (path ++ name ∷ []) inside)) [] ++ sites_in reach path after)
    by true visit later =
        ap (λ (xs : List Site). ((path ++ name ∷ [], visit_seen longest visit) ∷ xs) ++ map (site_seen longest) (sites_in reach path after))
        (walked_by longest visit _ _ later)
        ∙ sym (map-append (site_seen longest) ((path ++ name ∷ [], visit) ∷ walked visit (sites_in reach (path ++ name ∷ []) inside))
        (sites_in reach path after))
    by false visit later = refl

pub sites_seen : (longest : ℕ) (reach : Reach) (store : Forest) → sites_of reach (store_seen longest store) ≡ map (site_seen longest) (sites_of reach store)
sites_seen longest reach store = ap (sites_in_root reach) (folder_seen longest pairtree_root store) ∙ by (dir_at store (pairtree_root ∷ []))
  where
    by : (top : Option Forest) → sites_in_root reach (option_map (lengths_of longest) top) ≡ map (site_seen longest) (sites_in_root reach top)
    by None = refl
    by (Some top) = ap (λ (xs : List Site). ([], Listed (lengths_of longest top)) ∷ xs) (sites_below longest reach [] top)

-- ---- the items

entries_seen_from : (longest i : ℕ) (f : Forest) → entries_from i (lengths_of longest f) ≡ lengths_of longest (entries_from i f)
entries_seen_from longest zero f = refl
entries_seen_from longest (suc i) none = refl
entries_seen_from longest (suc i) (file name bytes after) = entries_seen_from longest i after
entries_seen_from longest (suc i) (other name after) = entries_seen_from longest i after
entries_seen_from longest (suc i) (dir name inside after) = entries_seen_from longest i after

encapsulated_seen : (longest : ℕ) (site : Path) (f : Forest) → encapsulated site (lengths_of longest f) ≡ option_map (object_seen longest) (encapsulated site f)
encapsulated_seen longest site none = refl
encapsulated_seen longest site (file name bytes after) = refl
encapsulated_seen longest site (other name after) = refl
encapsulated_seen longest site (dir name inside after) = refl

shorties_seen : (longest : ℕ) (f : Forest) → without_shorties (lengths_of longest f) ≡ lengths_of longest (without_shorties f)
shorties_seen longest none = refl
shorties_seen longest (file name bytes after) = ap (λ (f : Forest). file name (text_of_file longest bytes) f) (shorties_seen longest after)
shorties_seen longest (other name after) = ap (λ (f : Forest). other name f) (shorties_seen longest after)
shorties_seen longest (dir name inside after) = by (is_short name) (shorties_seen longest after)
  where
    by : (t : Bool) → without_shorties (lengths_of longest after) ≡ lengths_of longest (without_shorties after)
        → cond t (without_shorties (lengths_of longest after)) (dir name (lengths_of longest inside) (without_shorties (lengths_of longest after)))
        ≡ lengths_of longest (cond t (without_shorties after) (dir name inside (without_shorties after)))
    by true later = later
    by false later = ap (λ (f : Forest). dir name (lengths_of longest inside) f) later

identified : (longest : ℕ) (object : PairtreeObject) (read : Result (List ℕ) Refusal)
    → verdict_by_identifier (object_seen longest object) read ≡ verdict_seen longest (verdict_by_identifier object read)
identified longest object (Ok id) = refl
identified longest object (Err why) = refl

candidate_seen : (longest : ℕ) (job : Job) (prefix : List ℕ) (site : Path) (object : Option PairtreeObject)
    → verdict_on_candidate job prefix site (option_map (object_seen longest) object) ≡ verdict_seen longest (verdict_on_candidate job prefix site object)
candidate_seen longest job prefix site None = refl
candidate_seen longest job prefix site (Some object) = identified longest object (identifier_at job.tuples prefix site)

finding_seen : (longest : ℕ) (job : Job) (prefix : List ℕ) (site : Path) (f : Forest) (found : Finding)
    → verdict_by_finding job prefix site (lengths_of longest f) found ≡ verdict_seen longest (verdict_by_finding job prefix site f found)
finding_seen longest job prefix site f finding.Interior = refl
finding_seen longest job prefix site f (finding.Skip why) = refl
finding_seen longest job prefix site f (finding.Candidate i) =
    ap (λ (f : Forest). verdict_on_candidate job prefix site (encapsulated site f)) (entries_seen_from longest i f)
    ∙ ap (verdict_on_candidate job prefix site) (encapsulated_seen longest site (entries_from i f))
    ∙ candidate_seen longest job prefix site (encapsulated site (entries_from i f))
finding_seen longest job prefix site f finding.Gathered =
    ap (λ (inside : Forest). verdict_on_object job prefix site (record { at = site; gathered = true; inside = inside })) (shorties_seen longest f)
    ∙ identified longest (gathered_from site f) (identifier_at job.tuples prefix site)

met_seen : (longest : ℕ) (job : Job) (prefix : List ℕ) (path : Path) (visit : Visit)
    → verdict_by_visit job prefix path (visit_seen longest visit) ≡ verdict_seen longest (verdict_by_visit job prefix path visit)
met_seen longest job prefix path (Listed inside) =
    ap (λ items. verdict_by_finding job prefix path (lengths_of longest inside) (found items (at_of path) (form_of job))) (listing-lengths longest inside)
    ∙ finding_seen longest job prefix path inside (found (listing_of inside) (at_of path) (form_of job))
met_seen longest job prefix path Past = refl
met_seen longest job prefix path Deep = refl
met_seen longest job prefix path Elsewhere = refl

ours_seen : (longest : ℕ) (share : Portion) (path : Path) (verdict : Verdict)
    → ours share path (verdict_seen longest verdict) ≡ verdict_seen longest (ours share path verdict)
ours_seen longest share path Interior = refl
ours_seen longest share path (Skip why) = by (tells_at share path)
  where
    by : (t : Bool) → cond t (Skip why) Interior ≡ verdict_seen longest (cond t (Skip why) Interior)
    by true = refl
    by false = refl
ours_seen longest share path (Named id object) = by (takes share path id)
  where
    by : (t : Bool) → cond t (Named id (object_seen longest object)) Interior ≡ verdict_seen longest (cond t (Named id object) Interior)
    by true = refl
    by false = refl

item_by : (longest : ℕ) (job : Job) (prefix : List ℕ) (site : Site) → item_of job prefix (site_seen longest site) ≡ item_seen longest (item_of job prefix site)
item_by longest job prefix (path, visit) =
    ap (λ (verdict : Verdict). record { path = path; visit = visit_seen longest visit; verdict = verdict })
    (ap (ours job.share path) (met_seen longest job prefix path visit) ∙ ours_seen longest job.share path (verdict_by_visit job prefix path visit))

items_by : (longest : ℕ) (job : Job) (prefix : List ℕ) (sites : List Site)
    → map (item_of job prefix) (map (site_seen longest) sites) ≡ map (item_seen longest) (map (item_of job prefix) sites)
items_by longest job prefix [] = refl
items_by longest job prefix (site ∷ sites) = λ i. item_by longest job prefix site i ∷ items_by longest job prefix sites i

pub items_seen : (longest : ℕ) (job : Job) (store : Forest) → items job (store_seen longest store) ≡ map (item_seen longest) (items job store)
items_seen longest job store =
    (λ i. map (item_of job (store_stays.prefix longest store i)) (sites_seen longest (reach_of job) store i))
    ∙ items_by longest job (prefix_of store) (sites_of (reach_of job) store)

-- ---- the outcome of an object

abbrev entry_seen : ℕ → Entry → Entry
entry_seen longest entry = (entry.0, node_lengths longest entry.1)

entries_seen : (longest : ℕ) (path : Path) (f : Forest) → entries_in path (lengths_of longest f) ≡ map (entry_seen longest) (entries_in path f)
entries_seen longest path none = refl
entries_seen longest path (file name bytes after) =
    ap (λ (es : List Entry). (path ++ name ∷ [], File (text_of_file longest bytes)) ∷ es) (entries_seen longest path after)
entries_seen longest path (other name after) = ap (λ (es : List Entry). (path ++ name ∷ [], Other) ∷ es) (entries_seen longest path after)
entries_seen longest path (dir name inside after) =
    (λ i. (path ++ name ∷ [], Dir (lengths_of longest inside)) ∷ (entries_seen longest (path ++ name ∷ []) inside i ++ entries_seen longest path after i))
    ∙ ap (λ (es : List Entry). (path ++ name ∷ [], Dir (lengths_of longest inside)) ∷ es)
    (sym (map-append (entry_seen longest) (entries_in (path ++ name ∷ []) inside) (entries_in path after)))

files_seen : (longest : ℕ) (es : List Entry) → files (map (entry_seen longest) es) ≡ map (file_seen longest) (files es)
files_seen longest [] = refl
files_seen longest ((path, File bytes) ∷ others) = ap (λ (fs : List CarriedFile). (path, text_of_file longest bytes) ∷ fs) (files_seen longest others)
files_seen longest ((path, Dir inside) ∷ others) = files_seen longest others
files_seen longest ((path, Other) ∷ others) = files_seen longest others

abbrev cause_in : Option (Entry × Cause) → Option Cause
cause_in bad = option_map (λ (bad : Entry × Cause). bad.1) bad

bad_by : (why : Option Cause) (e f : Entry) (x y : Option (Entry × Cause)) → cause_in x ≡ cause_in y → cause_in (bad_or why e x) ≡ cause_in (bad_or why f y)
bad_by None e f x y same = same
bad_by (Some why) e f x y same = refl

bad_seen : (limits : Bounds) (depth held : ℕ) (es : List Entry) → AreShort (files es)
    → cause_in (first_bad (limits_seen limits) depth held (map (entry_seen limits.file_bytes) es)) ≡ cause_in (first_bad limits depth held es)
bad_seen limits depth held [] short = refl
bad_seen limits depth held ((path, File bytes) ∷ others) short =
    let over = text_of_carried limits.file_bytes (length bytes)
    (All-head (λ (file : CarriedFile). length file.1 < 2 ^ 64) (path, bytes) (files others) short) in
    ap (λ t. cause_in (bad_or (cond (nat_le limits.files held || nat_lt limits.path_bytes (length (joined path)) || t) (Some cause.Limit) None)
    (path, File (text_of_file limits.file_bytes bytes)) (first_bad (limits_seen limits) depth (held + 1) (map (entry_seen limits.file_bytes) others)))) over
    ∙ bad_by (entry_cause limits depth held (path, File bytes)) _ _ _ _
    (bad_seen limits depth (held + 1) others (All-tail (λ (file : CarriedFile). length file.1 < 2 ^ 64) (path, bytes) (files others) short))
bad_seen limits depth held ((path, Dir inside) ∷ others) short =
    bad_by (entry_cause limits depth held (path, Dir inside)) _ _ _ _ (bad_seen limits depth held others short)
bad_seen limits depth held ((path, Other) ∷ others) short = refl

came_by : (longest : ℕ) (fs : List CarriedFile) (why : Option Cause) → outcome_by (map (file_seen longest) fs) why ≡ outcome_seen longest (outcome_by fs why)
came_by longest fs None = refl
came_by longest fs (Some why) = refl

pub outcomes_seen : (limits : Bounds) (object : PairtreeObject) → AreShort (files (entries object.inside))
    → outcome (limits_seen limits) (object_seen limits.file_bytes object) ≡ outcome_seen limits.file_bytes (outcome limits object)
outcomes_seen limits object short =
    (λ i. outcome_by (files (entries_seen limits.file_bytes [] object.inside i)) (cond (is_too_deep limits object) (Some cause.Limit)
    (cause_in (first_bad (limits_seen limits) (length object.at) 0 (entries_seen limits.file_bytes [] object.inside i)))))
    ∙ (λ i. outcome_by (files_seen limits.file_bytes (entries object.inside) i) (cond (is_too_deep limits object) (Some cause.Limit)
    (bad_seen limits (length object.at) 0 (entries object.inside) short i)))
    ∙ came_by limits.file_bytes (files (entries object.inside)) (cause_of limits object)
