-- What a source's items are held with is within its bound.
use Rattle.std.proofs.Common.{◌≡◌, ◌≤◌, ◌+◌, ℕ, zero, suc, false, List, [], ◌∷◌, ◌++◌, refl, ap, sym, ◌∙◌, append_assoc, arith, length}
use Rattle.std.specs.Prelude.{None, Some, flat_map, fold, max, slice_get}
use Rattle.std.proofs.lemmas.List.{length-append, map-append}
use Rattle.pt_object.specs.Distinct.{distinct, distinct_after}
use Rattle.pt_object.specs.FilePaths.{File}
use Rattle.pt_object.specs.Object.{row_of_file, rows_of}
use Rattle.pt_tree.specs.Forest.{Forest, Dir}
use Rattle.pt_tree.specs.Path.{Path}
use Rattle.pt_walk.proofs.BadEntries.{counts, looks_behind}
use Rattle.pt_walk.specs.Left.{inside_at, listed}
use Rattle.pt_walk.specs.Object.{Entry, before_bad, entries, files, first_bad}
use Rattle.pt_walk.specs.Sites.{Listed}
use Rattle.pt_plan.specs.Bound.{bound, dirs, greatest, held_at_item, path_of_dir, records_of, scanned}
use Rattle.pt_plan.specs.Items.{Item, Named, PairtreeObject, is_too_deep, item_of, items, verdict_of}
use Rattle.pt_plan.specs.Job.{Job, reach_of}
use Rattle.pt_plan.specs.Store.{pairtree_of, prefix_of, sites_of}
use Rattle.pt_invariant.proofs.held.DistinctRows.{distinct_in_turn, get_map}

-- ---- one of a list

-- it is one of them
pub record IsOne {X : Type 0} (x : X) (xs : List X) : Type 0 where
  pub index : ℕ
  pub is : slice_get xs index ≡ Some x

front_one : {X : Type 0} → {x : X} (xs ys : List X) (n : ℕ) → slice_get xs n ≡ Some x → slice_get (xs ++ ys) n ≡ Some x
front_one [] ys n is = absurd (cc)
front_one (_ ∷ _) _ zero is = is
front_one (_ ∷ xs) ys (suc n) is = front_one xs ys n is

pub one_in_front : {X : Type 0} → {x : X} {xs : List X} (ys : List X) → IsOne x xs → IsOne x (xs ++ ys)
one_in_front {xs} ys it = record { index = it.index; is = front_one xs ys it.index it.is }

pub one_behind : {X : Type 0} → {x : X} (xs : List X) {ys : List X} → IsOne x ys → IsOne x (xs ++ ys)
one_behind [] it = it
one_behind (_ ∷ xs) it = let later = one_behind xs it in record { index = suc later.index; is = later.is }

one_in_all : {X : Type 0} → (h : X → List ℕ) {x : X} {n : ℕ} (xs : List X) (k : ℕ) → slice_get xs k ≡ Some x → IsOne n (h x) → IsOne n (flat_map h xs)
one_in_all h [] k is it = absurd (cc)
one_in_all h {x} {n} (y ∷ xs) zero is it = one_in_front (flat_map h xs) (rw (let same : y ≡ x = cc in same) it)
one_in_all h (y ∷ xs) (suc k) is it = one_behind (h y) (one_in_all h xs k is it)

-- ---- the greatest number

from_there : (start : ℕ) (xs : List ℕ) → start ≤ fold max start xs
from_there start [] = omega arith
from_there start (x ∷ xs) = let later = from_there (max start x) xs in omega (arith, later)

not_above : (start : ℕ) (xs : List ℕ) (k : ℕ) {n : ℕ} → slice_get xs k ≡ Some n → n ≤ fold max start xs
not_above start [] k is = absurd (cc)
not_above start (x ∷ xs) zero {n} is = let same : x ≡ n = cc in let later = from_there (max start x) xs in omega (arith, later, same)
not_above start (x ∷ xs) (suc k) is = not_above (max start x) xs k is

pub below_greatest : {xs : List ℕ} {n : ℕ} → IsOne n xs → n ≤ greatest xs
below_greatest {xs} it = not_above 0 xs it.index it.is

-- ---- at a site and in its object

-- the item of a site
abbrev item_here : Job → Forest → Path → Item
item_here job source path = item_of job (prefix_of source) (path, Listed (inside_at (pairtree_of source) path))

within_item : (job : Job) (source : Forest) {path : Path} (count : ℕ) {n : ℕ}
    → slice_get (sites_of (reach_of job) source) count ≡ Some (path, Listed (inside_at (pairtree_of source) path))
    → IsOne n (held_at_item job (pairtree_of source) (item_here job source path)) → n ≤ bound job source
within_item job source {path} count site it =
    below_greatest
    (one_in_all (held_at_item job (pairtree_of source)) (items job source) count
    (get_map (item_of job (prefix_of source)) (sites_of (reach_of job) source) count _ site) it)

-- what is listed on the way to a site that is listed
pub site_within : (job : Job) (source : Forest) {path : Path} (count : ℕ)
    → slice_get (sites_of (reach_of job) source) count ≡ Some (path, Listed (inside_at (pairtree_of source) path))
    → listed (pairtree_of source) path ≤ bound job source
site_within job source {path} count site = within_item job source count site (record { index = 0; is = refl })

-- and, with all records of the object, at a directory of it
pub object_within : (job : Job) (source : Forest) {path : Path} (count : ℕ) {id : List ℕ} {object : PairtreeObject} {directory : Path}
    → slice_get (sites_of (reach_of job) source) count ≡ Some (path, Listed (inside_at (pairtree_of source) path))
    → verdict_of job (prefix_of source) path (Listed (inside_at (pairtree_of source) path)) ≡ Named id object → is_too_deep job.limits object ≡ false
    → IsOne directory ([] ∷ dirs (scanned job.limits object))
    → listed (pairtree_of source) (object.at ++ directory) + records_of job (files (scanned job.limits object)) ≤ bound job source
object_within job source {path} count {object} {directory} site named shallow one =
    within_item job source count site
    (one_behind (listed top path ∷ [])
    (rw named
    (rw shallow
    (record {
      index = one.index;
      is = get_map (λ (p : Path). listed top (object.at ++ p) + records_of job (files (scanned job.limits object)))
          ([] ∷ dirs (scanned job.limits object)) one.index directory one.is;
    }))))
  where
    top : Forest
    top = pairtree_of source

    n : ℕ
    n = listed (pairtree_of source) (object.at ++ directory) + records_of job (files (scanned job.limits object))

-- ---- the records of some files

-- of fewer files there are fewer records
pub fewer_records : (job : Job) (some others : List File) → records_of job some ≤ records_of job (some ++ others)
fewer_records job some others =
    let algorithm = job.algorithm in
    let rows : rows_of algorithm (some ++ others) ≡ rows_of algorithm some ++ rows_of algorithm others = map-append (row_of_file algorithm) some others in
    let more : length (distinct (rows_of algorithm (some ++ others))) ≡ length (distinct (rows_of algorithm some))
    + length (distinct_after (rows_of algorithm some) (rows_of algorithm others)) =
    ap (λ l. length (distinct l)) rows ∙ ap length (distinct_in_turn [] (rows_of algorithm some) (rows_of algorithm others))
    ∙ length-append (distinct (rows_of algorithm some)) (distinct_after (rows_of algorithm some) (rows_of algorithm others)) in
    let long = length-append some others in
    omega (arith, more, long)

-- entries without a cause are scanned
pub scanned_front : (job : Job) (object : PairtreeObject) (front left : List Entry) → entries object.inside ≡ front ++ left
    → first_bad job.limits (length object.at) 0 front ≡ None
    → scanned job.limits object ≡ front ++ before_bad job.limits (length object.at) (0 + length (files front)) left
scanned_front job object front left all good = ap (before_bad job.limits (length object.at) 0) all
    ∙ (looks_behind job.limits (length object.at) 0 front left good).1

pub front_records : (job : Job) (object : PairtreeObject) (front left : List Entry) → entries object.inside ≡ front ++ left
    → first_bad job.limits (length object.at) 0 front ≡ None
    → records_of job (files front) ≤ records_of job (files (scanned job.limits object))
front_records job object front left all good =
    let more = before_bad job.limits (length object.at) (0 + length (files front)) left in
    let same : files (scanned job.limits object) ≡ files front ++ files more = ap files (scanned_front job object front left all good)
    ∙ (counts front more).0 in
    let fewer = fewer_records job (files front) (files more) in
    rw same fewer

dirs_in_turn : (first later : List Entry) → dirs (first ++ later) ≡ dirs first ++ dirs later
dirs_in_turn [] _ = refl
dirs_in_turn (entry ∷ first) later = ap (λ (l : List Path). path_of_dir entry.0 entry.1 ++ l) (dirs_in_turn first later)
    ∙ sym (append_assoc (path_of_dir entry.0 entry.1) (dirs first) (dirs later))

-- a directory that was scanned is one of those
pub one_directory : (job : Job) (object : PairtreeObject) (front left : List Entry) {path : Path} (inside : Forest)
    → entries object.inside ≡ (front ++ (path, Dir inside) ∷ []) ++ left → first_bad job.limits (length object.at) 0 (front ++ (path, Dir inside) ∷ []) ≡ None
    → IsOne path ([] ∷ dirs (scanned job.limits object))
one_directory job object front left {path} inside all good =
    let more = before_bad job.limits (length object.at) (0 + length (files (front ++ (path, Dir inside) ∷ []))) left in
    let same : dirs (scanned job.limits object) ≡ (dirs front ++ path ∷ []) ++ dirs more =
    ap dirs (scanned_front job object (front ++ (path, Dir inside) ∷ []) left all good) ∙ dirs_in_turn (front ++ (path, Dir inside) ∷ []) more
    ∙ ap (λ (l : List Path). l ++ dirs more) (dirs_in_turn front ((path, Dir inside) ∷ [])) in
    rw same
    (one_behind ([] ∷ [])
    (one_in_front (dirs more) (one_behind (dirs front) (record { index = 0; is = refl }))))
