-- What a run carried is found to stand whole where it left it.
use Rattle.std.proofs.Common.{◌≡◌, ◌∙◌, ℕ, zero, suc, List, [], ◌∷◌, ◌++◌, true, false, Bool, refl, ap, sym, subst, arith, append_assoc, length}
use Rattle.std.specs.Prelude.{All, Option, None, Some, Ok, Err, cond, flat_map, if◌then◌else◌, is_none, nat_lt, slice_get, take, ⊤}
use Rattle.std.specs.List.{list_all}
use Rattle.std.specs.Option.{option_map}
use Rattle.std.specs.Str.{IsUtf8, is_utf8}
use Rattle.std.specs.List.{concat}
use Rattle.std.proofs.lemmas.Str.{encode_ascii, IsUtf8-append, IsUtf8-encode, IsUtf8-from_is_utf8, IsUtf8-nil}
use Rattle.std.proofs.lemmas.Bool.{and_parts}
use Rattle.std.proofs.lemmas.List.Elements.{All-cons, All-head, All-nil, All-tail}
use Rattle.pt_audit.specs.AuditLaws.{AuditAfterRunIsSound, HasRun, IsLeftBy, NoneIsTaken, WhatWasCarriedIsTheSame}
use Rattle.pt_audit.specs.Auditing.{Finds, IsFoundOf, Leads, Next, Nothing, Passes, TellsOf, Told, sought}
use Rattle.pt_audit.specs.Counting.{counts_with}
use Rattle.pt_audit.specs.declared.counts.Counts.{Counts}
use Rattle.pt_audit.specs.declared.compare_by.CompareBy.TheVariants.{Bytes}
use Rattle.pt_compare.proofs.Compared.{stored_order}
use Rattle.pt_compare.proofs.Exact.{standing_object_is_the_same}
use Rattle.pt_compare.specs.Described.{IsGiven}
use Rattle.pt_compare.specs.Found.{IsFound}
use Rattle.pt_compare.specs.Marks.{inside}
use Rattle.pt_compare.specs.declared.difference.Comparison.{Comparison}
use Rattle.pt_compare.specs.declared.difference.Comparison.TheVariants as found
use Rattle.pt_invariant.proofs.source.ScannedFiles.{get_map_back}
use Rattle.pt_name.specs.Identifying.{identifier_by}
use Rattle.pt_name.specs.Place.{place_of}
use Rattle.pt_name.specs.Prefix.{without_line_ends}
use Rattle.pt_name.specs.Reading.{reading_of}
use Rattle.pt_name.specs.declared.identifying.Refusal.TheVariants as refusal
use Rattle.pt_name.specs.declared.prefix.PrefixFault.TheVariants as prefix
use Rattle.pt_object.proofs.InventoryIsText.{inventory_is_text}
use Rattle.pt_object.proofs.ObjectScripts.{in_order_apart, paths_of_rows}
use Rattle.pt_object.specs.FilePaths.{File, paths_of}
use Rattle.pt_tree.specs.PathOrder.{is_logical, part_in_order}
use Rattle.pt_object.specs.Inventory.{inventory_text}
use Rattle.pt_object.specs.Object.{bytes_in, object_of, row_of_file, rows_of}
use Rattle.pt_object.specs.declared.algorithm.Algorithm.{Algorithm}
use Rattle.pt_object.specs.declared.rows.Row.{Row}
use Rattle.pt_plan.proofs.CarriedFiles.{carried_files_come_in_order}
use Rattle.pt_plan.proofs.Growing.{all_items_are_all, taken_against_earlier}
use Rattle.pt_plan.proofs.MovedIn.{roots_have_no_gaps}
use Rattle.pt_plan.proofs.WholeObjects.{carried_stand_whole}
use Rattle.pt_plan.specs.Carried.{Carried, Marked, after, after_all, all_carried, carried_among, carried_by, carried_by_outcome, is_taken, marked}
use Rattle.pt_plan.specs.FileLaws.{comes_in_order}
use Rattle.pt_plan.specs.Items.{
  Holds,
  Interior,
  Item,
  Named,
  PairtreeObject,
  Skip,
  Verdict,
  encapsulated,
  gathered_from,
  is_ours,
  is_reserved,
  item_of,
  items,
  outcome,
  verdict_by_finding,
  verdict_by_identifier,
  verdict_by_visit,
  verdict_on_candidate,
}
use Rattle.pt_plan.specs.Job.{Job, form_of, reach_of}
use Rattle.pt_plan.specs.Lines.{Line}
use Rattle.pt_plan.specs.Roots.{root_in, storage_root}
use Rattle.pt_plan.specs.Store.{prefix_file, prefix_in, prefix_of, sites_of}
use Rattle.pt_plan.specs.TurnWalk.{in_root}
use Rattle.pt_plan.specs.WholeLaws.{StandsWhole}
use Rattle.pt_tree.specs.Forest.{Forest, Node, File as FileNode, Dir, Other, find, is_proper, listing_of}
use Rattle.pt_tree.specs.Name.{is_name}
use Rattle.pt_tree.specs.Path.{Path, joined}
use Rattle.pt_walk.specs.Left.{entries_from}
use Rattle.pt_walk.specs.Site.{found as found_at}
use Rattle.pt_walk.specs.Sites.{Site, Visit, Listed, Past, Deep, Elsewhere, at_of}
use Rattle.pt_walk.specs.declared.site.Finding as walk
use Rattle.pt_walk.specs.declared.site.Finding.TheVariants as finding
use Rattle.pt_tree.specs.Tree.{IsTree, Tree, tree_of}

-- ---- lists

-- what holds of all of two lists holds of all of the second
behind : {X : Type 0} (P : X → Type 0) (xs ys : List X) → All P (xs ++ ys) → All P ys
behind P [] ys all = all
behind P (x ∷ xs) ys all = behind P xs ys (All-tail P x (xs ++ ys) all)

-- and of the only one that an element gives
of_one : {X Y : Type 0} (P : Y → Type 0) (f : X → List Y) (xs : List X) (k : ℕ) (x : X) (y : Y) → slice_get xs k ≡ Some x → f x ≡ y ∷ [] → All P (flat_map f xs)
    → P y
of_one P f [] k x y is gives all = absurd (cc)
of_one P f (z ∷ xs) zero x y is gives all =
    let same : z ≡ x = cc in
    All-head P y (flat_map f xs) (subst (λ l. All P (l ++ flat_map f xs)) (ap f same ∙ gives) all)
of_one P f (z ∷ xs) (suc k) x y is gives all = of_one P f xs k x y is gives (behind P (f z) (flat_map f xs) all)

each_of : {X : Type 0} (p : X → Bool) (xs : List X) → list_all p xs ≡ true → All (λ x. p x ≡ true) xs
each_of p [] h = All-nil (λ x. p x ≡ true)
each_of p (x ∷ xs) h = let parts = and_parts (p x) (list_all p xs) h in All-cons (λ y. p y ≡ true) x xs parts.0 (each_of p xs parts.1)

-- ---- one object that was carried

module _ (job : Job) (source root : Forest) (start : Tree) (proper : is_proper source ≡ true) (tree : IsTree start) (left : IsLeftBy job source start root)
  where
    all_are : (carried_among job source (root_in start) (length (items job source)) ≡ all_carried job source (root_in start))
        × (after job source (root_in start) (length (items job source)) ≡ after_all job source (root_in start))
    all_are = let all = all_items_are_all job source (root_in start) (length (items job source)) (omega arith) in (all.0, all.1)

    whole : All (StandsWhole job (after_all job source (root_in start))) (all_carried job source (root_in start))
    whole =
        subst (λ (t : Tree). All (StandsWhole job t) (all_carried job source (root_in start))) all_are.1
        (subst (λ (l : List Carried). All (StandsWhole job (after job source (root_in start) (length (items job source)))) l) all_are.0
        (carried_stand_whole job source (root_in start) (length (items job source)) (roots_have_no_gaps start tree).0))

    in_order : All (λ object. comes_in_order object.files ≡ true) (all_carried job source (root_in start))
    in_order =
        each_of (λ (object : Carried). comes_in_order object.files) (all_carried job source (root_in start))
        (subst (λ (l : List Carried). list_all (λ object. comes_in_order object.files) l ≡ true) all_are.0
        (carried_files_come_in_order job source (root_in start) (length (items job source)) proper))

    module _ (k : ℕ) (item : Item) (id : List ℕ) (object : PairtreeObject) (files : List File) (marked_so : slice_get (marked job source (root_in start)) k
        ≡ Some (item, false)) (named : item.verdict ≡ Named id object) (holds : outcome job.limits object ≡ Holds files) where
      abbrev it : Carried
      it = record { id = id; files = files }

      gives : carried_by job false item.verdict ≡ it ∷ []
      gives = ap (carried_by job false) named ∙ ap (carried_by_outcome id) holds

      pub comes : comes_in_order files ≡ true
      comes = of_one (λ (object : Carried). comes_in_order object.files ≡ true) (λ (m : Marked). carried_by job m.1 m.0.verdict)
          (marked job source (root_in start)) k (item, false) it marked_so gives in_order

      stands : (q : Path) → inside root (in_root (place_of job.tuples id)) q ≡ object_of id files job.meta job.algorithm q
      stands q =
          ap (tree_of root) (append_assoc storage_root (place_of job.tuples id) q)
          ∙ left (place_of job.tuples id ++ q)
          ∙ of_one (StandsWhole job (after_all job source (root_in start))) (λ (m : Marked). carried_by job m.1 m.0.verdict)
          (marked job source (root_in start)) k (item, false) it marked_so gives whole q

      pub is_the_same : IsGiven job.meta → IsUtf8 (inventory_text id (rows_of job.algorithm files) job.meta job.algorithm) → (finding : Comparison)
          → IsFound (sought job id files) (inside root (in_root (place_of job.tuples id))) finding → finding ≡ found.Same
      is_the_same given text finding is_found =
          standing_object_is_the_same (sought job id files) (inside root (in_root (place_of job.tuples id))) finding order
          (in_order_apart (paths_of (sought job id files).stored) order)
          (inventory_text id (rows_of job.algorithm files) job.meta job.algorithm, record { is_text = text; meta = job.meta; given = given; is = refl }, stands)
          is_found
        where
          order : part_in_order (paths_of (sought job id files).stored) ≡ true
          order = stored_order (bytes_in files) (rows_of job.algorithm files) (ap part_in_order (paths_of_rows job.algorithm files) ∙ (and_parts _ _ comes).0)

-- ---- what is text

prefix_is_text : (o : Option Node) → IsUtf8 (prefix_in o)
prefix_is_text None = IsUtf8-nil
prefix_is_text (Some (FileNode bytes)) = by (nat_lt 1024 (length bytes)) (is_utf8 (without_line_ends bytes)) refl
  where
    by : (long good : Bool) → is_utf8 (without_line_ends bytes) ≡ good
        → IsUtf8 (cond (is_none (if long then Some prefix.TooLong else if good then None else Some prefix.NotUtf8)) (without_line_ends bytes) [])
    by true good is = IsUtf8-nil
    by false true is = IsUtf8-from_is_utf8 (without_line_ends bytes) is
    by false false is = IsUtf8-nil
prefix_is_text (Some (Dir inside)) = IsUtf8-nil
prefix_is_text (Some Other) = IsUtf8-nil

-- where a verdict names an object, its identifier is
abbrev HasText : Verdict → Type 0
HasText Interior = ⊤
HasText (Skip why) = ⊤
HasText (Named id object) = IsUtf8 id

module _ (job : Job) (first : List ℕ) (text : IsUtf8 first) where
  by_reading : (object : PairtreeObject) (o : Option (List ℕ)) → HasText (verdict_by_identifier object (identifier_by job.tuples first o))
  by_reading object None = tt
  by_reading object (Some read) = by (is_utf8 read) (is_reserved job (first ++ read)) refl
    where
      by : (good reserved : Bool) → is_utf8 read ≡ good
          → HasText (verdict_by_identifier object (cond good (cond reserved (Err refusal.Reserved) (Ok (first ++ read))) (Err refusal.NotUtf8)))
      by true true is = tt
      by true false is = IsUtf8-append first read text (IsUtf8-from_is_utf8 read is)
      by false reserved is = tt

  by_candidate : (site : Path) (o : Option PairtreeObject) → HasText (verdict_on_candidate job first site o)
  by_candidate site None = tt
  by_candidate site (Some object) = by_reading object (reading_of (concat site))

  by_finding : (site : Path) (inside : Forest) (f : walk.Finding) → HasText (verdict_by_finding job first site inside f)
  by_finding site inside finding.Interior = tt
  by_finding site inside (finding.Skip why) = tt
  by_finding site inside (finding.Candidate i) = by_candidate site (encapsulated site (entries_from i inside))
  by_finding site inside finding.Gathered = by_reading (gathered_from site inside) (reading_of (concat site))

  by_visit : (path : Path) (visit : Visit) → HasText (verdict_by_visit job first path visit)
  by_visit path (Listed inside) = by_finding path inside (found_at (listing_of inside) (at_of path) (form_of job))
  by_visit path Past = tt
  by_visit path Deep = tt
  by_visit path Elsewhere = tt

  of_ours : (share : Bool) (v : Verdict) → HasText v → HasText (cond share v Interior)
  of_ours true v has = has
  of_ours false v has = tt

  of_site : (site : Site) → HasText (item_of job first site).verdict
  of_site site = of_ours (is_ours job.share site.0 (verdict_by_visit job first site.0 site.1)) (verdict_by_visit job first site.0 site.1)
      (by_visit site.0 site.1)

id_is_text : (job : Job) (source : Forest) (k : ℕ) (item : Item) (id : List ℕ) (object : PairtreeObject) → slice_get (items job source) k ≡ Some item
    → item.verdict ≡ Named id object → IsUtf8 id
id_is_text job source k item id object is named =
    let site = get_map_back (item_of job (prefix_of source)) (sites_of (reach_of job) source) k item is in
    subst HasText (ap (λ (i : Item). i.verdict) site.2 ∙ named) (of_site job (prefix_of source) (prefix_is_text (find source prefix_file)) site.0)

name_is_text : (name : List ℕ) → is_name name ≡ true → IsUtf8 name
name_is_text name is = by (is_utf8 name) refl
  where
    by : (t : Bool) → is_utf8 name ≡ t → IsUtf8 name
    by true e = IsUtf8-from_is_utf8 name e
    by false e = absurd (grind (arith, e, is))

slash : IsUtf8 (47 ∷ [])
slash = subst IsUtf8 (encode_ascii 47 (omega arith)) (IsUtf8-encode 47 refl)

names_are_text : (path : Path) → list_all is_name path ≡ true → IsUtf8 (joined path)
names_are_text [] all = IsUtf8-nil
names_are_text (x ∷ []) all = name_is_text x (and_parts (is_name x) true all).0
names_are_text (x ∷ y ∷ path) all =
    let both = and_parts (is_name x) (list_all is_name (y ∷ path)) all in
    IsUtf8-append x (47 ∷ joined (y ∷ path)) (name_is_text x both.0) (IsUtf8-append (47 ∷ []) (joined (y ∷ path)) slash (names_are_text (y ∷ path) both.1))

path_is_text : (path : Path) → is_logical path ≡ true → IsUtf8 (joined path)
path_is_text [] is = absurd (cc)
path_is_text (x ∷ path) is = names_are_text (x ∷ path) is

paths_are_text : (algorithm : Algorithm) (files : List File) → list_all is_logical (paths_of files) ≡ true
    → All (λ row. IsUtf8 (joined row.path)) (rows_of algorithm files)
paths_are_text algorithm [] all = All-nil (λ (row : Row). IsUtf8 (joined row.path))
paths_are_text algorithm (file ∷ files) all =
    let both = and_parts (is_logical file.0) (list_all is_logical (paths_of files)) all in
    All-cons (λ (row : Row). IsUtf8 (joined row.path)) (row_of_file algorithm file) (rows_of algorithm files) (path_is_text file.0 both.0)
    (paths_are_text algorithm files both.1)

-- ---- the laws

-- an item with a mark
abbrev with_mark : (Item → Bool) → Item → Marked
with_mark taken item = (item, taken item)

-- an item that was marked is the one of that number
of_marked : (o : Option Item) (taken : Item → Bool) (m : Marked) → Some m ≡ option_map (with_mark taken) o → o ≡ Some m.0
of_marked None taken m is = absurd (cc)
of_marked (Some item) taken m is = let same : m ≡ with_mark taken item = cc in ap (λ (n : Marked). Some n.0) (sym same)

pub what_was_carried_is_the_same : WhatWasCarriedIsTheSame
what_was_carried_is_the_same job source root start k item finding run marked_so it =
    is_the_same job source root start run.source_is run.start_is run.left k item it.id it.object it.files marked_so it.named it.whole run.given text finding
    it.found
  where
    ordered : comes_in_order it.files ≡ true
    ordered = comes job source root start run.source_is run.start_is run.left k item it.id it.object it.files marked_so it.named it.whole

    at : slice_get (items job source) k ≡ Some item
    at = of_marked (slice_get (items job source) k) (λ i. is_taken job (root_in start) (take k (items job source)) i.verdict) (item, false) (sym marked_so
        ∙ taken_against_earlier job source (root_in start) k)

    text : IsUtf8 (inventory_text it.id (rows_of job.algorithm it.files) job.meta job.algorithm)
    text = inventory_is_text it.id (rows_of job.algorithm it.files) job.meta job.algorithm (id_is_text job source k item it.id it.object at it.named)
        (paths_are_text job.algorithm it.files (and_parts (part_in_order (paths_of it.files)) (list_all is_logical (paths_of it.files)) ordered).1) run.texts

abbrev marked_with : Item → Bool → Option Marked
marked_with item taken = Some (item, taken)

-- an item that is told of is carried where no place is taken
none_taken : (job : Job) (source : Forest) (root : Tree) (k : ℕ) (item : Item) → NoneIsTaken job source root → slice_get (items job source) k ≡ Some item
    → slice_get (marked job source root) k ≡ Some (item, false)
none_taken job source root k item none is = by (is_taken job root (take k (items job source)) item.verdict) refl
  where
    by : (t : Bool) → is_taken job root (take k (items job source)) item.verdict ≡ t → slice_get (marked job source root) k ≡ Some (item, false)
    by true e = absurd (none k item (marked_as true e))
      where
        marked_as : (t : Bool) → is_taken job root (take k (items job source)) item.verdict ≡ t → slice_get (marked job source root) k ≡ Some (item, t)
        marked_as t e = taken_against_earlier job source root k ∙ ap (option_map
            (with_mark (λ (i : Item). is_taken job root (take k (items job source)) i.verdict))) is ∙ ap (marked_with item) e
    by false e = taken_against_earlier job source root k ∙ ap (option_map (with_mark (λ (i : Item). is_taken job root (take k (items job source)) i.verdict)))
        is ∙ ap (marked_with item) e

-- the counts of what was told stay where each finding is that it stands
one_told : {job : Job} {source root : Forest} {item : Item} {lines : List Line} {more : List ℕ} {counts later : Counts}
    → ((finding : Comparison) → IsFoundOf Bytes job source root item finding → finding ≡ found.Same)
    → TellsOf Bytes job source root item lines more counts later
    → (later.absent ≡ counts.absent) × (later.differs ≡ counts.differs)
one_told same Leads = (refl, refl)
one_told same (Passes at why) = (refl, refl)
one_told {counts = counts} same (Finds finding it) = by finding (same finding it)
  where
    by : (f : Comparison) → f ≡ found.Same → ((counts_with f counts).absent ≡ counts.absent) × ((counts_with f counts).differs ≡ counts.differs)
    by f is = (ap (λ (g : Comparison). (counts_with g counts).absent) is, ap (λ (g : Comparison). (counts_with g counts).differs) is)

all_told : (job : Job) (source root : Forest) (start : Tree) → HasRun job source start root → NoneIsTaken job source (root_in start)
    → {n : ℕ} {text : List ℕ} {counts : Counts} → Told Bytes job source root n text counts → (counts.absent ≡ 0) × (counts.differs ≡ 0)
all_told job source root start run none Nothing = (refl, refl)
all_told job source root start run none (Next {n = n} item told there tells) =
    let before = all_told job source root start run none told in
    let now = one_told (λ finding it. what_was_carried_is_the_same job source root start n item finding run
    (none_taken job source (root_in start) n item none there) it) tells in
    (now.0 ∙ before.0, now.1 ∙ before.1)

pub audit_after_run_is_sound : AuditAfterRunIsSound
audit_after_run_is_sound job source root start text counts run none it = all_told job source root start run none it.told
