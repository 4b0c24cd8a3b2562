-- What the shares of a store carry and tell is what one run carries and tells, each of one share.
use Rattle.std.proofs.Common.{
  ◌≡◌,
  ◌≢◌,
  ◌≤◌,
  ◌+◌,
  ◌==◌,
  ◌&&◌,
  ℕ,
  Bool,
  true,
  false,
  List,
  [],
  ◌∷◌,
  ◌++◌,
  arith,
  ap,
  sym,
  ◌∙◌,
  refl,
  cond,
  map,
  eq-eqb,
  nat_lt,
  length,
}
use Rattle.std.specs.Prelude.{◌||◌, not, Option, None, Some, Ok, Err, count_by, flat_map, is_none, is_some}
use Rattle.std.specs.List.{concat, list_all, list_any}
use Rattle.std.specs.Str.{is_utf8}
use Rattle.std.proofs.lemmas.Bool.{and_from, and_parts, eqb-true, true≢false}
use Rattle.std.proofs.lemmas.List.{map-append}
use Rattle.std.proofs.lemmas.List.Folds.{list_all-append}
use Rattle.std.proofs.lemmas.List.Sums.{sum_by-append}
use Rattle.pt_tree.proofs.Texts.{is_utf8-append, is_utf8-empty}
use Rattle.pt_name.proofs.Shares.{whole_number}
use Rattle.pt_name.specs.Identifying.{identifier_by}
use Rattle.pt_name.specs.Place.{place_of}
use Rattle.pt_name.specs.Prefix.{without_line_ends}
use Rattle.pt_name.specs.Reading.{reading_of}
use Rattle.pt_name.specs.declared.identifying.Refusal.TheVariants as refusal
use Rattle.pt_name.specs.declared.prefix.PrefixFault.TheVariants as fault
use Rattle.pt_name.specs.Share.{
  Portion,
  by_division,
  chosen,
  holds,
  is_first,
  is_on_own_way,
  numbered,
  share_number,
  whole,
}
use Rattle.pt_name.specs.declared.division.Division.TheVariants as division
use Rattle.pt_name.specs.Tuples.{Tuples}
use Rattle.pt_tree.proofs.AtPaths.{same_from}
use Rattle.pt_tree.specs.Forest.{Forest, Node, File, find, listing_of}
use Rattle.pt_tree.specs.Path.{Path, same_path}
use Rattle.pt_tree.specs.Tree.{Tree}
use Rattle.pt_walk.specs.Left.{entries_from}
use Rattle.pt_walk.specs.Site.{found}
use Rattle.pt_walk.specs.Sites.{Reach, Site, Visit, Listed, at_of}
use Rattle.pt_walk.specs.declared.cause.Cause.{Cause}
use Rattle.pt_walk.specs.declared.site.Finding.{Finding}
use Rattle.pt_walk.specs.declared.site.Finding.TheVariants as finding
use Rattle.pt_plan.specs.Carried.{Marked, has_place, is_taken, marked, marked_after}
use Rattle.pt_plan.specs.Items.{
  Interior,
  Item,
  Named,
  PairtreeObject,
  Skip,
  Verdict,
  cause_of,
  encapsulated,
  gathered_from,
  is_ours,
  is_reserved,
  item_of,
  items,
  ours,
  verdict_by_finding,
  verdict_by_identifier,
  verdict_by_visit,
  verdict_on_candidate,
}
use Rattle.pt_plan.specs.Job.{Job, form_of, reach_of}
use Rattle.pt_plan.specs.Lines.{Line, Skipped, line_by_verdict, line_of}
use Rattle.pt_plan.specs.ShareLaws.{ChoicesTellTheWhole, Divide, IsOneOf, KnowsAll, SharesTellTheWhole, is_known, of_whole, sum_of_shares, with_share}
use Rattle.pt_plan.specs.Store.{prefix_file, prefix_in, prefix_of, sites_of}
use Rattle.pt_plan.proofs.ShareNumbers.{number_within, one_share}
use Rattle.pt_plan.proofs.ShareSums.{same_sums, sum_at_one, sum_of_both, sum_of_none, sums_within}

-- ---- the share has no part in what an item is

candidate_same : (job : Job) (share : Portion) (prefix : List ℕ) (site : Path) (object : Option PairtreeObject)
    → verdict_on_candidate (with_share job share) prefix site object ≡ verdict_on_candidate job prefix site object
candidate_same _ _ _ _ None = refl
candidate_same _ _ _ _ (Some _) = refl

finding_same : (job : Job) (share : Portion) (prefix : List ℕ) (site : Path) (inside : Forest) (what : Finding)
    → verdict_by_finding (with_share job share) prefix site inside what ≡ verdict_by_finding job prefix site inside what
finding_same _ _ _ _ _ finding.Interior = refl
finding_same _ _ _ _ _ (finding.Skip _) = refl
finding_same job share prefix site inside (finding.Candidate i) = candidate_same job share prefix site (encapsulated site (entries_from i inside))
finding_same _ _ _ _ _ finding.Gathered = refl

pub visit_same : (job : Job) (share : Portion) (prefix : List ℕ) (path : Path) (visit : Visit)
    → verdict_by_visit (with_share job share) prefix path visit ≡ verdict_by_visit job prefix path visit
visit_same job share prefix path (Listed inside) = finding_same job share prefix path inside (found (listing_of inside) (at_of path) (form_of job))
visit_same _ _ _ _ _ = refl

-- how far a store is walked by identifiers, and in the whole
abbrev pub full_reach : Job → Reach
full_reach job = record { depth = job.limits.depth; walks = λ path. true }

-- an item, whatever share it is of
abbrev pub bare : Job → List ℕ → Site → Item
bare job prefix site = record { path = site.0; visit = site.1; verdict = verdict_by_visit job prefix site.0 site.1 }

abbrev pub bare_items : Job → Forest → List Item
bare_items job source = map (bare job (prefix_of source)) (sites_of (full_reach job) source)

-- by identifiers, what has one is of the share that holds it, and what is passed over before one is carried of the first
abbrev pub is_own : Portion → Verdict → Bool
is_own share Interior = true
is_own share (Skip why) = is_first share
is_own share (Named id object) = holds share id

abbrev pub own : Portion → Verdict → Verdict
own share verdict = cond (is_own share verdict) verdict Interior

-- the item in a share
abbrev in_share : Portion → Item → Item
in_share share item = record { path = item.path; visit = item.visit; verdict = own share item.verdict }

own_same : (share : Portion) → share.division ≡ division.Identifiers → (path : Path) (v : Verdict) → is_ours share path v ≡ is_own share v
own_same share e path Interior = refl
own_same share e path (Skip why) = λ i. by_division (e i) (is_first share) (is_on_own_way share path)
own_same share e path (Named id object) = (λ i. chosen share.only share.list id
    && by_division (e i) (share_number share.count id == share.index) (is_on_own_way share path))
    ∙ sym (λ i. chosen share.only share.list id && by_division (e i) (share_number share.count id == share.index) (λ depth. is_first share))

items_on : (job : Job) (share : Portion) (prefix : List ℕ) (ways : List Site) → share.division ≡ division.Identifiers
    → map (item_of (with_share job share) prefix) ways ≡ map (in_share share) (map (bare job prefix) ways)
items_on _ _ _ [] _ = refl
items_on job share prefix (site ∷ ways) e = ap (λ (v : Verdict). record { path = site.0; visit = site.1; verdict = v }
    ∷ map (item_of (with_share job share) prefix) ways) (ap (ours share site.0) (visit_same job share prefix site.0 site.1)
    ∙ ap (λ b. cond b (verdict_by_visit job prefix site.0 site.1) Interior) (own_same share e site.0 (verdict_by_visit job prefix site.0 site.1)))
    ∙ ap (λ (l : List Item). in_share share (bare job prefix site) ∷ l) (items_on job share prefix ways e)

-- by identifiers all is walked
walks_all : (job : Job) (share : Portion) → share.division ≡ division.Identifiers → reach_of (with_share job share) ≡ full_reach job
walks_all job share e = λ i. record {
  depth = job.limits.depth;
  walks = λ site. not (by_division (e i) false (λ folders. length site == folders)) || by_division (e i) true (is_on_own_way share site);
}

items_in : (job : Job) (share : Portion) (source : Forest) → share.division ≡ division.Identifiers
    → items (with_share job share) source ≡ map (in_share share) (bare_items job source)
items_in job share source e = ap (λ (r : Reach). map (item_of (with_share job share) (prefix_of source)) (sites_of r source)) (walks_all job share e)
    ∙ items_on job share (prefix_of source) (sites_of (full_reach job) source) e

-- ---- identifiers are texts

abbrev pub is_text : Verdict → Bool
is_text = is_known is_utf8

prefix_text : (node : Option Node) → is_utf8 (prefix_in node) ≡ true
prefix_text (Some (File bytes)) = by (nat_lt 1024 (length bytes)) (is_utf8 (without_line_ends bytes)) refl
  where
    by : (long text : Bool) → is_utf8 (without_line_ends bytes) ≡ text
        → is_utf8 (cond (is_none (cond long (Some fault.TooLong) (cond text None (Some fault.NotUtf8)))) (without_line_ends bytes) []) ≡ true
    by true text h = is_utf8-empty
    by false true h = h
    by false false h = is_utf8-empty
prefix_text _ = is_utf8-empty

text_by_reading : (job : Job) (prefix : List ℕ) (object : PairtreeObject) (reading : Option (List ℕ)) → is_utf8 prefix ≡ true
    → is_text (verdict_by_identifier object (identifier_by job.tuples prefix reading)) ≡ true
text_by_reading _ _ _ None _ = refl
text_by_reading job prefix object (Some read) u = by (is_utf8 read) (is_reserved job (prefix ++ read)) refl
  where
    by : (t r : Bool) → is_utf8 read ≡ t
        → is_text (verdict_by_identifier object (cond t (cond r (Err refusal.Reserved) (Ok (prefix ++ read))) (Err refusal.NotUtf8))) ≡ true
    by false r h = refl
    by true true h = refl
    by true false h = is_utf8-append prefix read u h

text_by_candidate : (job : Job) (prefix : List ℕ) (site : Path) (object : Option PairtreeObject) → is_utf8 prefix ≡ true
    → is_text (verdict_on_candidate job prefix site object) ≡ true
text_by_candidate _ _ _ None _ = refl
text_by_candidate job prefix site (Some object) u = text_by_reading job prefix object (reading_of (concat site)) u

text_by_finding : (job : Job) (prefix : List ℕ) (site : Path) (inside : Forest) (what : Finding) → is_utf8 prefix ≡ true
    → is_text (verdict_by_finding job prefix site inside what) ≡ true
text_by_finding _ _ _ _ finding.Interior _ = refl
text_by_finding _ _ _ _ (finding.Skip _) _ = refl
text_by_finding job prefix site inside (finding.Candidate i) u = text_by_candidate job prefix site (encapsulated site (entries_from i inside)) u
text_by_finding job prefix site inside finding.Gathered u = text_by_reading job prefix (gathered_from site inside) (reading_of (concat site)) u

text_by_visit : (job : Job) (prefix : List ℕ) (path : Path) (visit : Visit) → is_utf8 prefix ≡ true → is_text (verdict_by_visit job prefix path visit) ≡ true
text_by_visit job prefix path (Listed inside) u = text_by_finding job prefix path inside (found (listing_of inside) (at_of path) (form_of job)) u
text_by_visit _ _ _ _ _ = refl

-- an item whose identifier passes the test
abbrev pub known_item : (List ℕ → Bool) → Item → Bool
known_item known item = is_known known item.verdict

abbrev pub text_item : Item → Bool
text_item = known_item is_utf8

texts_on : (job : Job) (prefix : List ℕ) (ways : List Site) → is_utf8 prefix ≡ true → list_all text_item (map (bare job prefix) ways) ≡ true
texts_on _ _ [] _ = refl
texts_on job prefix (site ∷ ways) u = and_from _ _ (text_by_visit job prefix site.0 site.1 u) (texts_on job prefix ways u)

pub texts_in : (job : Job) (source : Forest) → list_all text_item (bare_items job source) ≡ true
texts_in job source = texts_on job _ (sites_of (full_reach job) source) (prefix_text (find source prefix_file))

-- ---- what is taken

-- what takes an identifier takes the others that pass the test and have its place
pub record TakesPlaces (tuples : Tuples) (known : List ℕ → Bool) (share : Portion) : Type 0 where
  pub identifiers : share.division ≡ division.Identifiers
  pub too : (a b : List ℕ) → known a ≡ true → known b ≡ true → place_of tuples a ≡ place_of tuples b → holds share b ≡ true → holds share a ≡ true

-- so a share does
pub numbered_places : (tuples : Tuples) (index count : ℕ) → TakesPlaces tuples is_utf8 (numbered index count)
numbered_places tuples index count = record {
  identifiers = refl;
  too = λ a b t u same held. ap (λ n. n == index) (one_share tuples count a b t u same) ∙ held;
}

-- and the whole
pub whole_places : (tuples : Tuples) (known : List ℕ → Bool) → TakesPlaces tuples known whole
whole_places tuples known = record {
  identifiers = refl;
  too = λ a b _ _ _ _. eq-eqb (share_number 1 a) 1 (whole_number a);
}

-- and each of some choices that divide the identifiers
pub divided_places : {tuples : Tuples} {known : List ℕ → Bool} {count : ℕ} {choices : ℕ → Portion} → Divide tuples known count choices → (index : ℕ)
    → IsOneOf count index → TakesPlaces tuples known (choices index)
divided_places {choices = choices} divide index one = record {
  identifiers = divide.identifiers index one;
  too = λ a b t u same held.
      let (other, its, there) = divide.one a t in
      let here = divide.apart other index a b its one t u there held same in
      sym (ap (λ n. holds (choices n) a) here) ∙ there;
}

pub never : (b : Bool) → (b && false) ≡ false
never true = refl
never false = refl

place_in : (job : Job) {known : List ℕ → Bool} {share : Portion} (places : TakesPlaces job.tuples known share) (id : List ℕ) (v : Verdict)
    → is_known known v ≡ true → known id ≡ true → holds share id ≡ true
    → has_place (with_share job share) (place_of job.tuples id) (own share v) ≡ has_place job (place_of job.tuples id) v
place_in _ _ _ Interior _ _ _ = refl
place_in job {share = share} _ id (Skip why) _ _ _ = by (is_first share)
  where
    by : (b : Bool) → has_place (with_share job share) (place_of job.tuples id) (cond b (Skip why) Interior) ≡ false
    by true = refl
    by false = refl
place_in job {known} {share} places id (Named i o) t u h = by (holds share i) refl
  where
    apart : (s : Bool) → holds share i ≡ false → same_path (place_of job.tuples i) (place_of job.tuples id) ≡ s → s ≡ false
    apart false not same = refl
    apart true not same = absurd (true≢false (sym (places.too i id t u (same_from _ _ same) h) ∙ not))

    by : (b : Bool) → holds share i ≡ b → has_place (with_share job share) (place_of job.tuples id) (cond b (Named i o) Interior)
        ≡ has_place job (place_of job.tuples id) (Named i o)
    by true is = refl
    by false not = sym (ap (λ s. is_none (cause_of job.limits o) && s) (apart (same_path (place_of job.tuples i) (place_of job.tuples id)) not refl)
        ∙ never (is_none (cause_of job.limits o)))

any_in : (job : Job) {known : List ℕ → Bool} {share : Portion} (places : TakesPlaces job.tuples known share) (id : List ℕ) (earlier : List Item)
    → list_all (known_item known) earlier ≡ true → known id ≡ true → holds share id ≡ true
    → list_any (λ (item : Item). has_place (with_share job share) (place_of job.tuples id) item.verdict) (map (in_share share) earlier)
    ≡ list_any (λ (item : Item). has_place job (place_of job.tuples id) item.verdict) earlier
any_in _ _ _ [] _ _ _ = refl
any_in job places id (item ∷ earlier) t u h =
    let parts = and_parts _ _ t in
    λ k. place_in job places id item.verdict parts.0 u h k || any_in job places id earlier parts.1 u h k

-- ---- item by item

-- what is made of an item by its path, by whether its place is taken and by its verdict; of one that only leads on, nothing
pub record MadeOfItems (X : Type 0) (job : Job) (share : Portion) : Type 0 where
  pub mine : Path → Bool → Verdict → List X
  pub all : Path → Bool → Verdict → List X
  pub same : (path : Path) (taken : Bool) (v : Verdict) → mine path taken v ≡ all path taken v
  pub none : (path : Path) (taken : Bool) → all path taken Interior ≡ []

-- in the share as in the whole, or nothing
one_in : {X : Type 0} → {job : Job} {known : List ℕ → Bool} {share : Portion} (places : TakesPlaces job.tuples known share) (it : MadeOfItems X job share)
    (root : Tree) (earlier : List Item) (path : Path) (v : Verdict) → list_all (known_item known) earlier ≡ true → is_known known v ≡ true
    → it.mine path (is_taken (with_share job share) root (map (in_share share) earlier) (own share v)) (own share v)
    ≡ cond (is_own share v) (it.all path (is_taken job root earlier v) v) []
one_in _ it _ _ path Interior _ _ = it.same path false Interior
one_in {job = job} {share = share} _ it root earlier path (Skip why) _ _ = by (is_first share)
  where
    by : (b : Bool) → it.mine path (is_taken (with_share job share) root (map (in_share share) earlier) (cond b (Skip why) Interior))
        (cond b (Skip why) Interior) ≡ cond b (it.all path false (Skip why)) []
    by true = it.same path false (Skip why)
    by false = it.same path false Interior ∙ it.none path false
one_in {job = job} {share = share} places it root earlier path (Named id o) t u = by (holds share id) refl
  where
    by : (b : Bool) → holds share id ≡ b → it.mine path (is_taken (with_share job share) root (map (in_share share) earlier) (cond b (Named id o) Interior))
        (cond b (Named id o) Interior) ≡ cond b (it.all path (is_taken job root earlier (Named id o)) (Named id o)) []
    by true h = ap (λ b. it.mine path (is_some (root (place_of job.tuples id)) || b) (Named id o)) (any_in job places id earlier t u h)
        ∙ it.same path (is_taken job root earlier (Named id o)) (Named id o)
    by false h = it.same path false Interior ∙ it.none path false

all_in : {X : Type 0} → {job : Job} {known : List ℕ → Bool} {share : Portion} (places : TakesPlaces job.tuples known share) (it : MadeOfItems X job share)
    (root : Tree) (earlier others : List Item) → list_all (known_item known) earlier ≡ true → list_all (known_item known) others ≡ true
    → flat_map (λ (m : Marked). it.mine m.0.path m.1 m.0.verdict) (marked_after (with_share job share) root (map (in_share share) earlier)
    (map (in_share share) others))
    ≡ flat_map (λ (m : Marked). cond (is_own share m.0.verdict) (it.all m.0.path m.1 m.0.verdict) []) (marked_after job root earlier others)
all_in _ _ _ _ [] _ _ = refl
all_in {job = job} {known = known} {share = share} places it root earlier (item ∷ others) t u =
    let parts = and_parts _ _ u in
    let more : list_all (known_item known) (earlier ++ item ∷ []) ≡ true = list_all-append (known_item known) earlier (item ∷ [])
    ∙ and_from _ _ t (and_from _ true parts.0 refl) in
    let here = one_in places it root earlier item.path item.verdict t parts.0 in
    let later = ap (λ (before : List Item). flat_map (λ (m : Marked). it.mine m.0.path m.1 m.0.verdict)
    (marked_after (with_share job share) root before (map (in_share share) others))) (sym (map-append (in_share share) earlier (item ∷ [])))
    ∙ all_in places it root (earlier ++ item ∷ []) others more parts.1 in
    λ k. here k ++ later k

-- what is made of all items of a source, in a share and in the whole
pub made_in : {X : Type 0} → {job : Job} {known : List ℕ → Bool} {share : Portion} (places : TakesPlaces job.tuples known share) (it : MadeOfItems X job share)
    (source : Forest) (root : Tree) → list_all (known_item known) (bare_items job source) ≡ true
    → flat_map (λ (m : Marked). it.mine m.0.path m.1 m.0.verdict) (marked (with_share job share) source root)
    ≡ flat_map (λ (m : Marked). cond (is_own share m.0.verdict) (it.all m.0.path m.1 m.0.verdict) []) (marked_after job root [] (bare_items job source))
made_in {job = job} {share = share} places it source root t =
    ap (λ (l : List Item). flat_map (λ (m : Marked). it.mine m.0.path m.1 m.0.verdict) (marked_after (with_share job share) root [] l))
    (items_in job share source places.identifiers)
    ∙ all_in places it root [] (bare_items job source) refl t

-- the whole is the share of each item
whole_ours : (v : Verdict) → is_own whole v ≡ true
whole_ours (Named id _) = eq-eqb (share_number 1 id) 1 (whole_number id)
whole_ours _ = refl

-- the whole's items are bare
pub whole_items : (job : Job) (source : Forest) → items (of_whole job) source ≡ bare_items job source
whole_items job source = items_in job whole source refl ∙ all_ours (bare_items job source)
  where
    all_ours : (its : List Item) → map (in_share whole) its ≡ its
    all_ours [] = refl
    all_ours (item ∷ its) = λ k. record { path = item.path; visit = item.visit; verdict = cond (whole_ours item.verdict k) item.verdict Interior }
        ∷ all_ours its k

pub known_in : (known : List ℕ → Bool) (job : Job) (source : Forest) → KnowsAll known job source → list_all (known_item known) (bare_items job source) ≡ true
known_in known job source all = sym (ap (list_all (known_item known)) (whole_items job source)) ∙ all

pub made_whole : {X : Type 0} → (f : Marked → List X) (ms : List Marked) → flat_map (λ (m : Marked). cond (is_own whole m.0.verdict) (f m) []) ms
    ≡ flat_map f ms
made_whole _ [] = refl
made_whole f (m ∷ ms) = λ k. cond (whole_ours m.0.verdict k) (f m) [] ++ made_whole f ms k

-- ---- lines

unfoldable pub lines_made : (job : Job) (share : Portion) → MadeOfItems Line job share
lines_made job share = record {
  mine = line_by_verdict (with_share job share);
  all = line_by_verdict job;
  same = same;
  none = λ path taken. refl;
}
  where
    same : (path : Path) (taken : Bool) (v : Verdict) → line_by_verdict (with_share job share) path taken v ≡ line_by_verdict job path taken v
    same path taken Interior = refl
    same path taken (Skip why) = refl
    same path true (Named id object) = refl
    same path false (Named id object) = refl

-- ---- of all shares

-- an item's lines are those of one share
shared_line : (test : Line → Bool) {count : ℕ} (v : Verdict) {told : List Line} → 1 ≤ count → (v ≡ Interior → told ≡ [])
    → sum_of_shares (λ index. count_by test (cond (is_own (numbered index count) v) told [])) count ≡ count_by test told
shared_line test {count} Interior _ none =
    let nothing = ap (count_by test) (none refl) in
    sum_of_none count (λ index first h. nothing) ∙ sym nothing
shared_line test {count} (Skip why) {told} some none =
    sum_at_one count (omega arith) some refl (λ index first last apart. by index apart (index == 1) refl)
  where
    by : (index : ℕ) → index ≢ 1 → (t : Bool) → (index == 1) ≡ t → count_by test (cond t told []) ≡ 0
    by index apart true h = absurd (apart (eqb-true index 1 h))
    by index apart false h = refl
shared_line test {count} (Named id object) {told} some none =
    let n = share_number count id in
    let mine = eq-eqb n n refl in
    let within = number_within id some in
    sum_at_one count (omega arith) within (ap (λ b. count_by test (cond b told [])) mine) (λ index first last apart. by index apart (n == index) refl)
  where
    by : (index : ℕ) → index ≢ share_number count id → (t : Bool) → (share_number count id == index) ≡ t → count_by test (cond t told []) ≡ 0
    by index apart true h = absurd (apart (sym (eqb-true (share_number count id) index h)))
    by index apart false h = refl

pub more_lines : (test : Line → Bool) (first later : List Line) → count_by test (first ++ later) ≡ count_by test first + count_by test later
more_lines test first later = sum_by-append (λ line. cond (test line) 1 0) first later

shared_lines : (job : Job) (test : Line → Bool) {count : ℕ} (ms : List Marked) → 1 ≤ count
    → sum_of_shares (λ index. count_by test (flat_map (λ (m : Marked). cond (is_own (numbered index count) m.0.verdict) (line_of job m) []) ms)) count
    ≡ count_by test (flat_map (line_of job) ms)
shared_lines _ _ {count} [] _ = sum_of_none count (λ index first h. refl)
shared_lines job test {count} (m ∷ ms) some =
    same_sums count (λ index. more_lines test (cond (is_own (numbered index count) m.0.verdict) (line_of job m) [])
    (flat_map (λ (x : Marked). cond (is_own (numbered index count) x.0.verdict) (line_of job x) []) ms))
    ∙ sum_of_both (λ index. count_by test (cond (is_own (numbered index count) m.0.verdict) (line_of job m) []))
    (λ index. count_by test (flat_map (λ (x : Marked). cond (is_own (numbered index count) x.0.verdict) (line_of job x) []) ms)) count
    ∙ ap (λ n. n + sum_of_shares (λ index. count_by test (flat_map (λ (x : Marked). cond (is_own (numbered index count) x.0.verdict) (line_of job x) []) ms))
    count) (shared_line test m.0.verdict some (λ is. ap (line_by_verdict job m.0.path m.1) is))
    ∙ ap (λ n. count_by test (line_of job m) + n) (shared_lines job test ms some)
    ∙ sym (more_lines test (line_of job m) (flat_map (line_of job) ms))

pub shares_tell_the_whole : SharesTellTheWhole
unfolding lines_made
shares_tell_the_whole job source root count some test =
    let ms = marked_after job root [] (bare_items job source) in
    ap (count_by test) (made_in (whole_places job.tuples is_utf8) (lines_made job whole) source root (texts_in job source) ∙ made_whole (line_of job) ms)
    ∙ sym (shared_lines job test ms some)
    ∙ sym (same_sums count (λ index. ap (count_by test) (made_in (numbered_places job.tuples index count) (lines_made job (numbered index count)) source root
    (texts_in job source))))

-- ---- choices

module _ {tuples : Tuples} {known : List ℕ → Bool} {count : ℕ} {choices : ℕ → Portion} (divide : Divide tuples known count choices) (test : Line → Bool) where
  -- an object's lines are those of one choice, and of what is passed over none is counted
  divided_line : (v : Verdict) {told : List Line} → is_known known v ≡ true → (v ≡ Interior → told ≡ [])
      → ((why : Cause) → v ≡ Skip why → count_by test told ≡ 0)
      → sum_of_shares (λ index. count_by test (cond (is_own (choices index) v) told [])) count ≡ count_by test told
  divided_line Interior t none skip =
      let nothing = ap (count_by test) (none refl) in
      sum_of_none count (λ index first h. nothing) ∙ sym nothing
  divided_line (Skip why) {told} t none skip =
      let nothing = skip why refl in
      sum_of_none count (λ index first h. by (is_first (choices index)) nothing) ∙ sym nothing
    where
      by : (b : Bool) → count_by test told ≡ 0 → count_by test (cond b told []) ≡ 0
      by true is = is
      by false is = refl
  divided_line (Named id object) {told} t none skip =
      let (n, its, held) = divide.one id t in
      sum_at_one count its.first its.last (ap (λ b. count_by test (cond b told [])) held)
      (λ index first last apart. by index (record { first = first; last = last }) n its held apart (holds (choices index) id) refl)
    where
      by : (index : ℕ) → IsOneOf count index → (n : ℕ) → IsOneOf count n → holds (choices n) id ≡ true → index ≢ n → (b : Bool) → holds (choices index) id ≡ b
          → count_by test (cond b told []) ≡ 0
      by index one n its held apart true h = absurd (apart (divide.apart index n id id one its t t h held refl))
      by index one n its held apart false h = refl

  divided_lines : (job : Job) (root : Tree) (earlier others : List Item) → list_all (known_item known) others ≡ true
      → ((path : Path) (why : Cause) → test (Skipped path why) ≡ false)
      → sum_of_shares (λ index. count_by test (flat_map (λ (m : Marked). cond (is_own (choices index) m.0.verdict) (line_of job m) [])
      (marked_after job root earlier others))) count
      ≡ count_by test (flat_map (line_of job) (marked_after job root earlier others))
  divided_lines job root earlier [] _ _ = sum_of_none count (λ index first h. refl)
  divided_lines job root earlier (item ∷ others) t skips =
      let parts = and_parts _ _ t in
      let ms = marked_after job root (earlier ++ item ∷ []) others in
      let told = line_of job (item, is_taken job root earlier item.verdict) in
      same_sums count (λ index. more_lines test (cond (is_own (choices index) item.verdict) told [])
      (flat_map (λ (x : Marked). cond (is_own (choices index) x.0.verdict) (line_of job x) []) ms))
      ∙ sum_of_both (λ index. count_by test (cond (is_own (choices index) item.verdict) told []))
      (λ index. count_by test (flat_map (λ (x : Marked). cond (is_own (choices index) x.0.verdict) (line_of job x) []) ms)) count
      ∙ ap (λ n. n + sum_of_shares (λ index. count_by test (flat_map (λ (x : Marked). cond (is_own (choices index) x.0.verdict) (line_of job x) []) ms)) count)
      (divided_line item.verdict parts.0 (λ is. ap (line_by_verdict job item.path (is_taken job root earlier item.verdict)) is)
      (λ why is. ap (λ (v : Verdict). count_by test (line_by_verdict job item.path (is_taken job root earlier item.verdict) v)) is
      ∙ ap (λ b. 0 + cond b 1 0) (skips item.path why)))
      ∙ ap (λ n. count_by test told + n) (divided_lines job root (earlier ++ item ∷ []) others parts.1 skips)
      ∙ sym (more_lines test told (flat_map (line_of job) ms))

pub choices_tell_the_whole : ChoicesTellTheWhole
unfolding lines_made
choices_tell_the_whole job source root known count choices all divide test skips =
    let there = known_in known job source all in
    let ms = marked_after job root [] (bare_items job source) in
    ap (count_by test) (made_in (whole_places job.tuples known) (lines_made job whole) source root there ∙ made_whole (line_of job) ms)
    ∙ sym (divided_lines divide test job root [] (bare_items job source) there skips)
    ∙ sym (sums_within count (λ index one. ap (count_by test) (made_in (divided_places divide index one) (lines_made job (choices index)) source root there)))
