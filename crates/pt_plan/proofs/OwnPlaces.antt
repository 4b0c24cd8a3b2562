-- Where no two items of a store have one place, the lines of shares by folders are those of the whole.
use Rattle.std.proofs.Common.{
  ◌≡◌,
  ◌≤◌,
  ◌+◌,
  ◌==◌,
  ◌&&◌,
  ℕ,
  Bool,
  true,
  false,
  List,
  [],
  ◌∷◌,
  ◌++◌,
  arith,
  ap,
  sym,
  ◌∙◌,
  refl,
  cond,
  map,
  length,
  subst,
  append_assoc,
  eq-eqb,
}
use Rattle.std.specs.Prelude.{◌||◌, ⊤, Some, count_by, flat_map, is_none, is_some, slice_get}
use Rattle.std.specs.List.{list_any}
use Rattle.std.specs.Str.{is_utf8}
use Rattle.std.proofs.lemmas.Bool.{eqb-true}
use Rattle.std.proofs.lemmas.List.{length-append, map-append}
use Rattle.std.proofs.lemmas.List.Folds.{flat_map-map}
use Rattle.pt_name.specs.Place.{place_of}
use Rattle.pt_name.specs.Share.{Portion, share_number, way_text, whole}
use Rattle.pt_tree.proofs.AtPaths.{same_from}
use Rattle.pt_tree.specs.Forest.{Forest}
use Rattle.pt_tree.specs.Path.{Path, same_path}
use Rattle.pt_tree.specs.Tree.{Tree}
use Rattle.pt_plan.specs.Carried.{Marked, has_place, is_taken, marked, marked_after}
use Rattle.pt_plan.specs.Items.{Interior, Item, Named, PairtreeObject, Skip, Verdict, cause_of, is_ours, items, ours}
use Rattle.pt_plan.specs.Job.{Job}
use Rattle.pt_plan.specs.Lines.{Line, line_by_verdict}
use Rattle.pt_plan.specs.ShareLaws.{FolderSharesTellTheWhole, NoTwoHaveOnePlace, by_folders, sum_of_shares, with_share}
use Rattle.pt_plan.proofs.FolderItems.{in_share, items_alike, told_marks}
use Rattle.pt_plan.proofs.ShareNumbers.{number_within}
use Rattle.pt_plan.proofs.ShareSums.{same_sums, sum_at_one, sum_of_both, sum_of_none}
use Rattle.pt_plan.proofs.SharedItems.{MadeOfItems, bare_items, lines_made, made_in, made_whole, more_lines, never, texts_in, whole_items, whole_places}

-- ---- items of other places

-- no object of the one has the place of one of the other
abbrev pub IsApart : Job → Item → Item → Type 0
IsApart job item other = (id another : List ℕ) (object theirs : PairtreeObject) → item.verdict ≡ Named id object
    → other.verdict ≡ Named another theirs → place_of job.tuples id ≡ place_of job.tuples another → ⊥

abbrev pub AreApart : Job → List Item → Item → Type 0
AreApart job [] item = ⊤
AreApart job (first ∷ others) item = IsApart job first item × AreApart job others item

-- each of these is apart from those before it
abbrev pub HaveOwnPlaces : Job → List Item → List Item → Type 0
HaveOwnPlaces job earlier [] = ⊤
HaveOwnPlaces job earlier (item ∷ others) = AreApart job earlier item × HaveOwnPlaces job (earlier ++ item ∷ []) others

-- so no earlier one has its place
untaken : (job : Job) (earlier : List Item) (item : Item) (id : List ℕ) (object : PairtreeObject) → AreApart job earlier item
    → item.verdict ≡ Named id object
    → list_any (λ (e : Item). has_place job (place_of job.tuples id) e.verdict) earlier ≡ false
untaken job [] item id object apart named = refl
untaken job (first ∷ earlier) item id object apart named =
    λ k. by first.verdict refl k || untaken job earlier item id object apart.1 named k
  where
    by : (v : Verdict) → first.verdict ≡ v → has_place job (place_of job.tuples id) v ≡ false
    by Interior is = refl
    by (Skip why) is = refl
    by (Named i o) is = both (same_path (place_of job.tuples i) (place_of job.tuples id)) refl
      where
        both : (s : Bool) → same_path (place_of job.tuples i) (place_of job.tuples id) ≡ s
            → (is_none (cause_of job.limits o) && same_path (place_of job.tuples i) (place_of job.tuples id)) ≡ false
        both true same = absurd (apart.0 i id o object is named (same_from _ _ same))
        both false same = ap (λ s. is_none (cause_of job.limits o) && s) same ∙ never (is_none (cause_of job.limits o))

taken_by_root : (job : Job) (root : Tree) (earlier : List Item) (item : Item) → AreApart job earlier item
    → is_taken job root earlier item.verdict ≡ is_taken job root [] item.verdict
taken_by_root job root earlier item apart = by item.verdict refl
  where
    by : (v : Verdict) → item.verdict ≡ v → is_taken job root earlier v ≡ is_taken job root [] v
    by Interior is = refl
    by (Skip why) is = refl
    by (Named id object) is = ap (λ b. is_some (root (place_of job.tuples id)) || b) (untaken job earlier item id object apart is)

-- what is made of items each by itself
pub alone : {X : Type 0} → (job : Job) (root : Tree) (f : Path → Bool → Verdict → List X) (earlier others : List Item) → HaveOwnPlaces job earlier others
    → flat_map (λ (m : Marked). f m.0.path m.1 m.0.verdict) (marked_after job root earlier others)
    ≡ flat_map (λ (item : Item). f item.path (is_taken job root [] item.verdict) item.verdict) others
alone job root f earlier [] own = refl
alone job root f earlier (item ∷ others) own =
    λ k. f item.path (taken_by_root job root earlier item own.0 k) item.verdict ++ alone job root f (earlier ++ item ∷ []) others own.1 k

-- ---- in a share

ours_named : (b : Bool) (v : Verdict) (id : List ℕ) (object : PairtreeObject) → cond b v Interior ≡ Named id object → v ≡ Named id object
ours_named true v id object is = is
ours_named false v id object is = absurd (cc)

apart_in : (job : Job) (share : Portion) (earlier : List Item) (item : Item) → AreApart job earlier item
    → AreApart (with_share job share) (map (in_share share) earlier) (in_share share item)
apart_in job share [] item apart = tt
apart_in job share (first ∷ earlier) item apart = (
  λ id another object theirs is also same. apart.0 id another object theirs
      (ours_named (is_ours share first.path first.verdict) first.verdict id object is)
      (ours_named (is_ours share item.path item.verdict) item.verdict another theirs also) same,
  apart_in job share earlier item apart.1,
)

own_in : (job : Job) (share : Portion) (earlier others : List Item) → HaveOwnPlaces job earlier others
    → HaveOwnPlaces (with_share job share) (map (in_share share) earlier) (map (in_share share) others)
own_in job share earlier [] own = tt
own_in job share earlier (item ∷ others) own = (
  apart_in job share earlier item own.0,
  subst (λ (l : List Item). HaveOwnPlaces (with_share job share) l (map (in_share share) others)) (map-append (in_share share) earlier (item ∷ []))
      (own_in job share (earlier ++ item ∷ []) others own.1),
)

module _ {X : Type 0} (job : Job) (depth count index : ℕ) (root : Tree) (it : MadeOfItems X job (by_folders depth count index)) where
  abbrev share : Portion
  share = by_folders depth count index

  -- of an item of the share, or nothing
  own_item : (path : Path) (v : Verdict) → it.mine path (is_taken (with_share job share) root [] (ours share path v)) (ours share path v)
      ≡ cond (is_ours share path v) (it.all path (is_taken job root [] v) v) []
  own_item path Interior = it.same path false Interior
  own_item path (Skip why) = by (is_ours {A = PairtreeObject} share path (Skip why))
    where
      by : (b : Bool) → it.mine path (is_taken (with_share job share) root [] (cond b (Skip why) Interior)) (cond b (Skip why) Interior)
          ≡ cond b (it.all path false (Skip why)) []
      by true = it.same path false (Skip why)
      by false = it.same path false Interior ∙ it.none path false
  own_item path (Named id object) = by (is_ours share path (Named id object))
    where
      by : (b : Bool) → it.mine path (is_taken (with_share job share) root [] (cond b (Named id object) Interior)) (cond b (Named id object) Interior)
          ≡ cond b (it.all path (is_taken job root [] (Named id object)) (Named id object)) []
      by true = it.same path (is_taken job root [] (Named id object)) (Named id object)
      by false = it.same path false Interior ∙ it.none path false

  own_items : (its : List Item) → flat_map (λ (item : Item). it.mine item.path (is_taken (with_share job share) root [] (ours share item.path item.verdict))
      (ours share item.path item.verdict)) its
      ≡ flat_map (λ (item : Item). cond (is_ours share item.path item.verdict) (it.all item.path (is_taken job root [] item.verdict) item.verdict) []) its
  own_items [] = refl
  own_items (item ∷ its) = λ k. own_item item.path item.verdict k ++ own_items its k

  -- of all items of a source
  pub made_of_share : (source : Forest) → HaveOwnPlaces job [] (bare_items job source)
      → flat_map (λ (m : Marked). it.mine m.0.path m.1 m.0.verdict) (marked (with_share job share) source root)
      ≡ flat_map (λ (item : Item). cond (is_ours share item.path item.verdict) (it.all item.path (is_taken job root [] item.verdict) item.verdict) [])
      (bare_items job source)
  made_of_share source own =
      let mine = with_share job share in
      let nothing = λ (path : Path) (taken : Bool). it.same path taken Interior ∙ it.none path taken in
      told_marks mine root it.mine nothing [] (items mine source)
      ∙ ap (λ (l : List Item). flat_map (λ (m : Marked). it.mine m.0.path m.1 m.0.verdict) (marked_after mine root [] l))
      (items_alike job depth count index source)
      ∙ sym (told_marks mine root it.mine nothing [] (map (in_share share) (bare_items job source)))
      ∙ alone mine root it.mine [] (map (in_share share) (bare_items job source)) (own_in job share [] (bare_items job source) own)
      ∙ flat_map-map (λ (item : Item). it.mine item.path (is_taken mine root [] item.verdict) item.verdict) (in_share share) (bare_items job source)
      ∙ own_items (bare_items job source)

-- ---- of a source in which no two have one place

at_seam : {X : Type 0} → (front : List X) (x : X) (rest : List X) → slice_get (front ++ x ∷ rest) (length front) ≡ Some x
at_seam [] x rest = refl
at_seam (y ∷ front) x rest = at_seam front x rest

-- the same by where they stand
unfoldable pub OwnIndexes : Job → List Item → Type 0
OwnIndexes job all =
    (k l : ℕ) (item other : Item) (id another : List ℕ) (object theirs : PairtreeObject) → slice_get all k ≡ Some item → slice_get all l ≡ Some other
    → item.verdict ≡ Named id object → other.verdict ≡ Named another theirs → place_of job.tuples id ≡ place_of job.tuples another → k ≡ l

apart_from : (job : Job) (front middle : List Item) (item : Item) (others : List Item) → OwnIndexes job ((front ++ middle) ++ item ∷ others)
    → AreApart job middle item
unfolding OwnIndexes
apart_from job front [] item others own = tt
apart_from job front (first ∷ middle) item others own = (
  λ id another object theirs is also same.
      let there = ap (λ (l : List Item). slice_get l (length front)) (append_assoc front (first ∷ middle) (item ∷ others))
      ∙ at_seam front first (middle ++ item ∷ others) in
      let one = own (length front) (length (front ++ first ∷ middle)) first item id another object theirs there (at_seam (front ++ first
      ∷ middle) item others) is also same in
      let long = length-append front (first ∷ middle) in
      omega (arith, one, long),
  apart_from job (front ++ first ∷ []) middle item others
      (subst (λ (l : List Item). OwnIndexes job (l ++ item ∷ others)) (sym (append_assoc front (first ∷ []) middle)) own),
)

have_own : (job : Job) (earlier others : List Item) → OwnIndexes job (earlier ++ others) → HaveOwnPlaces job earlier others
have_own job earlier [] own = tt
have_own job earlier (item ∷ others) own = (
  apart_from job [] earlier item others own,
  have_own job (earlier ++ item ∷ []) others (subst (OwnIndexes job) (sym (append_assoc earlier (item ∷ []) others)) own),
)

pub own_indexes : (job : Job) (source : Forest) → NoTwoHaveOnePlace job source → OwnIndexes job (bare_items job source)
unfolding OwnIndexes
own_indexes job source none = subst (OwnIndexes job) (whole_items job source) none

pub own_places : (job : Job) (source : Forest) → NoTwoHaveOnePlace job source → HaveOwnPlaces job [] (bare_items job source)
own_places job source none = have_own job [] (bare_items job source) (own_indexes job source none)

-- ---- lines

-- the lines of an item of a share are those of one share
at_one : (test : Line → Bool) {count n : ℕ} (told : List Line) → 1 ≤ n → n ≤ count
    → sum_of_shares (λ index. count_by test (cond (n == index) told [])) count ≡ count_by test told
at_one test {count} {n} told first last =
    sum_at_one count first last (ap (λ b. count_by test (cond b told [])) (eq-eqb n n refl)) (λ index some within apart. by index apart (n == index) refl)
  where
    by : (index : ℕ) → (index ≡ n → ⊥) → (t : Bool) → (n == index) ≡ t → count_by test (cond t told []) ≡ 0
    by index apart true h = absurd (apart (sym (eqb-true n index h)))
    by index apart false h = refl

one_line : (test : Line → Bool) (depth : ℕ) {count : ℕ} (path : Path) (v : Verdict) {told : List Line} → 1 ≤ count → (v ≡ Interior → told ≡ [])
    → sum_of_shares (λ index. count_by test (cond (is_ours (by_folders depth count index) path v) told [])) count ≡ count_by test told
one_line test depth {count} path Interior some none =
    let nothing = ap (count_by test) (none refl) in
    sum_of_none count (λ index first h. nothing) ∙ sym nothing
one_line test depth {count} path (Skip why) {told} some none =
    at_one test {n = share_number count (way_text depth path)} told (omega arith) (number_within (way_text depth path) some)
one_line test depth {count} path (Named id object) {told} some none =
    at_one test {n = share_number count (way_text depth path)} told (omega arith) (number_within (way_text depth path) some)

folder_lines : (job : Job) (root : Tree) (test : Line → Bool) (depth : ℕ) {count : ℕ} (its : List Item) → 1 ≤ count
    → sum_of_shares (λ index. count_by test (flat_map (λ (item : Item). cond (is_ours (by_folders depth count index) item.path item.verdict)
    (line_by_verdict job item.path (is_taken job root [] item.verdict) item.verdict) []) its)) count
    ≡ count_by test (flat_map (λ (item : Item). line_by_verdict job item.path (is_taken job root [] item.verdict) item.verdict) its)
folder_lines job root test depth {count} [] some = sum_of_none count (λ index first h. refl)
folder_lines job root test depth {count} (item ∷ its) some =
    let line = λ (i : Item). line_by_verdict job i.path (is_taken job root [] i.verdict) i.verdict in
    let own = λ (index : ℕ) (i : Item). cond (is_ours (by_folders depth count index) i.path i.verdict) (line i) [] in
    same_sums count (λ index. more_lines test (own index item) (flat_map (own index) its))
    ∙ sum_of_both (λ index. count_by test (own index item)) (λ index. count_by test (flat_map (own index) its)) count
    ∙ ap (λ n. n + sum_of_shares (λ index. count_by test (flat_map (own index) its)) count)
    (one_line test depth item.path item.verdict some (λ is. ap (line_by_verdict job item.path (is_taken job root [] item.verdict)) is))
    ∙ ap (λ n. count_by test (line item) + n) (folder_lines job root test depth its some)
    ∙ sym (more_lines test (line item) (flat_map line its))

pub folder_shares_tell_the_whole : FolderSharesTellTheWhole
unfolding lines_made
folder_shares_tell_the_whole job source root depth count some none test =
    let own = own_places job source none in
    ap (count_by test) (made_in (whole_places job.tuples is_utf8) (lines_made job whole) source root (texts_in job source)
    ∙ made_whole (λ (m : Marked). line_by_verdict job m.0.path m.1 m.0.verdict) (marked_after job root [] (bare_items job source))
    ∙ alone job root (line_by_verdict job) [] (bare_items job source) own)
    ∙ sym (folder_lines job root test depth (bare_items job source) some)
    ∙ sym (same_sums count (λ index. ap (count_by test) (made_of_share job depth count index root (lines_made job (by_folders depth count index)) source own)))
