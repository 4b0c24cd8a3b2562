-- Which share's own something in a store is.
use Rattle.std.proofs.Common.{
  ◌≡◌,
  ◌≤◌,
  ◌==◌,
  ◌&&◌,
  ◌∙◌,
  ℕ,
  Bool,
  true,
  false,
  cond,
  List,
  [],
  ◌∷◌,
  ◌++◌,
  Result,
  Ok,
  Err,
  arith,
  ap,
  drop,
  eq-eqb,
  length,
  not,
  refl,
  sym,
}
use Rattle.std.specs.Prelude.{◌||◌, Option, None, Some, is_some}
use Rattle.std.proofs.Math.Bool.{and-false}
use Rattle.std.proofs.lemmas.Bool.{and_parts, eqb-true}
use Rattle.std.proofs.lemmas.List.{length-append, nil_from_length, take-append-le}
use Rattle.pt_check.proofs.OwnAsRun.{taken}
use Rattle.pt_check.specs.ShareLaws.{part_of}
use Rattle.pt_check.specs.Shares.{is_all, is_own_by, is_own_by_finding, is_own_entry, is_own_in, is_own_object, is_own_way, is_site}
use Rattle.pt_check.specs.declared.within.Within.{Within}
use Rattle.pt_name.specs.Identifying.{identification_by, identifier_at}
use Rattle.pt_name.specs.Share.{Portion, by_division, chosen, share_number, takes, tells_at, walks, way_text}
use Rattle.pt_name.specs.Tuples.{Tuples}
use Rattle.pt_name.specs.declared.division.Division.{Division}
use Rattle.pt_name.specs.declared.division.Division.TheVariants as division
use Rattle.pt_name.specs.declared.identifying.Refusal.{Refusal}
use Rattle.pt_plan.proofs.ShareNumbers.{number_within}
use Rattle.pt_plan.specs.ShareLaws.{IsOneOf}
use Rattle.pt_tree.specs.Listing.{Item}
use Rattle.pt_tree.specs.Path.{Path, joined}
use Rattle.pt_walk.specs.Site.{is_shorty}
use Rattle.pt_walk.specs.declared.site.Finding.{Finding}
use Rattle.pt_walk.specs.declared.site.Finding.TheVariants as finding

-- ---- booleans

pub same_either : (b own : Bool) → cond b own own ≡ own
same_either true own = refl
same_either false own = refl

and_true : (b : Bool) → (b && true) ≡ b
and_true true = refl
and_true false = refl

turned : (n m : ℕ) → (n == m) ≡ (m == n)
turned n m = by (n == m) (m == n) refl refl
  where
    by : (x y : Bool) → (n == m) ≡ x → (m == n) ≡ y → x ≡ y
    by true true a b = refl
    by true false a b = sym (eq-eqb m n (sym (eqb-true n m a))) ∙ b
    by false true a b = sym a ∙ eq-eqb n m (sym (eqb-true m n b))
    by false false a b = refl

-- ---- what is all

-- nothing is chosen of it
chooses_any : (only : List (List ℕ)) (list : Option (List (List ℕ))) (id : List ℕ) → length only ≡ 0 → is_some list ≡ false
    → chosen only list id ≡ true
chooses_any only (Some ids) id none unlisted = absurd (cc)
chooses_any only None id none unlisted = ap (λ (l : List (List ℕ)). chosen l None id) (nil_from_length only none)

negated : (b : Bool) → not b ≡ true → b ≡ false
negated true is = absurd (cc)
negated false is = refl

module _ (share : Portion) (by : Division) (count : ℕ) (some : 1 ≤ count) where
  abbrev pub part : ℕ → Portion
  part index = part_of share by count index

  -- the number of the share that tells at a site
  abbrev pub tell_no : Path → ℕ
  tell_no site = by_division by 1 (λ depth. share_number count (way_text depth site))

  -- of the one whose own an object is
  abbrev pub id_no : Path → List ℕ → ℕ
  id_no site id = by_division by (share_number count id) (λ depth. share_number count (way_text depth site))

  -- by what its names read
  abbrev pub read_no : Path → Result (List ℕ) Refusal → ℕ
  read_no site (Err why) = tell_no site
  read_no site (Ok id) = id_no site id

  abbrev pub read_ok : Result (List ℕ) Refusal → Bool
  read_ok (Err why) = true
  read_ok (Ok id) = chosen share.only share.list id

  abbrev pub object_no : Tuples → List ℕ → Path → ℕ
  object_no tuples prefix [] = tell_no []
  object_no tuples prefix (name ∷ names) = read_no (name ∷ names) (identifier_at tuples prefix (name ∷ names))

  -- and whether it is chosen
  abbrev pub object_ok : Tuples → List ℕ → Path → Bool
  object_ok tuples prefix [] = true
  object_ok tuples prefix (name ∷ names) = read_ok (identifier_at tuples prefix (name ∷ names))

  -- the number of the share whose own is what lies in a folder, and whether it is chosen
  abbrev pub in_no : Tuples → Path × List ℕ → Finding → ℕ
  in_no tuples at finding.Interior = tell_no (drop 1 at.0)
  in_no tuples at (finding.Skip why) = tell_no (drop 1 at.0)
  in_no tuples at (finding.Candidate i) = object_no tuples at.1 (drop 1 at.0)
  in_no tuples at finding.Gathered = object_no tuples at.1 (drop 1 at.0)

  abbrev pub in_ok : Tuples → Path × List ℕ → Finding → Bool
  in_ok tuples at finding.Interior = true
  in_ok tuples at (finding.Skip why) = true
  in_ok tuples at (finding.Candidate i) = object_ok tuples at.1 (drop 1 at.0)
  in_ok tuples at finding.Gathered = object_ok tuples at.1 (drop 1 at.0)

  -- ---- the numbers are of shares

  text_within : (text : List ℕ) → IsOneOf count (share_number count text)
  text_within text = record { first = omega arith; last = number_within text some }

  way_within : (d : Division) (f : ℕ → List ℕ) → IsOneOf count (by_division d 1 (λ depth. share_number count (f depth)))
  way_within division.Identifiers f = record { first = omega arith; last = some }
  way_within (division.Folders depth) f = text_within (f depth)

  id_within : (d : Division) (id : List ℕ) (f : ℕ → List ℕ)
      → IsOneOf count (by_division d (share_number count id) (λ depth. share_number count (f depth)))
  id_within division.Identifiers id f = text_within id
  id_within (division.Folders depth) id f = text_within (f depth)

  pub tell_within : (site : Path) → IsOneOf count (tell_no site)
  tell_within site = way_within by (λ depth. way_text depth site)

  read_within : (site : Path) (read : Result (List ℕ) Refusal) → IsOneOf count (read_no site read)
  read_within site (Err why) = tell_within site
  read_within site (Ok id) = id_within by id (λ depth. way_text depth site)

  object_within : (tuples : Tuples) (prefix : List ℕ) (site : Path) → IsOneOf count (object_no tuples prefix site)
  object_within tuples prefix [] = tell_within []
  object_within tuples prefix (name ∷ names) = read_within (name ∷ names) (identifier_at tuples prefix (name ∷ names))

  pub in_within : (tuples : Tuples) (at : Path × List ℕ) (what : Finding) → IsOneOf count (in_no tuples at what)
  in_within tuples at finding.Interior = tell_within (drop 1 at.0)
  in_within tuples at (finding.Skip why) = tell_within (drop 1 at.0)
  in_within tuples at (finding.Candidate i) = object_within tuples at.1 (drop 1 at.0)
  in_within tuples at finding.Gathered = object_within tuples at.1 (drop 1 at.0)

  -- ---- where there is one share alone, of which all is chosen

  read_any : is_all (part 1) ≡ true → (read : Result (List ℕ) Refusal) → read_ok read ≡ true
  read_any all (Err why) = refl
  read_any all (Ok id) =
      let parts = and_parts _ _ (and_parts _ _ all).1 in
      chooses_any share.only share.list id (eqb-true _ _ parts.0) (negated _ parts.1)

  object_any : is_all (part 1) ≡ true → (tuples : Tuples) (prefix : List ℕ) (site : Path) → object_ok tuples prefix site ≡ true
  object_any all tuples prefix [] = refl
  object_any all tuples prefix (name ∷ names) = read_any all (identifier_at tuples prefix (name ∷ names))

  pub in_any : is_all (part 1) ≡ true → (tuples : Tuples) (at : Path × List ℕ) (what : Finding) → in_ok tuples at what ≡ true
  in_any all tuples at finding.Interior = refl
  in_any all tuples at (finding.Skip why) = refl
  in_any all tuples at (finding.Candidate i) = object_any all tuples at.1 (drop 1 at.0)
  in_any all tuples at finding.Gathered = object_any all tuples at.1 (drop 1 at.0)

  -- all numbers are its own
  pub is_one : is_all (part 1) ≡ true → (index n : ℕ) → IsOneOf count index → IsOneOf count n → (n == index) ≡ true
  is_one all index n one other =
      let single : count ≡ 1 = eqb-true _ _ (and_parts _ _ all).0 in
      let first = one.first in
      let last = one.last in
      let low = other.first in
      let high = other.last in
      let same : n ≡ index = omega (arith, single, first, last, low, high) in
      eq-eqb n index same

  -- ---- what the words say

  tells_by : (d : Division) (index : ℕ) (site : Path)
      → tells_at (part_of share d count index) site ≡ (by_division d 1 (λ depth. share_number count (way_text depth site)) == index)
  tells_by division.Identifiers index site = turned index 1
  tells_by (division.Folders depth) index site = refl

  pub tells_are : (index : ℕ) (site : Path) → tells_at (part index) site ≡ (tell_no site == index)
  tells_are index site = tells_by by index site

  takes_by : (d : Division) (index : ℕ) (site : Path) (id : List ℕ)
      → takes (part_of share d count index) site id
      ≡ (chosen share.only share.list id
      && (by_division d (share_number count id) (λ depth. share_number count (way_text depth site)) == index))
  takes_by division.Identifiers index site id = refl
  takes_by (division.Folders depth) index site id = refl

  read_are : (tuples : Tuples) (index : ℕ) (site : Path) (read : Result (List ℕ) Refusal)
      → is_own_by (part index) site (identification_by tuples (part index) site read) ≡ (read_ok read && (read_no site read == index))
  read_are tuples index site (Err why) = tells_are index site
  read_are tuples index site (Ok id) = taken tuples (part index) site id (takes (part index) site id) ∙ takes_by by index site id

  object_is : (tuples : Tuples) (prefix : List ℕ) (index : ℕ) (site : Path)
      → is_own_object tuples (part index) prefix site ≡ (object_ok tuples prefix site && (object_no tuples prefix site == index))
  object_is tuples prefix index [] = tells_are index []
  object_is tuples prefix index (name ∷ names) = read_are tuples index (name ∷ names) (identifier_at tuples prefix (name ∷ names))

  by_finding : (tuples : Tuples) (at : Path × List ℕ) (what : Finding) (index : ℕ) (own : Bool) → own ≡ (tell_no (drop 1 at.0) == index)
      → is_own_by_finding tuples (part index) at what own ≡ (in_ok tuples at what && (in_no tuples at what == index))
  by_finding tuples at finding.Interior index own is = is
  by_finding tuples at (finding.Skip why) index own is = is
  by_finding tuples at (finding.Candidate i) index own is = object_is tuples at.1 index (drop 1 at.0)
  by_finding tuples at finding.Gathered index own is = object_is tuples at.1 index (drop 1 at.0)

  pub in_is : (tuples : Tuples) (at : Path × List ℕ) (what : Finding) (index : ℕ) (own : Bool) → IsOneOf count index
      → own ≡ (tell_no (drop 1 at.0) == index)
      → is_own_in tuples (part index) at what own ≡ (in_ok tuples at what && (in_no tuples at what == index))
  in_is tuples at what index own one is = by_all (is_all (part 1)) refl
    where
      by_all : (t : Bool) → is_all (part 1) ≡ t
          → cond t own (is_own_by_finding tuples (part index) at what own) ≡ (in_ok tuples at what && (in_no tuples at what == index))
      by_all true all =
          let here = is ∙ is_one all index (tell_no (drop 1 at.0)) one (tell_within (drop 1 at.0)) in
          let chooses = in_any all tuples at what in
          let same = is_one all index (in_no tuples at what) one (in_within tuples at what) in
          here ∙ sym (λ i. chooses i && same i)
      by_all false all = by_finding tuples at what index own is

  -- an entry: a shorty of a site is by its way, and another one as what lies in the folder
  pub entry_is : (shorty : Bool) (site : Path) (index : ℕ) (own : Bool) → IsOneOf count index → (is_all (part 1) ≡ true → own ≡ true)
      → cond (is_all (part index)) own (cond shorty (tells_at (part index) site) own) ≡ cond shorty (tell_no site == index) own
  entry_is shorty site index own one good = by_all (is_all (part 1)) refl
    where
      by_shorty : (s : Bool) → is_all (part 1) ≡ true → own ≡ cond s (tell_no site == index) own
      by_shorty true all = good all ∙ sym (is_one all index (tell_no site) one (tell_within site))
      by_shorty false all = refl

      by_all : (t : Bool) → is_all (part 1) ≡ t → cond t own (cond shorty (tells_at (part index) site) own) ≡ cond shorty (tell_no site == index) own
      by_all true all = by_shorty shorty all
      by_all false all = ap (λ (b : Bool). cond shorty b own) (tells_are index site)

  -- the top of the store
  pub top_is : (index : ℕ) → IsOneOf count index → is_own_way (part index) [] ≡ (tell_no [] == index)
  top_is index one = by_all (is_all (part 1)) refl
    where
      by_all : (t : Bool) → is_all (part 1) ≡ t → (t || tells_at (part index) []) ≡ (tell_no [] == index)
      by_all true all = sym (is_one all index (tell_no []) one (tell_within []))
      by_all false all = tells_are index []

  -- ---- folders that aren't walked

  -- where a share doesn't walk a site the store is divided by its folders, so deep at most, and its way gives another share
  pub record IsElsewhere (index : ℕ) (site : Path) : Type 0 where
    pub depth : ℕ
    pub division_is : by ≡ division.Folders depth
    pub deep : depth ≤ length site
    pub other : (share_number count (way_text depth site) == index) ≡ false

  walks_by : (d : Division) (index : ℕ) (site : Path) → by ≡ d → walks (part_of share d count index) site ≡ false → IsElsewhere index site
  walks_by division.Identifiers index site is unwalked = absurd (cc)
  walks_by (division.Folders depth) index site is unwalked =
      by_parts (length site == depth) (share_number count (way_text depth site) == index) refl refl unwalked
    where
      by_parts : (x y : Bool) → (length site == depth) ≡ x → (share_number count (way_text depth site) == index) ≡ y → (not x || y) ≡ false
          → IsElsewhere index site
      by_parts true true a b e = absurd (cc)
      by_parts false y a b e = absurd (cc)
      by_parts true false a b e = let same = eqb-true _ _ a in record {
        depth = depth;
        division_is = is;
        deep = omega (arith, same);
        other = b;
      }

  pub elsewhere : (index : ℕ) (site : Path) → walks (part index) site ≡ false → IsElsewhere index site
  elsewhere index site unwalked = walks_by by index site refl unwalked

  -- and so is all below it
  pub further : (index : ℕ) (site : Path) (name : List ℕ) → IsElsewhere index site → IsElsewhere index (site ++ name ∷ [])
  further index site name it = let deep = it.deep in record {
    depth = it.depth;
    division_is = it.division_is;
    deep = omega (arith, deep, length-append site (name ∷ []));
    other = ap (λ (p : Path). share_number count (joined p) == index) (take-append-le it.depth site (name ∷ []) deep) ∙ it.other;
  }

  -- nothing there is its own
  pub elsewhere_tells : (index : ℕ) (site : Path) → IsElsewhere index site → (tell_no site == index) ≡ false
  elsewhere_tells index site it =
      ap (λ (d : Division). by_division d 1 (λ depth. share_number count (way_text depth site)) == index) it.division_is ∙ it.other

  elsewhere_reads : (index : ℕ) (site : Path) (read : Result (List ℕ) Refusal) → IsElsewhere index site
      → (read_ok read && (read_no site read == index)) ≡ false
  elsewhere_reads index site (Err why) it = elsewhere_tells index site it
  elsewhere_reads index site (Ok id) it =
      ap (λ (b : Bool). chosen share.only share.list id && b) (
      ap (λ (d : Division). by_division d (share_number count id) (λ depth. share_number count (way_text depth site)) == index) it.division_is
      ∙ it.other) ∙ and-false (chosen share.only share.list id)

  elsewhere_object : (tuples : Tuples) (prefix : List ℕ) (index : ℕ) (site : Path) → IsElsewhere index site
      → is_own_object tuples (part index) prefix site ≡ false
  elsewhere_object tuples prefix index [] it = tells_are index [] ∙ elsewhere_tells index [] it
  elsewhere_object tuples prefix index (name ∷ names) it =
      let read = identifier_at tuples prefix (name ∷ names) in
      read_are tuples index (name ∷ names) read ∙ elsewhere_reads index (name ∷ names) read it

  pub elsewhere_in : (tuples : Tuples) (at : Path × List ℕ) (what : Finding) (index : ℕ) → IsElsewhere index (drop 1 at.0)
      → is_own_in tuples (part index) at what false ≡ false
  elsewhere_in tuples at what index it =
      ap (cond (is_all (part index)) false) (by_what what) ∙ same_either (is_all (part index)) false
    where
      by_what : (w : Finding) → is_own_by_finding tuples (part index) at w false ≡ false
      by_what finding.Interior = refl
      by_what (finding.Skip why) = refl
      by_what (finding.Candidate i) = elsewhere_object tuples at.1 index (drop 1 at.0) it
      by_what finding.Gathered = elsewhere_object tuples at.1 index (drop 1 at.0) it

  pub elsewhere_entry : (path : Path) (here : Within) (item : Item) (index : ℕ) → IsElsewhere index (drop 1 path)
      → is_own_entry (part index) path here item false ≡ false
  elsewhere_entry path here item index it =
      ap (λ (b : Bool). cond (is_all (part index)) false (cond (is_shorty item && is_site here) b false))
      (tells_are index (drop 1 path) ∙ elsewhere_tells index (drop 1 path) it)
      ∙ ap (cond (is_all (part index)) false) (same_either (is_shorty item && is_site here) false) ∙ same_either (is_all (part index)) false
