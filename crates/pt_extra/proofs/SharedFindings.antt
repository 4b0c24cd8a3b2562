-- What the shares of a store by folders find in a root.
use Rattle.std.proofs.Common.{
  ◌≡◌,
  ◌≤◌,
  ◌+◌,
  ◌-◌,
  ◌==◌,
  ◌&&◌,
  ℕ,
  Bool,
  true,
  false,
  List,
  [],
  ◌∷◌,
  ◌++◌,
  arith,
  ap,
  sym,
  ◌∙◌,
  refl,
  cond,
  length,
  eq-eqb,
}
use Rattle.std.specs.Prelude.{◌||◌, None, Option, Some, count_by, not}
use Rattle.std.proofs.lemmas.Bool.{eqb-true, ne_eqb}
use Rattle.std.proofs.lemmas.List.Sums.{sum_by-append}
use Rattle.pt_extra.specs.Findings.{Against, entry_of, found_at, is_object, is_own, is_passed, of_entries, of_folder, of_leaf, of_object, of_placed, of_unnamed}
use Rattle.pt_extra.specs.Inventories.{id_of}
use Rattle.pt_extra.specs.Lines.{ExtraFinding, Stray}
use Rattle.pt_extra.specs.ShareLaws.{FolderSharesFindTheWhole, by_share, folders_of, whole_of}
use Rattle.pt_name.proofs.Shares.{whole_number}
use Rattle.pt_name.specs.Place.{place_of}
use Rattle.pt_name.specs.Share.{Portion, by_division, chosen, is_on_own_way, share_number, way_text}
use Rattle.pt_object.specs.WellKnown.{known_text}
use Rattle.pt_object.specs.declared.well_known.WellKnownName.TheVariants as known
use Rattle.pt_plan.proofs.ShareNumbers.{number_within}
use Rattle.pt_plan.proofs.ShareSums.{same_sums, sum_at_one, sum_of_both, sum_of_none}
use Rattle.pt_plan.specs.Roots.{storage_root}
use Rattle.pt_plan.specs.ShareLaws.{sum_of_shares}
use Rattle.pt_plan.specs.TurnStart.{is_dir_kind, kind_in}
use Rattle.pt_tree.specs.Forest.{Forest, none, file, other, dir, listing_of}
use Rattle.pt_tree.specs.Path.{Path, same_path}
use Rattle.pt_tree.specs.declared.kind.Kind.{Kind}
use Rattle.pt_tree.specs.declared.kind.Kind.TheVariants as kind
use Rattle.pt_walk.specs.Left.{inside_at}

-- ---- the one value or nothing

abbrev Found : Type 0
Found = List ExtraFinding

abbrev none_found : Found
none_found = []

nothing : (b : Bool) → none_found ≡ cond b none_found none_found
nothing true = refl
nothing false = refl

both : (b : Bool) (first later : Found) → cond b first [] ++ cond b later [] ≡ cond b (first ++ later) []
both true first later = refl
both false first later = refl

-- an object that is chosen
taken : (c b w : Bool) (told : Found) → w ≡ true → cond (c && b) told [] ≡ cond b (cond (c && w) told []) []
taken true true w told is = sym (ap (λ (t : Bool). cond t told []) is)
taken true false w told is = refl
taken false b w told is = nothing b

-- a folder
folded : (b x y : Bool) (of_it bare entries : Found)
    → cond x (cond b of_it []) (cond y (cond b bare []) (cond b entries [])) ≡ cond b (cond x of_it (cond y bare entries)) []
folded true x y of_it bare entries = refl
folded false true y of_it bare entries = refl
folded false false true of_it bare entries = refl
folded false false false of_it bare entries = refl

-- an entry of the root that may be its own
passed : (own b : Bool) (told : Found) → cond (own || not b) [] (cond b told []) ≡ cond b (cond (own || false) [] told) []
passed true true told = refl
passed true false told = refl
passed false true told = refl
passed false false told = refl

-- ---- one share

-- the share that a path gives
abbrev number_at : ℕ → ℕ → Path → ℕ
number_at depth count path = share_number count (way_text depth (entry_of path))

module _ (c : Against) (depth count index : ℕ) where
  abbrev whole : Against
  whole = by_share c (whole_of c.job.share)

  abbrev mine : Against
  mine = by_share c (folders_of c.job.share depth count index)

  abbrev is_mine : Path → Bool
  is_mine path = number_at depth count path == index

  unnamed_is : (path : Path) → of_unnamed mine path ≡ cond (is_mine path) (of_unnamed whole path) []
  unnamed_is path = refl

  object_is : (path : Path) (id : Option (List ℕ)) → of_object mine path id ≡ cond (is_mine path) (of_object whole path id) []
  object_is path None = refl
  object_is path (Some id) =
      taken (chosen c.job.share.only c.job.share.list id) (is_mine path) (share_number 1 id == 1)
      (cond (same_path path (place_of c.job.tuples id)) (of_placed whole path id) (Stray path ∷ []))
      (eq-eqb (share_number 1 id) 1 (whole_number id))

  folder_is : (path : Path) (left : ℕ) (inside : Forest) (entries own : Found) → own ≡ cond (is_mine path) entries []
      → of_folder mine path left inside own ≡ cond (is_mine path) (of_folder whole path left inside entries) []
  folder_is path left inside entries own is =
      ap (of_folder mine path left inside) is
      ∙ ap (λ (o : Found). cond (is_object (listing_of inside)) o
      (cond (left == 0 || length (listing_of inside) == 0) (of_unnamed mine path) (cond (is_mine path) entries [])))
      (object_is path (id_of inside))
      ∙ folded (is_mine path) (is_object (listing_of inside)) (left == 0 || length (listing_of inside) == 0) (of_object whole path (id_of inside))
      (of_unnamed whole path) entries

-- ---- below an entry

-- below an entry of the root nothing is passed
none_passed : (share : Portion) (n : List ℕ) (path : Path) (name : List ℕ) (here : Kind) → is_passed share (n ∷ path) name here ≡ false
none_passed share n [] name here = refl
none_passed share n (m ∷ path) name here =
    let it = n ∷ m ∷ path ++ name ∷ [] in
    ap (λ (t : Bool). not (not t || by_division share.division true (is_on_own_way share it))) (ne_eqb (length it) 1 (λ e. omega (arith, e)))

module _ (c : Against) (depth count index : ℕ) where
  leaf_below : (n : List ℕ) (path : Path) (name : List ℕ) (here : Kind)
      → of_leaf (mine c depth count index) (n ∷ path) name here
      ≡ cond (is_mine c depth count index (n ∷ [])) (of_leaf (whole c depth count index) (n ∷ path) name here) []
  leaf_below n path name here =
      let w = whole c depth count index in
      let m = mine c depth count index in
      let it = n ∷ path ++ name ∷ [] in
      ap (λ (t : Bool). cond t [] (of_unnamed m it)) (none_passed m.job.share n path name here)
      ∙ sym (ap (λ (t : Bool). cond (is_mine c depth count index (n ∷ [])) (cond t [] (of_unnamed w it)) []) (none_passed w.job.share n path name here))

  -- a share finds below its own entries what the whole finds, and nothing below others
  entries_below : (n : List ℕ) (path : Path) (left : ℕ) (inside : Forest)
      → of_entries (mine c depth count index) (n ∷ path) left inside
      ≡ cond (is_mine c depth count index (n ∷ [])) (of_entries (whole c depth count index) (n ∷ path) left inside) []
  entries_below n path left none = nothing (is_mine c depth count index (n ∷ []))
  entries_below n path left (file name bytes after) =
      let b = is_mine c depth count index (n ∷ []) in
      let w = whole c depth count index in
      (λ i. leaf_below n path name kind.File i ++ entries_below n path left after i)
      ∙ both b (of_leaf w (n ∷ path) name kind.File) (of_entries w (n ∷ path) left after)
  entries_below n path left (other name after) =
      let b = is_mine c depth count index (n ∷ []) in
      let w = whole c depth count index in
      (λ i. leaf_below n path name kind.Other i ++ entries_below n path left after i)
      ∙ both b (of_leaf w (n ∷ path) name kind.Other) (of_entries w (n ∷ path) left after)
  entries_below n path left (dir name inside after) =
      let b = is_mine c depth count index (n ∷ []) in
      let w = whole c depth count index in
      let m = mine c depth count index in
      let it = path ++ name ∷ [] in
      let of_them = of_entries w (n ∷ it) (left - 1) inside in
      let found = of_folder w (n ∷ it) (left - 1) inside of_them in
      let own = of_folder m (n ∷ it) (left - 1) inside (of_entries m (n ∷ it) (left - 1) inside) in
      let here : cond (is_passed m.job.share (n ∷ path) name kind.Dir) [] own ≡ cond b (cond (is_passed w.job.share (n ∷ path) name kind.Dir) [] found) [] =
      ap (λ (t : Bool). cond t [] own) (none_passed m.job.share n path name kind.Dir)
      ∙ folder_is c depth count index (n ∷ it) (left - 1) inside of_them (of_entries m (n ∷ it) (left - 1) inside)
      (entries_below n it (left - 1) inside)
      ∙ sym (ap (λ (t : Bool). cond b (cond t [] found) []) (none_passed w.job.share n path name kind.Dir)) in
      (λ i. here i ++ entries_below n path left after i)
      ∙ both b (cond (is_passed w.job.share (n ∷ path) name kind.Dir) [] found) (of_entries w (n ∷ path) left after)

  -- an entry of the root that is no folder
  leaf_at_top : (name : List ℕ) (here : Kind)
      → of_leaf (mine c depth count index) [] name here
      ≡ cond (is_mine c depth count index (name ∷ [])) (of_leaf (whole c depth count index) [] name here) []
  leaf_at_top name here = passed (is_own name here) (is_mine c depth count index (name ∷ [])) (of_unnamed (whole c depth count index) (name ∷ []))

  -- what is found of a folder of the root, by its name
  abbrev dir_at_top : Against → List ℕ → ℕ → Forest → Found
  dir_at_top x name left inside =
      cond (is_passed x.job.share [] name kind.Dir) [] (of_folder x (name ∷ []) (left - 1) inside (of_entries x (name ∷ []) (left - 1) inside))

  dir_is : (name : List ℕ) (left : ℕ) (inside : Forest)
      → dir_at_top (mine c depth count index) name left inside
      ≡ cond (is_mine c depth count index (name ∷ [])) (dir_at_top (whole c depth count index) name left inside) []
  dir_is name left inside =
      let w = whole c depth count index in
      let m = mine c depth count index in
      let of_them = of_entries w (name ∷ []) (left - 1) inside in
      ap (λ (l : Found). cond (is_passed m.job.share [] name kind.Dir) [] l)
      (folder_is c depth count index (name ∷ []) (left - 1) inside of_them (of_entries m (name ∷ []) (left - 1) inside)
      (entries_below name [] (left - 1) inside))
      ∙ passed (is_own name kind.Dir) (is_mine c depth count index (name ∷ [])) (of_folder w (name ∷ []) (left - 1) inside of_them)

-- ---- all shares

-- what is of a share that a path gives is of just one
at_one : (test : ExtraFinding → Bool) (depth count : ℕ) (path : Path) (told : Found) → 1 ≤ count
    → sum_of_shares (λ index. count_by test (cond (number_at depth count path == index) told [])) count ≡ count_by test told
at_one test depth count path told some =
    let n = number_at depth count path in
    sum_at_one {n = n} count (omega arith) (number_within (way_text depth (entry_of path)) some)
    (ap (λ b. count_by test (cond b told [])) (eq-eqb n n refl)) (λ index first within apart. by index apart (n == index) refl)
  where
    by : (index : ℕ) → (index ≡ number_at depth count path → ⊥) → (t : Bool) → (number_at depth count path == index) ≡ t → count_by test (cond t told []) ≡ 0
    by index apart true h = absurd (apart (sym (eqb-true (number_at depth count path) index h)))
    by index apart false h = refl

more_findings : (test : ExtraFinding → Bool) (first later : Found) → count_by test (first ++ later) ≡ count_by test first + count_by test later
more_findings test first later = sum_by-append (λ finding. cond (test finding) 1 0) first later

module _ (c : Against) (test : ExtraFinding → Bool) (depth count : ℕ) (some : 1 ≤ count) where
  abbrev all : Against
  all = by_share c (whole_of c.job.share)

  abbrev of_share : ℕ → Against
  of_share index = by_share c (folders_of c.job.share depth count index)

  -- what of each share is so, or nothing, is of the whole
  together : (path : Path) (own : ℕ → Found) (told : Found) → ((index : ℕ) → own index ≡ cond (number_at depth count path == index) told [])
      → sum_of_shares (λ index. count_by test (own index)) count ≡ count_by test told
  together path own told is = same_sums count (λ index. ap (count_by test) (is index)) ∙ at_one test depth count path told some

  -- and so is one thing before others
  with_rest : (first rest : ℕ → Found) (told others : Found) → sum_of_shares (λ index. count_by test (first index)) count ≡ count_by test told
      → sum_of_shares (λ index. count_by test (rest index)) count ≡ count_by test others
      → sum_of_shares (λ index. count_by test (first index ++ rest index)) count ≡ count_by test (told ++ others)
  with_rest first rest told others here later =
      same_sums count (λ index. more_findings test (first index) (rest index))
      ∙ sum_of_both (λ index. count_by test (first index)) (λ index. count_by test (rest index)) count
      ∙ (λ i. here i + later i) ∙ sym (more_findings test told others)

  entries_together : (left : ℕ) (inside : Forest)
      → sum_of_shares (λ index. count_by test (of_entries (of_share index) [] left inside)) count ≡ count_by test (of_entries all [] left inside)
  entries_together left none = sum_of_none count (λ index first h. refl)
  entries_together left (file name bytes after) =
      with_rest (λ index. of_leaf (of_share index) [] name kind.File) (λ index. of_entries (of_share index) [] left after)
      (of_leaf all [] name kind.File) (of_entries all [] left after)
      (together (name ∷ []) (λ index. of_leaf (of_share index) [] name kind.File) (of_leaf all [] name kind.File)
      (λ index. leaf_at_top c depth count index name kind.File))
      (entries_together left after)
  entries_together left (other name after) =
      with_rest (λ index. of_leaf (of_share index) [] name kind.Other) (λ index. of_entries (of_share index) [] left after)
      (of_leaf all [] name kind.Other) (of_entries all [] left after)
      (together (name ∷ []) (λ index. of_leaf (of_share index) [] name kind.Other) (of_leaf all [] name kind.Other)
      (λ index. leaf_at_top c depth count index name kind.Other))
      (entries_together left after)
  entries_together left (dir name inside after) =
      let at_top = λ (x : Against). dir_at_top c depth count 0 x name left inside in
      with_rest (λ index. at_top (of_share index)) (λ index. of_entries (of_share index) [] left after) (at_top all) (of_entries all [] left after)
      (together (name ∷ []) (λ index. at_top (of_share index)) (at_top all) (λ index. dir_is c depth count index name left inside))
      (entries_together left after)

  -- the root
  root_together : (left : ℕ) (inside : Forest)
      → sum_of_shares (λ index. count_by test (found_at (of_share index) [] left inside)) count ≡ count_by test (found_at all [] left inside)
  root_together left inside = by (is_object (listing_of inside)) (left == 0 || length (listing_of inside) == 0)
    where
      by : (x y : Bool)
          → sum_of_shares (λ index. count_by test (cond x (of_object (of_share index) [] (id_of inside))
          (cond y (of_unnamed (of_share index) []) (of_entries (of_share index) [] left inside)))) count
          ≡ count_by test (cond x (of_object all [] (id_of inside)) (cond y (of_unnamed all []) (of_entries all [] left inside)))
      by true y = together [] (λ index. of_object (of_share index) [] (id_of inside)) (of_object all [] (id_of inside))
          (λ index. object_is c depth count index [] (id_of inside))
      by false true = together [] (λ index. of_unnamed (of_share index) []) (of_unnamed all []) (λ index. refl)
      by false false = entries_together left inside

pub folder_shares_find_the_whole : FolderSharesFindTheWhole
folder_shares_find_the_whole c standing depth count some test =
    by (is_dir_kind (kind_in (listing_of standing) (known_text known.StorageRoot)))
  where
    by : (t : Bool)
        → count_by test (cond t (found_at (all c test depth count some) [] (c.job.tuples.count + 1) (inside_at standing storage_root)) [])
        ≡ sum_of_shares
        (λ index. count_by test
        (cond t (found_at (of_share c test depth count some index) [] (c.job.tuples.count + 1) (inside_at standing storage_root)) [])) count
    by true = sym (root_together c test depth count some (c.job.tuples.count + 1) (inside_at standing storage_root))
    by false = sym (sum_of_none count (λ index first h. refl))
