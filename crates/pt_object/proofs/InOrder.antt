-- Files put into rising order, group by group.
use Rattle.std.proofs.Common.{◌≡◌, List, [], ◌∷◌, ◌++◌, Bool, true, false, refl, sym, ◌∙◌, ap}
use Rattle.std.specs.Prelude.{cond, ◌||◌, filter}
use Rattle.std.specs.List.{list_all}
use Rattle.std.specs.Str.{bytes_eq}
use Rattle.std.specs.declared.cmp.Ordering.{Ordering}
use Rattle.std.specs.declared.cmp.Ordering.TheVariants.{Less, Equal}
use Rattle.std.specs.Ordering.{is_lt, nat_cmp, ordering_then, ordering_reverse}
use Rattle.std.specs.Cmp.Lexicographic.{slice_cmp, nat_list_cmp_total, lists_total}
use Rattle.std.proofs.lemmas.Bool.{true≢false, false≢true, and_parts, and_from}
use Rattle.std.proofs.lemmas.Cmp.{tied_itself}
use Rattle.pt_tree.specs.Listing.{is_before}
use Rattle.pt_tree.specs.Path.{Path}
use Rattle.pt_tree.proofs.Names.{before_Less, same_name}
use Rattle.pt_object.specs.FilePaths.{File, paths_of}
use Rattle.pt_tree.specs.PathOrder.{part_in_order, parts_before}
use Rattle.pt_object.specs.VersionState.{in_order, inserted, path_before}

abbrev path_cmp : Path → Path → Ordering
path_cmp = slice_cmp (slice_cmp nat_cmp)

-- paths that part in order are in order
parts_less : (p q : Path) → parts_before p q ≡ true → path_cmp p q ≡ Less
parts_less [] q h = absurd (false≢true h)
parts_less (a ∷ p) [] h = absurd (false≢true h)
parts_less (a ∷ p) (b ∷ q) h = by (λ g. parts_less p q g) (bytes_eq a b) refl h
  where
    by : (parts_before p q ≡ true → path_cmp p q ≡ Less) → (t : Bool) → bytes_eq a b ≡ t → cond t (parts_before p q) (is_before a b) ≡ true
        → ordering_then (slice_cmp nat_cmp a b) (path_cmp p q) ≡ Less
    by later true same h = (λ i. ordering_then (equal i) (later h i))
      where
        equal : slice_cmp nat_cmp a b ≡ Equal
        equal = ap (slice_cmp nat_cmp a) (sym (same_name a b same)) ∙ tied_itself nat_list_cmp_total a
    by later false other h = ap (λ o. ordering_then o (path_cmp p q)) (before_Less a b h)

pub parts_come : (p q : Path) → parts_before p q ≡ true → path_before p q ≡ true
parts_come p q h = ap is_lt (parts_less p q h)

pub parts_follow : (p q : Path) → parts_before p q ≡ true → path_before q p ≡ false
parts_follow p q h = ap is_lt ((lists_total nat_list_cmp_total).antisymm q p ∙ ap ordering_reverse (parts_less p q h))

-- x parts before all of these
abbrev pub Precedes : File → List File → Type 0
Precedes x files = list_all (parts_before x.0) (paths_of files) ≡ true

precedes_filter : (x : File) (test : File → Bool) (files : List File) → Precedes x files → Precedes x (filter test files)
precedes_filter x test [] h = refl
precedes_filter x test (y ∷ files) h = let parts = and_parts _ _ h in by (test y) parts.0 (precedes_filter x test files parts.1)
  where
    by : (t : Bool) → parts_before x.0 y.0 ≡ true → Precedes x (filter test files) → Precedes x (cond t (y ∷ filter test files) (filter test files))
    by true here later = and_from _ _ here later
    by false here later = later

inserted_first : (x : File) (files : List File) → Precedes x files → inserted x files ≡ x ∷ files
inserted_first x [] h = refl
inserted_first x (y ∷ files) h = ap (λ t. cond t (y ∷ inserted x files) (x ∷ y ∷ files)) (parts_follow x.0 y.0 (and_parts _ _ h).0)

-- these put among others
abbrev pub inserted_all : List File → List File → List File
inserted_all [] others = others
inserted_all (x ∷ files) others = inserted x (inserted_all files others)

pub in_order-append : (files others : List File) → in_order (files ++ others) ≡ inserted_all files (in_order others)
in_order-append [] others = refl
in_order-append (x ∷ files) others = ap (inserted x) (in_order-append files others)

inserted_behind : (x : File) (files others : List File) → Precedes x files → inserted_all files (x ∷ others) ≡ x ∷ inserted_all files others
inserted_behind x [] others h = refl
inserted_behind x (y ∷ files) others h =
    let parts = and_parts _ _ h in
    ap (inserted y) (inserted_behind x files others parts.1) ∙ ap (λ t. cond t (x ∷ inserted y (inserted_all files others)) (y ∷ x ∷ inserted_all files others))
    (parts_come x.0 y.0 parts.0)

-- two groups of files in order, no file in both
pub two_groups : (P Q : File → Bool) (files : List File) → ((f : File) → P f ≡ true → Q f ≡ false) → part_in_order (paths_of files) ≡ true
    → inserted_all (filter P files) (filter Q files) ≡ filter (λ f. P f || Q f) files
two_groups P Q [] apart order = refl
two_groups P Q (x ∷ files) apart order =
    let parts = and_parts _ _ order in
    by (P x) (Q x) refl refl parts.0 (two_groups P Q files apart parts.1)
  where
    by : (p q : Bool) → P x ≡ p → Q x ≡ q → Precedes x files → inserted_all (filter P files) (filter Q files) ≡ filter (λ f. P f || Q f) files
        → inserted_all (cond p (x ∷ filter P files) (filter P files)) (cond q (x ∷ filter Q files) (filter Q files))
        ≡ cond (p || q) (x ∷ filter (λ f. P f || Q f) files) (filter (λ f. P f || Q f) files)
    by true true a b first later = absurd (true≢false (sym b ∙ apart x a))
    by true false a b first later = ap (inserted x) later ∙ inserted_first x (filter (λ f. P f || Q f) files) (precedes_filter x (λ f. P f || Q f) files first)
    by false true a b first later = inserted_behind x (filter P files) (filter Q files) (precedes_filter x P files first) ∙ ap (λ (l : List File). x ∷ l) later
    by false false a b first later = later
