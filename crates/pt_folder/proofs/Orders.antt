-- Listings of a directory whose names rise: the names give the order, and looks the kinds.
use Rattle.std.proofs.Common.{◌≡◌, ◌⊎◌, ℕ, ◌<◌, List, [], ◌∷◌, ◌++◌, map, true, refl, sym, ap, ◌∙◌, subst, arith, length, get_or, zero, suc, inl, inr}
use Rattle.std.specs.Prelude.{cond, Option, None, Some, IsPermutation}
use Rattle.std.specs.Option.{option_map, option_and_then}
use Rattle.std.specs.List.{All}
use Rattle.std.specs.Str.{bytes_eq}
use Rattle.std.proofs.lemmas.Bool.{and_parts, cond-true, cond-false, true≢false}
use Rattle.std.proofs.lemmas.List.Sorted.{All-permutation, IsPermutation-sym, IsPermutation-trans}
use Rattle.pt_tree.specs.declared.kind.Kind.{Kind}
use Rattle.pt_tree.specs.Forest.{Forest, none, file, other, dir, Node, File, Dir, Other, find, kind_of, node_at, as_dir, dir_at, listing_of, is_proper}
use Rattle.pt_tree.specs.Listing.{Item, is_before, names_rise}
use Rattle.pt_tree.specs.Path.{Path}
use Rattle.pt_tree.proofs.Finding.{proper_file, proper_other, proper_dir}
use Rattle.pt_tree.proofs.Names.{name_itself, before-trans, before_differs}
use Rattle.pt_tree.proofs.Renamed.{node-append}
use Rattle.pt_tree.proofs.Rising.{names_rise-proper}
use Rattle.pt_folder.specs.SourceLaws.{names_of}
use Rattle.pt_folder.specs.Seeing.{IsItem}

abbrev pub name_list : List Item → List (List ℕ)
name_list items = map (λ (item : Item). item.0) items

-- ---- names that rise

abbrev Mem : List ℕ → List (List ℕ) → Type 0
Mem n [] = ⊥
Mem n (x ∷ xs) = (x ≡ n) ⊎ Mem n xs

abbrev Sub : List (List ℕ) → List (List ℕ) → Type 0
Sub [] ys = Unit {0}
Sub (x ∷ xs) ys = Mem x ys × Sub xs ys

abbrev Before : List ℕ → List (List ℕ) → Type 0
Before n [] = Unit {0}
Before n (x ∷ xs) = (is_before n x ≡ true) × Before n xs

abbrev Rise : List (List ℕ) → Type 0
Rise [] = Unit {0}
Rise (x ∷ xs) = Before x xs × Rise xs

before_mem : (n m : List ℕ) (xs : List (List ℕ)) → Before n xs → Mem m xs → is_before n m ≡ true
before_mem n m [] before mem = absurd mem
before_mem n m (x ∷ xs) before (inl same) = subst (λ (k : List ℕ). is_before n k ≡ true) same before.0
before_mem n m (x ∷ xs) before (inr later) = before_mem n m xs before.1 later

not_itself : (n : List ℕ) → is_before n n ≡ true → ⊥
not_itself n h = true≢false (sym (name_itself n) ∙ before_differs n n h)

before_further : (n m : List ℕ) (xs : List (List ℕ)) → is_before n m ≡ true → Before m xs → Before n xs
before_further n m [] first before = tt
before_further n m (x ∷ xs) first before = (before-trans n m x first before.0, before_further n m xs first before.1)

rise_items : (items : List Item) → names_rise items ≡ true → Rise (name_list items)
rise_items [] rise = tt
rise_items (x ∷ []) rise = (tt, tt)
rise_items (x ∷ y ∷ items) rise =
    let parts = and_parts (is_before x.0 y.0) (names_rise (y ∷ items)) rise in
    let later = rise_items (y ∷ items) parts.1 in
    ((parts.0, before_further x.0 y.0 (name_list items) parts.0 later.0), later)

without_first : (y : List ℕ) (xs ys : List (List ℕ)) → Before y xs → Sub xs (y ∷ ys) → Sub xs ys
without_first y [] ys before sub = tt
without_first y (x ∷ xs) ys before sub = (by sub.0, without_first y xs ys before.1 sub.1)
  where
    by : Mem x (y ∷ ys) → Mem x ys
    by (inl same) = absurd (not_itself y (subst (λ (k : List ℕ). is_before y k ≡ true) (sym same) before.0))
    by (inr later) = later

same_names : (xs ys : List (List ℕ)) → Rise xs → Rise ys → Sub xs ys → Sub ys xs → xs ≡ ys
same_names [] [] rx ry there back = refl
same_names [] (y ∷ ys) rx ry there back = absurd back.0
same_names (x ∷ xs) [] rx ry there back = absurd there.0
same_names (x ∷ xs) (y ∷ ys) rx ry there back =
    let rest = same_names xs ys rx.1 ry.1
    (without_first y xs ys (subst (λ (k : List ℕ). Before k xs) head rx.0) there.1)
    (without_first x ys xs (subst (λ (k : List ℕ). Before k ys) (sym head) ry.0) back.1) in
    λ i. head i ∷ rest i
  where
    both : Mem x ys → Mem y xs → ⊥
    both a b = not_itself x (before-trans x y x (before_mem x y xs rx.0 b) (before_mem y x ys ry.0 a))

    by : Mem x (y ∷ ys) → Mem y (x ∷ xs) → x ≡ y
    by (inl same) there_too = sym same
    by (inr later) (inl same) = same
    by (inr later) (inr further) = absurd (both later further)

    head : x ≡ y
    head = by there.0 back.0

all_mem : (ys : List (List ℕ)) (k : ℕ) (d : List ℕ) → k < length ys → Mem (get_or ys k d) ys
all_mem [] k d within = absurd (omega (arith, within))
all_mem (y ∷ ys) zero d within = inl refl
all_mem (y ∷ ys) (suc k) d within = inr (all_mem ys k d (omega (arith, within)))

sub_of : (xs ys : List (List ℕ)) → All (λ m. Mem m ys) xs → Sub xs ys
sub_of [] ys all = tt
sub_of (x ∷ xs) ys all = (all zero x (omega arith), sub_of xs ys (λ k d within. all (suc k) d (omega (arith, within))))

-- lists of the same names that rise are one
pub same_order : (xs ys : List (List ℕ)) → IsPermutation xs ys → Rise xs → Rise ys → xs ≡ ys
same_order xs ys moved rx ry =
    same_names xs ys rx ry
    (sub_of xs ys (All-permutation (λ m. Mem m ys) ys xs (IsPermutation-sym xs ys moved) (λ k d within. all_mem ys k d within)))
    (sub_of ys xs (All-permutation (λ m. Mem m xs) xs ys moved (λ k d within. all_mem xs k d within)))

-- ---- kinds

abbrev Kinds : (List ℕ → Option Kind) → List Item → Type 0
Kinds g [] = Unit {0}
Kinds g (x ∷ xs) = (g x.0 ≡ Some x.1) × Kinds g xs

kinds_behind : (name : List ℕ) (y : Node) (f : Forest) (items : List Item) → Before name (name_list items) → Kinds (λ n. option_map kind_of (find f n)) items
    → Kinds (λ n. option_map kind_of (cond (bytes_eq name n) (Some y) (find f n))) items
kinds_behind name y f [] before kinds = tt
kinds_behind name y f (x ∷ items) before kinds = (
  ap (option_map kind_of) (cond-false (bytes_eq name x.0) (Some y) (find f x.0) (before_differs name x.0 before.0))
      ∙ kinds.0,
  kinds_behind name y f items before.1 kinds.1,
)

here : (name : List ℕ) (y : Node) (o : Option Node) → option_map kind_of (cond (bytes_eq name name) (Some y) o) ≡ Some (kind_of y)
here name y o = ap (option_map kind_of) (cond-true (bytes_eq name name) (Some y) o (name_itself name))

kinds_listed : (d : Forest) → is_proper d ≡ true → Kinds (λ n. option_map kind_of (find d n)) (listing_of d)
kinds_listed none proper = tt
kinds_listed (file name b after) proper =
    let p = proper_file name b after proper in
    let rise = rise_items (listing_of (file name b after)) (names_rise-proper (file name b after) proper) in
    (here name (File b) (find after name), kinds_behind name (File b) after (listing_of after) rise.0 (kinds_listed after p.2))
kinds_listed (other name after) proper =
    let p = proper_other name after proper in
    let rise = rise_items (listing_of (other name after)) (names_rise-proper (other name after) proper) in
    (here name Other (find after name), kinds_behind name Other after (listing_of after) rise.0 (kinds_listed after p.2))
kinds_listed (dir name inside after) proper =
    let p = proper_dir name inside after proper in
    let rise = rise_items (listing_of (dir name inside after)) (names_rise-proper (dir name inside after) proper) in
    (here name (Dir inside) (find after name), kinds_behind name (Dir inside) after (listing_of after) rise.0 (kinds_listed after p.2))

same_items : (g : List ℕ → Option Kind) (xs ys : List Item) → name_list xs ≡ name_list ys → Kinds g xs → Kinds g ys → xs ≡ ys
same_items g [] [] names kx ky = refl
same_items g [] (y ∷ ys) names kx ky = absurd (cc)
same_items g (x ∷ xs) [] names kx ky = absurd (cc)
same_items g (x ∷ xs) (y ∷ ys) names kx ky =
    let first : x.0 ≡ y.0 = cc in
    let later : name_list xs ≡ name_list ys = cc in
    let both : Some x.1 ≡ Some y.1 = sym kx.0 ∙ ap g first ∙ ky.0 in
    let second : x.1 ≡ y.1 = cc in
    let rest = same_items g xs ys later kx.1 ky.1 in
    λ i. (first i, second i) ∷ rest i

found : (f d : Forest) (p : Path) (n : List ℕ) → dir_at f p ≡ Some d → node_at (Dir f) (p ++ n ∷ []) ≡ find d n
found f d p n is = node-append (Dir f) p (n ∷ []) (Dir d) (as_node (node_at (Dir f) p) is) ∙ only (find d n)
  where
    as_node : (o : Option Node) → option_and_then as_dir o ≡ Some d → o ≡ Some (Dir d)
    as_node None h = absurd (cc)
    as_node (Some (File b)) h = absurd (cc)
    as_node (Some (Dir e)) h = let same : e ≡ d = cc in ap (λ (c : Forest). Some (Dir c)) same
    as_node (Some Other) h = absurd (cc)

    only : (o : Option Node) → option_and_then (λ node. node_at node []) o ≡ o
    only None = refl
    only (Some x) = refl

kinds_seen : (f d : Forest) (p : Path) (items : List Item) → dir_at f p ≡ Some d → All (IsItem f p) items → Kinds (λ n. option_map kind_of (find d n)) items
kinds_seen f d p [] is all = tt
kinds_seen f d p (x ∷ items) is all = (
  ap (option_map kind_of) (sym (found f d p x.0 is)) ∙ all zero x (omega arith),
  kinds_seen f d p items is
      (λ k e within. all (suc k) e (omega (arith, within))),
)

-- a listing of a directory's names in their order, with the kinds that are seen, is the directory's
pub listing_is : (f d : Forest) (p : Path) (names order : List (List ℕ)) (items : List Item) → is_proper d ≡ true → dir_at f p ≡ Some d
    → IsPermutation names (names_of d) → IsPermutation names order
    → name_list items ≡ order → names_rise items ≡ true → All (IsItem f p) items → listing_of d ≡ items
listing_is f d p names order items proper is given ordered listed rise seen =
    let rises = rise_items (listing_of d) (names_rise-proper d proper) in
    let mine : Rise order = subst Rise listed (rise_items items rise) in
    let moved : IsPermutation order (names_of d) = IsPermutation-trans order names (names_of d) (IsPermutation-sym names order ordered) given in
    same_items (λ n. option_map kind_of (find d n)) (listing_of d) items (sym (listed ∙ same_order order (names_of d) moved mine rises)) (kinds_listed d proper)
    (kinds_seen f d p items is seen)
