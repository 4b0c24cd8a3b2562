-- What stands at each path of a tree in which deep files are seen by lengths is proved.
use Rattle.std.proofs.Common.{◌≡◌, ◌-◌, ℕ, suc, zero, List, [], ◌∷◌, true, false, refl, sym, ◌∙◌, ap, arith, length, nat_lt}
use Rattle.std.specs.Prelude.{Bool, cond, is_some, Option, None, Some}
use Rattle.std.specs.Option.{option_and_then, option_map}
use Rattle.std.specs.Str.{bytes_eq}
use Rattle.std.proofs.lemmas.Bool.{and_from}
use Rattle.std.proofs.lemmas.Bool.Decides.{nat_tests}
use Rattle.pt_tree.specs.Forest.{Forest, none, file, other, dir, Node, File, Dir, Other}
use Rattle.pt_tree.specs.Forest.{as_dir, as_file, comes_before, dir_at, file_at, find}
use Rattle.pt_tree.specs.Forest.{kind_of, listing_of, node_at}
use Rattle.pt_tree.specs.declared.kind.Kind.TheVariants as kind
use Rattle.pt_tree.specs.Listing.{Item}
use Rattle.pt_tree.specs.Path.{Path}
use Rattle.pt_tree.specs.ProperParts.{proper_dir, proper_file, proper_other}
use Rattle.pt_tree.specs.Tree.{Entry, entry_of, tree_of}
use Rattle.pt_quick.specs.ByDepth.{entry_measured, is_deep, measured, tree_measured}
use Rattle.pt_quick.specs.DepthLaws.{FilesAreMeasured, FoldersAreMeasured, KindsStay, ListingsStay}
use Rattle.pt_quick.specs.DepthLaws.{ListingsStayAt, NodesAreMeasured, StaysProper}
use Rattle.pt_quick.specs.DepthLaws.{TreesAreMeasured, node_measured}
use Rattle.pt_quick.specs.LengthsOf.{listing-lengths, node_at-lengths, node_lengths}
use Rattle.pt_quick.specs.LengthsOf.{proper-lengths}
use Rattle.pt_quick.specs.Measured.{text_of_file}

-- ---- depths and lengths of paths

-- no path of no name is deep
top_is_not_deep : (depth : ℕ) → nat_lt depth 0 ≡ false
top_is_not_deep depth = grind (arith, nat_tests)

-- one of a name is, where the depth is none
below_is_deep : (k : ℕ) → nat_lt 0 (suc k) ≡ true
below_is_deep k = grind (arith, nat_tests)

-- one is so deep below a name as its rest below one name less
deep_below : (depth k : ℕ) → nat_lt depth k ≡ nat_lt (suc depth) (suc k)
deep_below depth k = grind (arith, nat_tests)

-- and as much is left
left_below : (depth k : ℕ) → depth - k ≡ suc depth - (suc k)
left_below depth k = omega arith

-- ---- what stands at a path

-- seen so at the top
seen_top : (longest depth : ℕ) (f : Forest) → node_measured longest depth [] (Dir f) ≡ Dir (measured longest depth f)
seen_top longest depth f = ap (λ d. Dir (measured longest d f)) rest
  where
    rest : depth - 0 ≡ depth
    rest = omega arith

-- where no depth is left
seen_deep : (longest : ℕ) (n : List ℕ) (p : Path) (x : Node) → node_measured longest 0 (n ∷ p) x ≡ node_lengths longest x
seen_deep longest n p (File b) = ap (λ t. File (cond t (text_of_file longest b) b)) (below_is_deep (length p))
seen_deep longest n p (Dir d) = ap (λ k. Dir (measured longest k d)) rest
  where
    rest : 0 - suc (length p) ≡ 0
    rest = omega arith
seen_deep longest n p Other = refl

-- behind a name
seen_below : (longest depth : ℕ) (n : List ℕ) (p : Path) (x : Node)
    → node_measured longest depth p x ≡ node_measured longest (suc depth) (n ∷ p) x
seen_below longest depth n p (File b) = ap (λ t. File (cond t (text_of_file longest b) b)) (deep_below depth (length p))
seen_below longest depth n p (Dir d) = ap (λ k. Dir (measured longest k d)) (left_below depth (length p))
seen_below longest depth n p Other = refl

-- a step at an entry k
step : (longest depth : ℕ) (k n : List ℕ) (y : Node) (f g : Forest)
    → find g n ≡ option_map (node_measured longest depth []) (find f n)
    → cond (bytes_eq k n) (Some (node_measured longest depth [] y)) (find g n)
    ≡ option_map (node_measured longest depth []) (cond (bytes_eq k n) (Some y) (find f n))
step longest depth k n y f g later = by (bytes_eq k n)
  where
    by : (t : Bool) → cond t (Some (node_measured longest depth [] y)) (find g n)
        ≡ option_map (node_measured longest depth []) (cond t (Some y) (find f n))
    by true = refl
    by false = later

-- a file's own bytes at the top
file_kept : (longest depth : ℕ) (b : List ℕ) → Some (File b) ≡ Some (node_measured longest depth [] (File b))
file_kept longest depth b = ap (λ t. Some (File (cond t (text_of_file longest b) b))) (sym (top_is_not_deep depth))

-- a directory at the top
dir_kept : (longest depth : ℕ) (d : Forest) → Some (Dir (measured longest depth d)) ≡ Some (node_measured longest depth [] (Dir d))
dir_kept longest depth d = ap (λ (x : Node). Some x) (sym (seen_top longest depth d))

-- what stands at a name
pub find-measured : (longest depth : ℕ) (f : Forest) (n : List ℕ)
    → find (measured longest (suc depth) f) n ≡ option_map (node_measured longest depth []) (find f n)
find-measured longest depth none n = refl
find-measured longest depth (file k b f) n =
    (λ i. cond (bytes_eq k n) (file_kept longest depth b i) (find (measured longest (suc depth) f) n))
    ∙ step longest depth k n (File b) f (measured longest (suc depth) f) (find-measured longest depth f n)
find-measured longest depth (other k f) n =
    step longest depth k n Other f (measured longest (suc depth) f) (find-measured longest depth f n)
find-measured longest depth (dir k d f) n =
    (λ i. cond (bytes_eq k n) (dir_kept longest depth d i) (find (measured longest (suc depth) f) n))
    ∙ step longest depth k n (Dir d) f (measured longest (suc depth) f) (find-measured longest depth f n)

-- what stands at a path from there
at_rest : (longest depth : ℕ) (p : Path) (x : Node)
    → ((f : Forest) → node_at (Dir (measured longest depth f)) p
    ≡ option_map (node_measured longest depth p) (node_at (Dir f) p))
    → node_at (node_measured longest depth [] x) p ≡ option_map (node_measured longest depth p) (node_at x p)
at_rest longest depth [] x later = refl
at_rest longest depth (m ∷ p) (File b) later = refl
at_rest longest depth (m ∷ p) (Dir d) later =
    ap (λ (x : Node). node_at x (m ∷ p)) (seen_top longest depth d) ∙ later d
at_rest longest depth (m ∷ p) Other later = refl

-- what stands at a path is what stood there, seen so
pub node_at-measured : NodesAreMeasured
node_at-measured longest depth f [] = ap (λ (x : Node). Some x) (sym (seen_top longest depth f))
node_at-measured longest zero f (n ∷ p) =
    node_at-lengths longest (Dir f) (n ∷ p) ∙ by (node_at (Dir f) (n ∷ p))
  where
    by : (found : Option Node) → option_map (node_lengths longest) found
        ≡ option_map (node_measured longest 0 (n ∷ p)) found
    by None = refl
    by (Some x) = ap (λ (x : Node). Some x) (sym (seen_deep longest n p x))
node_at-measured longest (suc depth) f (n ∷ p) =
    ap (option_and_then (λ node. node_at node p)) (find-measured longest depth f n)
    ∙ by (find f n) (λ x. at_rest longest depth p x (λ f. node_at-measured longest depth f p))
  where
    below : (o : Option Node) → option_map (node_measured longest depth p) o
        ≡ option_map (node_measured longest (suc depth) (n ∷ p)) o
    below None = refl
    below (Some x) = ap (λ (x : Node). Some x) (seen_below longest depth n p x)

    by : (found : Option Node)
        → ((x : Node) → node_at (node_measured longest depth [] x) p
        ≡ option_map (node_measured longest depth p) (node_at x p))
        → option_and_then (λ node. node_at node p) (option_map (node_measured longest depth []) found)
        ≡ option_map (node_measured longest (suc depth) (n ∷ p)) (option_and_then (λ node. node_at node p) found)
    by None later = refl
    by (Some x) later = later x ∙ below (node_at x p)

-- ---- files and directories

-- nothing is left where nothing stands
none_left : {A : Type 0} (g : A → A) (t : Bool) → None ≡ cond t (option_map g None) None
none_left g true = refl
none_left g false = refl

-- what is left where something stands
some_left : {A : Type 0} (g : A → A) (t : Bool) (x : A) → Some (cond t (g x) x) ≡ cond t (option_map g (Some x)) (Some x)
some_left g true x = refl
some_left g false x = refl

-- a deep file has the text of its length, and any other its own bytes
pub file_at-measured : FilesAreMeasured
file_at-measured longest depth f p =
    ap (option_and_then as_file) (node_at-measured longest depth f p) ∙ by (node_at (Dir f) p)
  where
    by : (found : Option Node) → option_and_then as_file (option_map (node_measured longest depth p) found)
        ≡ cond (is_deep depth p) (option_map (text_of_file longest) (option_and_then as_file found)) (option_and_then as_file found)
    by None = none_left (text_of_file longest) (is_deep depth p)
    by (Some (File b)) = some_left (text_of_file longest) (is_deep depth p) b
    by (Some (Dir d)) = none_left (text_of_file longest) (is_deep depth p)
    by (Some Other) = none_left (text_of_file longest) (is_deep depth p)

-- a directory is seen by what is left of the depth
pub dir_at-measured : FoldersAreMeasured
dir_at-measured longest depth f p =
    ap (option_and_then as_dir) (node_at-measured longest depth f p) ∙ by (node_at (Dir f) p)
  where
    by : (found : Option Node) → option_and_then as_dir (option_map (node_measured longest depth p) found)
        ≡ option_map (measured longest (depth - length p)) (option_and_then as_dir found)
    by None = refl
    by (Some (File b)) = refl
    by (Some (Dir d)) = refl
    by (Some Other) = refl

-- one stands where one stood
pub is_file-measured : (longest depth : ℕ) (f : Forest) (p : Path)
    → is_some (file_at (measured longest depth f) p) ≡ is_some (file_at f p)
is_file-measured longest depth f p =
    ap is_some (file_at-measured longest depth f p) ∙ by (is_deep depth p) (file_at f p)
  where
    by : (t : Bool) (bytes : Option (List ℕ)) → is_some (cond t (option_map (text_of_file longest) bytes) bytes) ≡ is_some bytes
    by true None = refl
    by true (Some b) = refl
    by false bytes = refl

-- so does a directory
pub is_dir-measured : (longest depth : ℕ) (f : Forest) (p : Path)
    → is_some (dir_at (measured longest depth f) p) ≡ is_some (dir_at f p)
is_dir-measured longest depth f p = ap is_some (dir_at-measured longest depth f p) ∙ by (dir_at f p)
  where
    by : (d : Option Forest) → is_some (option_map (measured longest (depth - length p)) d) ≡ is_some d
    by None = refl
    by (Some e) = refl

-- what stands is of the same kind
pub kind_at-measured : KindsStay
kind_at-measured longest depth f p =
    ap (option_map kind_of) (node_at-measured longest depth f p) ∙ by (node_at (Dir f) p)
  where
    by : (found : Option Node) → option_map kind_of (option_map (node_measured longest depth p) found) ≡ option_map kind_of found
    by None = refl
    by (Some (File b)) = refl
    by (Some (Dir d)) = refl
    by (Some Other) = refl

-- ---- listings

-- a directory lists what it listed
pub listing-measured : ListingsStay
listing-measured longest zero f = listing-lengths longest f
listing-measured longest (suc depth) none = refl
listing-measured longest (suc depth) (file k b f) =
    ap (λ (items : List Item). (k, kind.File) ∷ items) (listing-measured longest (suc depth) f)
listing-measured longest (suc depth) (other k f) =
    ap (λ (items : List Item). (k, kind.Other) ∷ items) (listing-measured longest (suc depth) f)
listing-measured longest (suc depth) (dir k d f) =
    ap (λ (items : List Item). (k, kind.Dir) ∷ items) (listing-measured longest (suc depth) f)

-- so does the one at any path
pub listing_at-measured : ListingsStayAt
listing_at-measured longest depth f p =
    ap (option_map listing_of) (dir_at-measured longest depth f p) ∙ by (dir_at f p)
  where
    by : (d : Option Forest) → option_map listing_of (option_map (measured longest (depth - length p)) d) ≡ option_map listing_of d
    by None = refl
    by (Some e) = ap (λ (items : List Item). Some items) (listing-measured longest (depth - length p) e)

-- what comes before the first still does
before-measured : (longest depth : ℕ) (n : List ℕ) (f : Forest)
    → comes_before n (measured longest (suc depth) f) ≡ comes_before n f
before-measured longest depth n none = refl
before-measured longest depth n (file k b f) = refl
before-measured longest depth n (other k f) = refl
before-measured longest depth n (dir k d f) = refl

-- in each directory the names rise still
pub proper-measured : StaysProper
proper-measured longest zero f proper = proper-lengths longest f proper
proper-measured longest (suc depth) none proper = refl
proper-measured longest (suc depth) (file k b f) proper =
    let p = proper_file k b f proper in
    and_from _ _ p.0
    (and_from _ _ (before-measured longest depth k f ∙ p.1) (proper-measured longest (suc depth) f p.2))
proper-measured longest (suc depth) (other k f) proper =
    let p = proper_other k f proper in
    and_from _ _ p.0
    (and_from _ _ (before-measured longest depth k f ∙ p.1) (proper-measured longest (suc depth) f p.2))
proper-measured longest (suc depth) (dir k d f) proper =
    let p = proper_dir k d f proper in
    and_from _ _ p.0
    (and_from _ _ (before-measured longest depth k f ∙ p.1)
    (and_from _ _ (proper-measured longest depth d p.3) (proper-measured longest (suc depth) f p.2)))

-- ---- path by path

-- of deep files the texts of their lengths stand, and all else as it is
pub tree-measured : TreesAreMeasured
tree-measured longest depth f = λ i p. at p i
  where
    entry : (p : Path) (x : Node) → entry_of (node_measured longest depth p x)
        ≡ cond (is_deep depth p) (entry_measured longest (entry_of x)) (entry_of x)
    entry p (File b) = by (is_deep depth p)
      where
        by : (t : Bool) → entry_of (File (cond t (text_of_file longest b) b))
            ≡ cond t (entry_measured longest (entry_of (File b))) (entry_of (File b))
        by true = refl
        by false = refl
    entry p (Dir d) = by (is_deep depth p)
      where
        by : (t : Bool) → entry_of (Dir d) ≡ cond t (entry_of (Dir d)) (entry_of (Dir d))
        by true = refl
        by false = refl
    entry p Other = by (is_deep depth p)
      where
        by : (t : Bool) → entry_of Other ≡ cond t (entry_of Other) (entry_of Other)
        by true = refl
        by false = refl

    by : (p : Path) (found : Option Node) → option_map entry_of (option_map (node_measured longest depth p) found)
        ≡ cond (is_deep depth p) (option_map (entry_measured longest) (option_map entry_of found)) (option_map entry_of found)
    by p None = none_left (entry_measured longest) (is_deep depth p)
    by p (Some x) = ap (λ (e : Entry). Some e) (entry p x) ∙ some_left (entry_measured longest) (is_deep depth p) (entry_of x)

    at : (p : Path) → tree_of (measured longest depth f) p ≡ tree_measured longest depth (tree_of f) p
    at p = ap (option_map entry_of) (node_at-measured longest depth f p) ∙ by p (node_at (Dir f) p)
