-- What stands in a tree in which the text of every file is its length.
use Rattle.std.proofs.Common.{◌≡◌, ℕ, List, [], ◌∷◌, true, false, refl, ◌∙◌, ap}
use Rattle.std.specs.Prelude.{Bool, cond, Option, None, Some}
use Rattle.std.specs.Option.{option_and_then, option_map}
use Rattle.std.specs.Str.{bytes_eq}
use Rattle.std.proofs.lemmas.Bool.{and_from}
use Rattle.pt_tree.specs.Forest.{Forest, none, file, other, dir, Node, File, Dir, Other}
use Rattle.pt_tree.specs.Forest.{comes_before, find, is_proper, listing_of, node_at}
use Rattle.pt_tree.specs.declared.kind.Kind.TheVariants as kind
use Rattle.pt_tree.specs.Listing.{Item}
use Rattle.pt_tree.specs.Path.{Path}
use Rattle.pt_tree.specs.ProperParts.{proper_dir, proper_file, proper_other}
use Rattle.pt_quick.specs.Measured.{lengths_of, text_of_file}

-- what stands, with lengths
abbrev pub node_lengths : ℕ → Node → Node
node_lengths longest (File bytes) = File (text_of_file longest bytes)
node_lengths longest (Dir inside) = Dir (lengths_of longest inside)
node_lengths longest Other = Other

-- a step at an entry k
step : (longest : ℕ) (k n : List ℕ) (y : Node) (f g : Forest)
    → find g n ≡ option_map (node_lengths longest) (find f n)
    → cond (bytes_eq k n) (Some (node_lengths longest y)) (find g n)
    ≡ option_map (node_lengths longest) (cond (bytes_eq k n) (Some y) (find f n))
step longest k n y f g later = by (bytes_eq k n)
  where
    by : (t : Bool) → cond t (Some (node_lengths longest y)) (find g n)
        ≡ option_map (node_lengths longest) (cond t (Some y) (find f n))
    by true = refl
    by false = later

-- what stands at a name
pub find-lengths : (longest : ℕ) (f : Forest) (n : List ℕ)
    → find (lengths_of longest f) n ≡ option_map (node_lengths longest) (find f n)
find-lengths longest none n = refl
find-lengths longest (file k b f) n =
    step longest k n (File b) f (lengths_of longest f) (find-lengths longest f n)
find-lengths longest (other k f) n =
    step longest k n Other f (lengths_of longest f) (find-lengths longest f n)
find-lengths longest (dir k d f) n =
    step longest k n (Dir d) f (lengths_of longest f) (find-lengths longest f n)

-- what stands at a path
pub node_at-lengths : (longest : ℕ) (x : Node) (p : Path)
    → node_at (node_lengths longest x) p ≡ option_map (node_lengths longest) (node_at x p)
node_at-lengths longest x [] = refl
node_at-lengths longest (File b) (n ∷ p) = refl
node_at-lengths longest Other (n ∷ p) = refl
node_at-lengths longest (Dir d) (n ∷ p) =
    ap (option_and_then (λ node. node_at node p)) (find-lengths longest d n)
    ∙ by (find d n) (λ x. node_at-lengths longest x p)
  where
    by : (found : Option Node)
        → ((x : Node) → node_at (node_lengths longest x) p
        ≡ option_map (node_lengths longest) (node_at x p))
        → option_and_then (λ node. node_at node p) (option_map (node_lengths longest) found)
        ≡ option_map (node_lengths longest) (option_and_then (λ node. node_at node p) found)
    by None later = refl
    by (Some x) later = later x

-- the names and kinds are the same
pub listing-lengths : (longest : ℕ) (f : Forest) → listing_of (lengths_of longest f) ≡ listing_of f
listing-lengths longest none = refl
listing-lengths longest (file k b f) =
    ap (λ (items : List Item). (k, kind.File) ∷ items) (listing-lengths longest f)
listing-lengths longest (other k f) =
    ap (λ (items : List Item). (k, kind.Other) ∷ items) (listing-lengths longest f)
listing-lengths longest (dir k d f) =
    ap (λ (items : List Item). (k, kind.Dir) ∷ items) (listing-lengths longest f)

-- what comes before the first still does
before-lengths : (longest : ℕ) (n : List ℕ) (f : Forest)
    → comes_before n (lengths_of longest f) ≡ comes_before n f
before-lengths longest n none = refl
before-lengths longest n (file k b f) = refl
before-lengths longest n (other k f) = refl
before-lengths longest n (dir k d f) = refl

-- the names rise still
pub proper-lengths : (longest : ℕ) (f : Forest)
    → is_proper f ≡ true → is_proper (lengths_of longest f) ≡ true
proper-lengths longest none proper = refl
proper-lengths longest (file k b f) proper =
    let p = proper_file k b f proper in
    and_from _ _ p.0
    (and_from _ _ (before-lengths longest k f ∙ p.1) (proper-lengths longest f p.2))
proper-lengths longest (other k f) proper =
    let p = proper_other k f proper in
    and_from _ _ p.0
    (and_from _ _ (before-lengths longest k f ∙ p.1) (proper-lengths longest f p.2))
proper-lengths longest (dir k d f) proper =
    let p = proper_dir k d f proper in
    and_from _ _ p.0
    (and_from _ _ (before-lengths longest k f ∙ p.1)
    (and_from _ _ (proper-lengths longest d p.3) (proper-lengths longest f p.2)))
