-- What is found in a tree without the entries of some names is found in the tree.
use Rattle.std.proofs.Common.{◌≡◌, ℕ, List, [], ◌∷◌, true, false, refl, sym, ◌∙◌, ap, inl, inr}
use Rattle.std.specs.Prelude.{Bool, ◌||◌, cond, not, Option, None, Some}
use Rattle.std.specs.Option.{option_map, option_and_then}
use Rattle.std.specs.Str.{bytes_eq}
use Rattle.std.proofs.lemmas.Bool.{cases_Bool, cond-true, cond-false}
use Rattle.pt_tree.specs.declared.kind.Kind.TheVariants as kind
use Rattle.pt_tree.specs.Forest.{
  Forest,
  none,
  file,
  other,
  dir,
  Node,
  File,
  Dir,
  Other,
  as_dir,
  as_file,
  dir_at,
  file_at,
  find,
  kind_at,
  kind_of,
  listing_of,
  node_at,
}
use Rattle.pt_tree.specs.Listing.{Item, is_among, left_in}
use Rattle.pt_tree.specs.Path.{Path}
use Rattle.pt_tree.proofs.Names.{same_name}
use Rattle.pt_tree.specs.Ignoring.{is_past, without}

-- what stands at an entry that is left
abbrev pub node_without : List (List ℕ) → Node → Node
node_without names (File bytes) = File bytes
node_without names (Dir inside) = Dir (without names inside)
node_without names Other = Other

abbrev entry_without : List (List ℕ) → Option Node → Option Node
entry_without names found = option_map (node_without names) found

-- a step at an entry k that holds y, of which the rest is f, and g without the names
step : (names : List (List ℕ)) (k n : List ℕ) (y : Node) (f g here : Forest)
    → find g n ≡ cond (is_among names n) None (entry_without names (find f n))
    → find here n ≡ cond (bytes_eq k n) (Some (node_without names y)) (find g n)
    → find (cond (is_among names k) g here) n ≡ cond (is_among names n) None (entry_without names (cond (bytes_eq k n) (Some y) (find f n)))
step names k n y f g here later now = elim (cases_Bool (bytes_eq k n)) [
  | inl same ↦
      let among : is_among names k ≡ is_among names n = ap (is_among names) (same_name k n same) in
      rw (cond-true (bytes_eq k n) (Some y) (find f n) same)
      (by_among (is_among names k) (is_among names n) among (later) (now ∙ cond-true (bytes_eq k n) _ (find g n) same))
  | inr apart ↦
      rw (cond-false (bytes_eq k n) (Some y) (find f n) apart)
      (past (is_among names k) (now ∙ cond-false (bytes_eq k n) _ (find g n) apart))
]
  where
    by_among : (a b : Bool) → a ≡ b → find g n ≡ cond b None (entry_without names (find f n)) → find here n ≡ Some (node_without names y)
        → find (cond a g here) n ≡ cond b None (Some (node_without names y))
    by_among true true same gone kept = gone
    by_among true false same gone kept = absurd (cc)
    by_among false true same gone kept = absurd (cc)
    by_among false false same gone kept = kept

    past : (a : Bool) → find here n ≡ find g n → find (cond a g here) n ≡ cond (is_among names n) None (entry_without names (find f n))
    past true kept = later
    past false kept = kept ∙ later

-- an entry is found unless it has one of the names
pub find-without : (names : List (List ℕ)) (f : Forest) (n : List ℕ) → find (without names f) n ≡ cond (is_among names n) None (entry_without names (find f n))
find-without names none n = elim (cases_Bool (is_among names n)) [
  | inl among ↦ sym (cond-true (is_among names n) None None among)
  | inr apart ↦ sym (cond-false (is_among names n) None None apart)
]
find-without names (file k b f) n = step names k n (File b) f (without names f) (file k b (without names f)) (find-without names f n) refl
find-without names (other k f) n = step names k n Other f (without names f) (other k (without names f)) (find-without names f n) refl
find-without names (dir k d f) n = step names k n (Dir d) f (without names f) (dir k (without names d) (without names f)) (find-without names f n) refl

-- something stands at a path, and something else is what is left of it
abbrev pub Found : List (List ℕ) → Option Node → Node → Type 0
Found names there left = (x : Node) × (there ≡ Some x) × (left ≡ node_without names x)

-- what stands at a path in what is left stands there
pub node_found : (names : List (List ℕ)) (x : Node) (p : Path) (left : Node) → node_at (node_without names x) p ≡ Some left → Found names (node_at x p) left
node_found names x [] left is = (x, refl, cc)
node_found names (File b) (n ∷ p) left is = absurd (cc)
node_found names Other (n ∷ p) left is = absurd (cc)
node_found names (Dir d) (n ∷ p) left is =
    by (is_among names n) (find d n) (λ x. node_found names x p left)
    (ap (option_and_then (λ node. node_at node p)) (sym (find-without names d n)) ∙ is)
  where
    by : (a : Bool) (found : Option Node) → ((x : Node) → node_at (node_without names x) p ≡ Some left → Found names (node_at x p) left)
        → option_and_then (λ node. node_at node p) (cond a None (entry_without names found)) ≡ Some left
        → Found names (option_and_then (λ node. node_at node p) found) left
    by true found later is = absurd (cc)
    by false None later is = absurd (cc)
    by false (Some x) later is = later x is

pub dir_found : (names : List (List ℕ)) (f : Forest) (p : Path) (left : Forest) → dir_at (without names f) p ≡ Some left
    → (inside : Forest) × (dir_at f p ≡ Some inside) × (left ≡ without names inside)
dir_found names f p left is = by (node_at (Dir (without names f)) p) refl is
  where
    from : (x y : Node) → node_at (Dir f) p ≡ Some y → x ≡ node_without names y → as_dir x ≡ Some left
        → (inside : Forest) × (dir_at f p ≡ Some inside) × (left ≡ without names inside)
    from x (File b) there same is = absurd (cc)
    from x Other there same is = absurd (cc)
    from x (Dir inside) there same is = (inside, ap (option_and_then as_dir) there, cc)

    by : (found : Option Node) → node_at (Dir (without names f)) p ≡ found → option_and_then as_dir found ≡ Some left
        → (inside : Forest) × (dir_at f p ≡ Some inside) × (left ≡ without names inside)
    by None at is = absurd (cc)
    by (Some x) at is = let held = node_found names (Dir f) p x at in from x held.0 held.1 held.2 is

pub file_found : (names : List (List ℕ)) (f : Forest) (p : Path) (bytes : List ℕ) → file_at (without names f) p ≡ Some bytes → file_at f p ≡ Some bytes
file_found names f p bytes is = by (node_at (Dir (without names f)) p) refl is
  where
    from : (x y : Node) → node_at (Dir f) p ≡ Some y → x ≡ node_without names y → as_file x ≡ Some bytes → file_at f p ≡ Some bytes
    from x (Dir inside) there same is = absurd (cc)
    from x Other there same is = absurd (cc)
    from x (File b) there same is = ap (option_and_then as_file) there ∙ cc

    by : (found : Option Node) → node_at (Dir (without names f)) p ≡ found → option_and_then as_file found ≡ Some bytes → file_at f p ≡ Some bytes
    by None at is = absurd (cc)
    by (Some x) at is = let held = node_found names (Dir f) p x at in from x held.0 held.1 held.2 is

-- nothing stands past one of the names, and all else as it is left
node_at-without : (names : List (List ℕ)) (x : Node) (p : Path) → node_at (node_without names x) p
    ≡ cond (is_past names p) None (entry_without names (node_at x p))
node_at-without names x [] = refl
node_at-without names (File b) (n ∷ p) = none_left (is_past names (n ∷ p))
  where
    none_left : (a : Bool) → None ≡ cond a None (entry_without names None)
    none_left true = refl
    none_left false = refl
node_at-without names Other (n ∷ p) = none_left (is_past names (n ∷ p))
  where
    none_left : (a : Bool) → None ≡ cond a None (entry_without names None)
    none_left true = refl
    none_left false = refl
node_at-without names (Dir d) (n ∷ p) =
    ap (option_and_then (λ node. node_at node p)) (find-without names d n)
    ∙ by (is_among names n) (find d n) (λ x. node_at-without names x p)
  where
    none_left : (a : Bool) → None ≡ cond a None (entry_without names None)
    none_left true = refl
    none_left false = refl

    by : (a : Bool) (found : Option Node) → ((x : Node) → node_at (node_without names x) p ≡ cond (is_past names p) None (entry_without names (node_at x p)))
        → option_and_then (λ node. node_at node p) (cond a None (entry_without names found))
        ≡ cond (a || is_past names p) None (entry_without names (option_and_then (λ node. node_at node p) found))
    by true found later = refl
    by false None later = none_left (is_past names p)
    by false (Some x) later = later x

-- so what is seen there is of the same kind
pub kind_at-without : (names : List (List ℕ)) (f : Forest) (p : Path) → kind_at (without names f) p ≡ cond (is_past names p) None (kind_at f p)
kind_at-without names f p = ap (option_map kind_of) (node_at-without names (Dir f) p) ∙ by (is_past names p) (node_at (Dir f) p)
  where
    by : (a : Bool) (found : Option Node) → option_map kind_of (cond a None (entry_without names found)) ≡ cond a None (option_map kind_of found)
    by true found = refl
    by false None = refl
    by false (Some (File b)) = refl
    by false (Some (Dir d)) = refl
    by false (Some Other) = refl

-- a directory lists what is left
pub listing-without : (names : List (List ℕ)) (f : Forest) → listing_of (without names f) ≡ left_in names (listing_of f)
listing-without names none = refl
listing-without names (file k b f) = listed (is_among names k) (listing-without names f)
  where
    listed : (a : Bool) → listing_of (without names f) ≡ left_in names (listing_of f)
        → listing_of (cond a (without names f) (file k b (without names f)))
        ≡ cond (not a) ((k, kind.File) ∷ left_in names (listing_of f)) (left_in names (listing_of f))
    listed true later = later
    listed false later = ap (λ (items : List Item). (k, kind.File) ∷ items) later
listing-without names (other k f) = listed (is_among names k) (listing-without names f)
  where
    listed : (a : Bool) → listing_of (without names f) ≡ left_in names (listing_of f)
        → listing_of (cond a (without names f) (other k (without names f)))
        ≡ cond (not a) ((k, kind.Other) ∷ left_in names (listing_of f)) (left_in names (listing_of f))
    listed true later = later
    listed false later = ap (λ (items : List Item). (k, kind.Other) ∷ items) later
listing-without names (dir k d f) = listed (is_among names k) (listing-without names f)
  where
    listed : (a : Bool) → listing_of (without names f) ≡ left_in names (listing_of f)
        → listing_of (cond a (without names f) (dir k (without names d) (without names f)))
        ≡ cond (not a) ((k, kind.Dir) ∷ left_in names (listing_of f)) (left_in names (listing_of f))
    listed true later = later
    listed false later = ap (λ (items : List Item). (k, kind.Dir) ∷ items) later
