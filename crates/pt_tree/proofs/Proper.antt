-- Changes that keep a tree proper: names rise in each directory.
use Rattle.std.proofs.Common.{◌≡◌, ℕ, List, [], ◌∷◌, true, false, refl, sym, ◌∙◌, ap, inl, inr}
use Rattle.std.specs.Prelude.{Bool, cond, Option, None, Some}
use Rattle.std.specs.Option.{option_and_then}
use Rattle.std.specs.Str.{bytes_eq}
use Rattle.std.proofs.lemmas.Bool.{cases_Bool, and_from, cond-true, cond-false}
use Rattle.pt_tree.specs.Listing.{is_before}
use Rattle.pt_tree.specs.Name.{is_name}
use Rattle.pt_tree.specs.Path.{Path}
use Rattle.pt_tree.specs.Forest.{
  Forest,
  none,
  file,
  other,
  dir,
  Node,
  File,
  Dir,
  Other,
  find,
  node_at,
  as_dir,
  dir_at,
  comes_before,
  is_proper,
  first_name,
  first_node,
  first_alone,
  in_front,
  inserted,
  removed,
  rewritten,
  changed,
  picked,
}
use Rattle.pt_tree.specs.ProperParts.{cond_before, cond_proper}
use Rattle.pt_tree.proofs.Names.{same_name, before_other}
use Rattle.pt_tree.proofs.Finding.{comes_before-trans, proper_file, proper_other, proper_dir, find_absent, not_first}

file_from : (n b : List ℕ) (f : Forest) → is_name n ≡ true → comes_before n f ≡ true → is_proper f ≡ true → is_proper (file n b f) ≡ true
file_from n b f name before rest = and_from _ _ name (and_from _ _ before rest)

other_from : (n : List ℕ) (f : Forest) → is_name n ≡ true → comes_before n f ≡ true → is_proper f ≡ true → is_proper (other n f) ≡ true
other_from n f name before rest = and_from _ _ name (and_from _ _ before rest)

dir_from : (n : List ℕ) (d f : Forest) → is_name n ≡ true → comes_before n f ≡ true → is_proper f ≡ true → is_proper d ≡ true → is_proper (dir n d f) ≡ true
dir_from n d f name before rest inside = and_from _ _ name (and_from _ _ before (and_from _ _ inside rest))

-- what lies behind the first entry has another name
pub behind : (k : List ℕ) (f : Forest) (n : List ℕ) (path : Path) (x : Node) → comes_before k f ≡ true → is_proper f ≡ true
    → option_and_then (λ node. node_at node path) (find f n) ≡ Some x → bytes_eq k n ≡ false
behind k f n path x before proper is = elim (cases_Bool (bytes_eq k n)) [
  | inl same ↦
      let none_there : find f n ≡ None = ap (find f) (sym (same_name k n same)) ∙ find_absent k f before proper in
      let nothing : Some x ≡ None = sym is ∙ ap (option_and_then (λ node. node_at node path)) none_there in
      absurd (cc)
  | inr apart ↦ apart
]

-- a directory is found at a node
pub dir_node : (f : Forest) (n : List ℕ) (path : Path) (d : Forest) → dir_at f (n ∷ path) ≡ Some d
    → option_and_then (λ node. node_at node path) (find f n) ≡ Some (Dir d)
dir_node f n path d h = by (option_and_then (λ node. node_at node path) (find f n)) h
  where
    by : (o : Option Node) → option_and_then as_dir o ≡ Some d → o ≡ Some (Dir d)
    by None h = absurd (cc)
    by (Some (File b)) h = absurd (cc)
    by (Some (Dir e)) h = let same : e ≡ d = cc in ap (λ (c : Forest). Some (Dir c)) same
    by (Some Other) h = absurd (cc)

comes_before-changed : (k : List ℕ) (g : Forest → Forest) (f : Forest) (n : List ℕ) (path : Path) → comes_before k (changed g f (n ∷ path)) ≡ comes_before k f
comes_before-changed k g none n path = refl
comes_before-changed k g (file m b f) n path = refl
comes_before-changed k g (other m f) n path = refl
comes_before-changed k g (dir m d f) n path = by (bytes_eq m n)
  where
    by : (t : Bool) → comes_before k (cond t (dir m (changed g d path) f) (dir m d (changed g f (n ∷ path)))) ≡ is_before k m
    by true = refl
    by false = refl

-- the directory at a path, if there is one, stays proper
abbrev pub Keeps : (Forest → Forest) → Forest → Path → Type 0
Keeps g f path = (d : Forest) → dir_at f path ≡ Some d → is_proper d ≡ true → is_proper (g d) ≡ true

pub proper-changed : (g : Forest → Forest) (f : Forest) (path : Path) → Keeps g f path → is_proper f ≡ true → is_proper (changed g f path) ≡ true
proper-changed g f [] keeps proper = keeps f refl proper
proper-changed g none (n ∷ path) keeps proper = refl
proper-changed g (file m b f) (n ∷ path) keeps proper =
    let p = proper_file m b f proper in
    let rest = proper-changed g f (n ∷ path) (λ d is. keeps d (ap (λ o. option_and_then as_dir (option_and_then (λ node. node_at node path) o))
    (cond-false _ _ _ (behind m f n path (Dir d) p.1 p.2 (dir_node f n path d is))) ∙ is)) p.2 in
    file_from m b (changed g f (n ∷ path)) p.0 (comes_before-changed m g f n path ∙ p.1) rest
proper-changed g (other m f) (n ∷ path) keeps proper =
    let p = proper_other m f proper in
    let rest = proper-changed g f (n ∷ path) (λ d is. keeps d (ap (λ o. option_and_then as_dir (option_and_then (λ node. node_at node path) o))
    (cond-false _ _ _ (behind m f n path (Dir d) p.1 p.2 (dir_node f n path d is))) ∙ is)) p.2 in
    other_from m (changed g f (n ∷ path)) p.0 (comes_before-changed m g f n path ∙ p.1) rest
proper-changed g (dir m e f) (n ∷ path) keeps proper =
    let p = proper_dir m e f proper in
    let rest = proper-changed g f (n ∷ path) (λ d is. keeps d (ap (λ o. option_and_then as_dir (option_and_then (λ node. node_at node path) o))
    (cond-false _ _ _ (behind m f n path (Dir d) p.1 p.2 (dir_node f n path d is))) ∙ is)) p.2 in
    let later = dir_from m e (changed g f (n ∷ path)) p.0 (comes_before-changed m g f n path ∙ p.1) rest p.3 in
    by (λ same. dir_from m (changed g e path) f p.0 p.1 p.2 (proper-changed g e path
    (λ d is. keeps d (ap (λ o. option_and_then as_dir (option_and_then (λ node. node_at node path) o)) (cond-true _ _ _ same) ∙ is)) p.3)) later
    (bytes_eq m n) refl
  where
    by : (bytes_eq m n ≡ true → is_proper (dir m (changed g e path) f) ≡ true) → is_proper (dir m e (changed g f (n ∷ path))) ≡ true → (t : Bool)
        → bytes_eq m n ≡ t → is_proper (cond t (dir m (changed g e path) f) (dir m e (changed g f (n ∷ path)))) ≡ true
    by here later true same = here same
    by here later false apart = later

-- ---- an insertion

comes_before-in_front : (k : List ℕ) (leaf f : Forest) (x : Node) → first_node leaf ≡ Some x → comes_before k (in_front leaf f) ≡ is_before k (first_name leaf)
comes_before-in_front k none f x is = absurd (cc)
comes_before-in_front k (file n b g) f x is = refl
comes_before-in_front k (other n g) f x is = refl
comes_before-in_front k (dir n d g) f x is = refl

comes_before-inserted : (k : List ℕ) (leaf f : Forest) (x : Node) → first_node leaf ≡ Some x → comes_before k f ≡ true → is_before k (first_name leaf) ≡ true
    → comes_before k (inserted leaf f) ≡ true
comes_before-inserted k leaf none x is others before = comes_before-in_front k leaf none x is ∙ before
comes_before-inserted k leaf (file m b f) x is others before = by (is_before m (first_name leaf))
  where
    by : (t : Bool) → comes_before k (cond t (file m b (inserted leaf f)) (in_front leaf (file m b f))) ≡ true
    by true = others
    by false = comes_before-in_front k leaf (file m b f) x is ∙ before
comes_before-inserted k leaf (other m f) x is others before = by (is_before m (first_name leaf))
  where
    by : (t : Bool) → comes_before k (cond t (other m (inserted leaf f)) (in_front leaf (other m f))) ≡ true
    by true = others
    by false = comes_before-in_front k leaf (other m f) x is ∙ before
comes_before-inserted k leaf (dir m d f) x is others before = by (is_before m (first_name leaf))
  where
    by : (t : Bool) → comes_before k (cond t (dir m d (inserted leaf f)) (in_front leaf (dir m d f))) ≡ true
    by true = others
    by false = comes_before-in_front k leaf (dir m d f) x is ∙ before

proper-in_front : (leaf f : Forest) → is_proper (first_alone leaf) ≡ true → comes_before (first_name leaf) f ≡ true → is_proper f ≡ true
    → is_proper (in_front leaf f) ≡ true
proper-in_front none f alone before proper = proper
proper-in_front (file n b g) f alone before proper = file_from n b f (proper_file n b none alone).0 before proper
proper-in_front (other n g) f alone before proper = other_from n f (proper_other n none alone).0 before proper
proper-in_front (dir n d g) f alone before proper = let p = proper_dir n d none alone in dir_from n d f p.0 before proper p.3

by_place : (t : Bool) (k n : List ℕ) (here there : Forest) → is_before k n ≡ t → (is_before k n ≡ true → is_proper here ≡ true)
    → (is_before k n ≡ false → is_proper there ≡ true) → is_proper (cond t here there) ≡ true
by_place true k n here there is first later = first is
by_place false k n here there is first later = later is

pub proper-inserted : (leaf f : Forest) (x : Node) → first_node leaf ≡ Some x → is_proper (first_alone leaf) ≡ true → find f (first_name leaf) ≡ None
    → is_proper f ≡ true → is_proper (inserted leaf f) ≡ true
proper-inserted leaf none x is alone absent proper = proper-in_front leaf none alone refl refl
proper-inserted leaf (file k b f) x is alone absent proper =
    let p = proper_file k b f proper in
    let q = not_first _ _ _ absent in
    let rest = proper-inserted leaf f x is alone q.1 p.2 in
    by_place (is_before k (first_name leaf)) k (first_name leaf) (file k b (inserted leaf f)) (in_front leaf (file k b f)) refl
    (λ before. file_from k b (inserted leaf f) p.0 (comes_before-inserted k leaf f x is p.1 before) rest)
    (λ not_before. proper-in_front leaf (file k b f) alone (before_other k (first_name leaf) not_before q.0) proper)
proper-inserted leaf (other k f) x is alone absent proper =
    let p = proper_other k f proper in
    let q = not_first _ _ _ absent in
    let rest = proper-inserted leaf f x is alone q.1 p.2 in
    by_place (is_before k (first_name leaf)) k (first_name leaf) (other k (inserted leaf f)) (in_front leaf (other k f)) refl
    (λ before. other_from k (inserted leaf f) p.0 (comes_before-inserted k leaf f x is p.1 before) rest)
    (λ not_before. proper-in_front leaf (other k f) alone (before_other k (first_name leaf) not_before q.0) proper)
proper-inserted leaf (dir k d f) x is alone absent proper =
    let p = proper_dir k d f proper in
    let q = not_first _ _ _ absent in
    let rest = proper-inserted leaf f x is alone q.1 p.2 in
    by_place (is_before k (first_name leaf)) k (first_name leaf) (dir k d (inserted leaf f)) (in_front leaf (dir k d f)) refl
    (λ before. dir_from k d (inserted leaf f) p.0 (comes_before-inserted k leaf f x is p.1 before) rest p.3)
    (λ not_before. proper-in_front leaf (dir k d f) alone (before_other k (first_name leaf) not_before q.0) proper)

-- ---- a removal

comes_before-removed : (k n : List ℕ) (f : Forest) → is_proper f ≡ true → comes_before k f ≡ true → comes_before k (removed n f) ≡ true
comes_before-removed k n none proper before = refl
comes_before-removed k n (file m b f) proper before = cond_before k (bytes_eq m n) f (file m b (removed n f))
    (comes_before-trans k m f before (proper_file m b f proper).1) before
comes_before-removed k n (other m f) proper before = cond_before k (bytes_eq m n) f (other m (removed n f))
    (comes_before-trans k m f before (proper_other m f proper).1) before
comes_before-removed k n (dir m d f) proper before = cond_before k (bytes_eq m n) f (dir m d (removed n f))
    (comes_before-trans k m f before (proper_dir m d f proper).1) before

pub proper-removed : (n : List ℕ) (f : Forest) → is_proper f ≡ true → is_proper (removed n f) ≡ true
proper-removed n none proper = refl
proper-removed n (file m b f) proper =
    let p = proper_file m b f proper in
    cond_proper (bytes_eq m n) f (file m b (removed n f)) p.2 (file_from m b (removed n f) p.0 (comes_before-removed m n f p.2 p.1) (proper-removed n f p.2))
proper-removed n (other m f) proper =
    let p = proper_other m f proper in
    cond_proper (bytes_eq m n) f (other m (removed n f)) p.2 (other_from m (removed n f) p.0 (comes_before-removed m n f p.2 p.1) (proper-removed n f p.2))
proper-removed n (dir m d f) proper =
    let p = proper_dir m d f proper in
    cond_proper (bytes_eq m n) f (dir m d (removed n f)) p.2 (dir_from m d (removed n f) p.0 (comes_before-removed m n f p.2 p.1) (proper-removed n f p.2) p.3)

-- what was taken out is proper by itself
pub proper-picked : (n : List ℕ) (f : Forest) → is_proper f ≡ true → is_proper (picked n f) ≡ true
proper-picked n none proper = refl
proper-picked n (file m b f) proper =
    let p = proper_file m b f proper in
    cond_proper (bytes_eq m n) (file m b none) (picked n f) (file_from m b none p.0 refl refl) (proper-picked n f p.2)
proper-picked n (other m f) proper =
    let p = proper_other m f proper in
    cond_proper (bytes_eq m n) (other m none) (picked n f) (other_from m none p.0 refl refl) (proper-picked n f p.2)
proper-picked n (dir m d f) proper =
    let p = proper_dir m d f proper in
    cond_proper (bytes_eq m n) (dir m d none) (picked n f) (dir_from m d none p.0 refl refl p.3) (proper-picked n f p.2)

-- ---- an edit

comes_before-rewritten : (k : List ℕ) (g : List ℕ → List ℕ) (n : List ℕ) (f : Forest) → comes_before k f ≡ true → comes_before k (rewritten g n f) ≡ true
comes_before-rewritten k g n none before = refl
comes_before-rewritten k g n (file m b f) before = cond_before k (bytes_eq m n) (file m (g b) f) (file m b (rewritten g n f)) before before
comes_before-rewritten k g n (other m f) before = cond_before k (bytes_eq m n) (other m f) (other m (rewritten g n f)) before before
comes_before-rewritten k g n (dir m d f) before = cond_before k (bytes_eq m n) (dir m d f) (dir m d (rewritten g n f)) before before

pub proper-rewritten : (g : List ℕ → List ℕ) (n : List ℕ) (f : Forest) → is_proper f ≡ true → is_proper (rewritten g n f) ≡ true
proper-rewritten g n none proper = refl
proper-rewritten g n (file m b f) proper =
    let p = proper_file m b f proper in
    cond_proper (bytes_eq m n) (file m (g b) f) (file m b (rewritten g n f)) (file_from m (g b) f p.0 p.1 p.2)
    (file_from m b (rewritten g n f) p.0 (comes_before-rewritten m g n f p.1) (proper-rewritten g n f p.2))
proper-rewritten g n (other m f) proper =
    let p = proper_other m f proper in
    cond_proper (bytes_eq m n) (other m f) (other m (rewritten g n f)) proper
    (other_from m (rewritten g n f) p.0 (comes_before-rewritten m g n f p.1) (proper-rewritten g n f p.2))
proper-rewritten g n (dir m d f) proper =
    let p = proper_dir m d f proper in
    cond_proper (bytes_eq m n) (dir m d f) (dir m d (rewritten g n f)) proper
    (dir_from m d (rewritten g n f) p.0 (comes_before-rewritten m g n f p.1) (proper-rewritten g n f p.2) p.3)

abbrev pub proper_node : Node → Bool
proper_node (File b) = true
proper_node Other = true
proper_node (Dir f) = is_proper f

by_name : (t : Bool) (x y : Node) (o : Option Node) → cond t (Some x) o ≡ Some y → proper_node x ≡ true → (o ≡ Some y → proper_node y ≡ true)
    → proper_node y ≡ true
by_name true x y o is proper later = let same : x ≡ y = cc in ap proper_node (sym same) ∙ proper
by_name false x y o is proper later = later is

proper_found : (f : Forest) (n : List ℕ) (y : Node) → is_proper f ≡ true → find f n ≡ Some y → proper_node y ≡ true
proper_found none n y proper is = absurd (cc)
proper_found (file m b f) n y proper is = by_name (bytes_eq m n) (File b) y (find f n) is refl (proper_found f n y (proper_file m b f proper).2)
proper_found (other m f) n y proper is = by_name (bytes_eq m n) Other y (find f n) is refl (proper_found f n y (proper_other m f proper).2)
proper_found (dir m d f) n y proper is = let p = proper_dir m d f proper in by_name (bytes_eq m n) (Dir d) y (find f n) is p.3 (proper_found f n y p.2)

-- what stands in a proper tree is proper
pub proper_at : (x : Node) (path : Path) (y : Node) → proper_node x ≡ true → node_at x path ≡ Some y → proper_node y ≡ true
proper_at x [] y proper is = let same : x ≡ y = cc in ap proper_node (sym same) ∙ proper
proper_at (File b) (n ∷ path) y proper is = absurd (cc)
proper_at Other (n ∷ path) y proper is = absurd (cc)
proper_at (Dir f) (n ∷ path) y proper is = by (λ z p h. proper_at z path y p h) (find f n) refl is
  where
    by : ((z : Node) → proper_node z ≡ true → node_at z path ≡ Some y → proper_node y ≡ true) → (o : Option Node) → find f n ≡ o
        → option_and_then (λ node. node_at node path) o ≡ Some y → proper_node y ≡ true
    by below None at is = absurd (cc)
    by below (Some z) at is = below z (proper_found f n z proper at) is
