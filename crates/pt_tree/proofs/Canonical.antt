-- Proper trees that show the same are the same.
use Rattle.std.proofs.Common.{◌≡◌, ℕ, List, [], ◌∷◌, true, false, refl, sym, ◌∙◌, ap, inl, inr}
use Rattle.std.specs.Prelude.{cond, Option, None, Some}
use Rattle.std.specs.Option.{option_map, option_and_then}
use Rattle.std.specs.Str.{bytes_eq}
use Rattle.std.proofs.lemmas.Bool.{false≢true, cases_Bool, cond-true, cond-false, and_from, and_parts}
use Rattle.pt_tree.specs.Listing.{is_before}
use Rattle.pt_tree.specs.Path.{Path}
use Rattle.pt_tree.specs.Forest.{Forest, none, file, other, dir, Node, File, Dir, Other, find, node_at, comes_before, is_proper, same_forest}
use Rattle.pt_tree.specs.Tree.{Entry, Bytes, Folder, Special, entry_of, tree_of}
use Rattle.pt_tree.proofs.Names.{same_name, name_itself, bytes_eq-sym, before_differs, before_other}
use Rattle.pt_tree.proofs.Finding.{proper_file, proper_other, proper_dir, find_absent, comes_before-trans}
use Rattle.pt_tree.specs.TreeLaws.{entry_below}

-- F begins with an entry n that is x, and goes on with f
record Begins (F : Forest) (n : List ℕ) (x : Node) (f : Forest) : Type 0 where
  first : (k : List ℕ) → find F k ≡ cond (bytes_eq n k) (Some x) (find f k)
  before : comes_before n f ≡ true
  proper : is_proper f ≡ true

abbrev below_of : Path → Option Node → Option Entry
below_of q o = option_map entry_of (option_and_then (λ node. node_at node q) o)

at_first : (F : Forest) (n : List ℕ) (x : Node) (f : Forest) (q : Path) → Begins F n x f → tree_of F (n ∷ q) ≡ entry_below x q
at_first F n x f q b = ap (below_of q) (b.first n ∙ cond-true _ _ _ (name_itself n))

-- what comes before the first entry isn't there
not_there : (F : Forest) (n : List ℕ) (x : Node) (f : Forest) (k : List ℕ) → Begins F n x f → is_before k n ≡ true → tree_of F (k ∷ []) ≡ None
not_there F n x f k b before =
    let apart = bytes_eq-sym k n false (before_differs k n before) in
    ap (below_of []) (b.first k ∙ cond-false _ _ _ apart ∙ find_absent k f (comes_before-trans k n f before b.before) b.proper)

some_entry : (x : Node) → entry_below x [] ≡ None → ⊥
some_entry x h = cc

same_first : (F G : Forest) (n m : List ℕ) (x y : Node) (f g : Forest) → Begins F n x f → Begins G m y g → ((q : Path) → tree_of F q ≡ tree_of G q) → n ≡ m
same_first F G n m x y f g b c same = elim (cases_Bool (is_before n m)) [
  | inl first ↦ absurd (some_entry x (sym (at_first F n x f [] b) ∙ same (n ∷ []) ∙ not_there G m y g n c first))
  | inr not_first ↦ elim (cases_Bool (bytes_eq n m)) [
    | inl is ↦ same_name n m is
    | inr apart ↦ absurd (some_entry y (sym (at_first G m y g [] c) ∙ sym (same (m ∷ [])) ∙ not_there F n x f m b (before_other n m not_first apart)))
  ]
]

-- the first entries hold the same
same_held : (F G : Forest) (n m : List ℕ) (x y : Node) (f g : Forest) → Begins F n x f → Begins G m y g → ((q : Path) → tree_of F q ≡ tree_of G q) → (q : Path)
    → entry_below x q ≡ entry_below y q
same_held F G n m x y f g b c same q =
    sym (at_first F n x f q b) ∙ same (n ∷ q) ∙ ap (λ (l : List ℕ). tree_of G (l ∷ q)) (same_first F G n m x y f g b c same) ∙ at_first G m y g q c

-- and what follows them is the same
same_after : (F G : Forest) (n m : List ℕ) (x y : Node) (f g : Forest) → Begins F n x f → Begins G m y g → ((q : Path) → tree_of F q ≡ tree_of G q) → (q : Path)
    → tree_of f q ≡ tree_of g q
same_after F G n m x y f g b c same [] = refl
same_after F G n m x y f g b c same (k ∷ q) = elim (cases_Bool (bytes_eq n k)) [
  | inl is ↦
      let k_is_n : n ≡ k = same_name n k is in
      let k_is_m : m ≡ k = sym (same_first F G n m x y f g b c same) ∙ k_is_n in
      ap (below_of q) (ap (find f) (sym k_is_n) ∙ find_absent n f b.before b.proper)
      ∙ sym (ap (below_of q) (ap (find g) (sym k_is_m) ∙ find_absent m g c.before c.proper))
  | inr apart ↦
      let apart_m = ap (λ (l : List ℕ). bytes_eq l k) (sym (same_first F G n m x y f g b c same)) ∙ apart in
      sym (ap (below_of q) (b.first k ∙ cond-false _ _ _ apart)) ∙ same (k ∷ q) ∙ ap (below_of q) (c.first k ∙ cond-false _ _ _ apart_m)
]

begins_file : (n bytes : List ℕ) (f : Forest) → is_proper (file n bytes f) ≡ true → Begins (file n bytes f) n (File bytes) f
begins_file n bytes f proper = let p = proper_file n bytes f proper in record { first = λ k. refl; before = p.1; proper = p.2 }

begins_other : (n : List ℕ) (f : Forest) → is_proper (other n f) ≡ true → Begins (other n f) n Other f
begins_other n f proper = let p = proper_other n f proper in record { first = λ k. refl; before = p.1; proper = p.2 }

begins_dir : (n : List ℕ) (d f : Forest) → is_proper (dir n d f) ≡ true → Begins (dir n d f) n (Dir d) f
begins_dir n d f proper = let p = proper_dir n d f proper in record { first = λ k. refl; before = p.1; proper = p.2 }

nothing_else : (G : Forest) (m : List ℕ) (y : Node) (g : Forest) → Begins G m y g → ((q : Path) → tree_of none q ≡ tree_of G q) → ⊥
nothing_else G m y g c same = some_entry y (sym (at_first G m y g [] c) ∙ sym (same (m ∷ [])))

pub canonical : (f g : Forest) → is_proper f ≡ true → is_proper g ≡ true → ((q : Path) → tree_of f q ≡ tree_of g q) → f ≡ g
canonical none none p r same = refl
canonical none (file m b g) p r same = absurd (nothing_else (file m b g) m (File b) g (begins_file m b g r) same)
canonical none (other m g) p r same = absurd (nothing_else (other m g) m Other g (begins_other m g r) same)
canonical none (dir m e g) p r same = absurd (nothing_else (dir m e g) m (Dir e) g (begins_dir m e g r) same)
canonical (file n a f) none p r same = absurd (nothing_else (file n a f) n (File a) f (begins_file n a f p) (λ q. sym (same q)))
canonical (other n f) none p r same = absurd (nothing_else (other n f) n Other f (begins_other n f p) (λ q. sym (same q)))
canonical (dir n d f) none p r same = absurd (nothing_else (dir n d f) n (Dir d) f (begins_dir n d f p) (λ q. sym (same q)))
canonical (file n a f) (file m b g) p r same =
    let x = begins_file n a f p in
    let y = begins_file m b g r in
    let held : Some (Bytes a) ≡ Some (Bytes b) = same_held _ _ n m (File a) (File b) f g x y same [] in
    let bytes : a ≡ b = cc in
    let name = same_first _ _ n m (File a) (File b) f g x y same in
    let rest = canonical f g x.proper y.proper (same_after _ _ n m (File a) (File b) f g x y same) in
    λ i. file (name i) (bytes i) (rest i)
canonical (other n f) (other m g) p r same =
    let x = begins_other n f p in
    let y = begins_other m g r in
    let name = same_first _ _ n m Other Other f g x y same in
    let rest = canonical f g x.proper y.proper (same_after _ _ n m Other Other f g x y same) in
    λ i. other (name i) (rest i)
canonical (dir n d f) (dir m e g) p r same =
    let x = begins_dir n d f p in
    let y = begins_dir m e g r in
    let name = same_first _ _ n m (Dir d) (Dir e) f g x y same in
    let inside = canonical d e (proper_dir n d f p).3 (proper_dir m e g r).3 (same_held _ _ n m (Dir d) (Dir e) f g x y same) in
    let rest = canonical f g x.proper y.proper (same_after _ _ n m (Dir d) (Dir e) f g x y same) in
    λ i. dir (name i) (inside i) (rest i)
canonical (file n a f) (other m g) p r same = let held : Some (Bytes a)
    ≡ Some Special = same_held _ _ n m (File a) Other f g (begins_file n a f p) (begins_other m g r) same [] in absurd (cc)
canonical (file n a f) (dir m e g) p r same = let held : Some (Bytes a)
    ≡ Some Folder = same_held _ _ n m (File a) (Dir e) f g (begins_file n a f p) (begins_dir m e g r) same [] in absurd (cc)
canonical (other n f) (file m b g) p r same = let held : Some Special ≡ Some (Bytes b) = same_held _ _ n m Other (File b) f g (begins_other n f p)
    (begins_file m b g r) same [] in absurd (cc)
canonical (other n f) (dir m e g) p r same = let held : Some Special ≡ Some Folder = same_held _ _ n m Other (Dir e) f g (begins_other n f p)
    (begins_dir m e g r) same [] in absurd (cc)
canonical (dir n d f) (file m b g) p r same = let held : Some Folder ≡ Some (Bytes b) = same_held _ _ n m (Dir d) (File b) f g (begins_dir n d f p)
    (begins_file m b g r) same [] in absurd (cc)
canonical (dir n d f) (other m g) p r same = let held : Some Folder ≡ Some Special = same_held _ _ n m (Dir d) Other f g (begins_dir n d f p)
    (begins_other m g r) same [] in absurd (cc)

-- the test finds it
pub same_forest-itself : (f : Forest) → same_forest f f ≡ true
same_forest-itself none = refl
same_forest-itself (file n b f) = and_from _ _ (name_itself n) (and_from _ _ (name_itself b) (same_forest-itself f))
same_forest-itself (other n f) = and_from _ _ (name_itself n) (same_forest-itself f)
same_forest-itself (dir n d f) = and_from _ _ (name_itself n) (and_from _ _ (same_forest-itself d) (same_forest-itself f))

pub same_from_test : (f g : Forest) → same_forest f g ≡ true → f ≡ g
same_from_test none none h = refl
same_from_test none (file m b g) h = absurd (false≢true h)
same_from_test none (other m g) h = absurd (false≢true h)
same_from_test none (dir m e g) h = absurd (false≢true h)
same_from_test (file n a f) none h = absurd (false≢true h)
same_from_test (file n a f) (file m b g) h = let p = and_parts _ _ h in let q = and_parts _ _ p.1 in λ i. file (same_name n m p.0 i) (same_name a b q.0 i)
    (same_from_test f g q.1 i)
same_from_test (file n a f) (other m g) h = absurd (false≢true h)
same_from_test (file n a f) (dir m e g) h = absurd (false≢true h)
same_from_test (other n f) none h = absurd (false≢true h)
same_from_test (other n f) (file m b g) h = absurd (false≢true h)
same_from_test (other n f) (other m g) h = let p = and_parts _ _ h in λ i. other (same_name n m p.0 i) (same_from_test f g p.1 i)
same_from_test (other n f) (dir m e g) h = absurd (false≢true h)
same_from_test (dir n d f) none h = absurd (false≢true h)
same_from_test (dir n d f) (file m b g) h = absurd (false≢true h)
same_from_test (dir n d f) (other m g) h = absurd (false≢true h)
same_from_test (dir n d f) (dir m e g) h = let p = and_parts _ _ h in let q = and_parts _ _ p.1 in λ i. dir (same_name n m p.0 i) (same_from_test d e q.0 i)
    (same_from_test f g q.1 i)
