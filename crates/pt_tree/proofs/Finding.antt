-- What is found at a name after a change of one directory.
use Rattle.std.proofs.Common.{◌≡◌, ℕ, List, ◌∷◌, true, false, refl, sym, ◌∙◌, ap, inl, inr}
use Rattle.std.specs.Prelude.{Bool, cond, Option, None, Some}
use Rattle.std.specs.Option.{option_map}
use Rattle.std.specs.Str.{bytes_eq}
use Rattle.std.proofs.lemmas.Bool.{true≢false, false≢true, cases_Bool, cond-true, cond-false}
use Rattle.pt_tree.specs.Listing.{is_before}
use Rattle.pt_tree.specs.Path.{Path}
use Rattle.pt_tree.specs.Forest.{
  Forest,
  none,
  file,
  other,
  dir,
  Node,
  File,
  Dir,
  Other,
  find,
  comes_before,
  is_proper,
  first_name,
  first_node,
  in_front,
  inserted,
  removed,
  rewritten,
  changed,
}
pub use Rattle.pt_tree.specs.ProperParts.{comes_before-trans, proper_file, proper_other, proper_dir}
use Rattle.pt_tree.proofs.Names.{same_name, bytes_eq-sym, differ, before_differs, cond-swap, cond_same}

-- what comes before all of them isn't among them
pub find_absent : (n : List ℕ) (f : Forest) → comes_before n f ≡ true → is_proper f ≡ true → find f n ≡ None
find_absent n none before proper = refl
find_absent n (file k b f) before proper =
    let p = proper_file k b f proper in
    cond-false _ _ _ (bytes_eq-sym n k false (before_differs n k before)) ∙ find_absent n f (comes_before-trans n k f before p.1) p.2
find_absent n (other k f) before proper =
    let p = proper_other k f proper in
    cond-false _ _ _ (bytes_eq-sym n k false (before_differs n k before)) ∙ find_absent n f (comes_before-trans n k f before p.1) p.2
find_absent n (dir k d f) before proper =
    let p = proper_dir k d f proper in
    cond-false _ _ _ (bytes_eq-sym n k false (before_differs n k before)) ∙ find_absent n f (comes_before-trans n k f before p.1) p.2

-- what is found behind the first entry only, isn't the first
pub not_first : {A : Type 0} (t : Bool) (x : A) (o : Option A) → cond t (Some x) o ≡ None → (t ≡ false) × (o ≡ None)
not_first true x o h = absurd (cc)
not_first false x o h = (refl, h)

find-in_front : (leaf f : Forest) (x : Node) (m : List ℕ) → first_node leaf ≡ Some x
    → find (in_front leaf f) m ≡ cond (bytes_eq (first_name leaf) m) (Some x) (find f m)
find-in_front none f x m is = absurd (cc)
find-in_front (file n b g) f x m is = ap (λ o. cond (bytes_eq n m) o (find f m)) is
find-in_front (other n g) f x m is = ap (λ o. cond (bytes_eq n m) o (find f m)) is
find-in_front (dir n d g) f x m is = ap (λ o. cond (bytes_eq n m) o (find f m)) is

-- a step of an insertion behind an entry k that holds y, of which the rest is f with the leaf, or before it
inserted_step : (leaf f : Forest) (k m : List ℕ) (x y : Node) (before : Bool) (here there : Forest) → bytes_eq k (first_name leaf) ≡ false
    → find here m ≡ cond (bytes_eq k m) (Some y) (cond (bytes_eq (first_name leaf) m) (Some x) (find f m))
    → find there m ≡ cond (bytes_eq (first_name leaf) m) (Some x) (cond (bytes_eq k m) (Some y) (find f m))
    → find (cond before here there) m ≡ cond (bytes_eq (first_name leaf) m) (Some x) (cond (bytes_eq k m) (Some y) (find f m))
inserted_step leaf f k m x y true here there apart behind front = behind ∙ cond-swap (bytes_eq k m) (bytes_eq (first_name leaf) m) (Some y) (Some x) (find f m)
    (differ k (first_name leaf) m apart)
inserted_step leaf f k m x y false here there apart behind front = front

pub find-inserted : (leaf f : Forest) (x : Node) (m : List ℕ) → first_node leaf ≡ Some x → find f (first_name leaf) ≡ None
    → find (inserted leaf f) m ≡ cond (bytes_eq (first_name leaf) m) (Some x) (find f m)
find-inserted leaf none x m is absent = find-in_front leaf none x m is
find-inserted leaf (file k b f) x m is absent =
    let p = not_first _ _ _ absent in
    inserted_step leaf f k m x (File b) (is_before k (first_name leaf)) (file k b (inserted leaf f)) (in_front leaf (file k b f)) p.0
    (ap (cond (bytes_eq k m) (Some (File b))) (find-inserted leaf f x m is p.1)) (find-in_front leaf (file k b f) x m is)
find-inserted leaf (other k f) x m is absent =
    let p = not_first _ _ _ absent in
    inserted_step leaf f k m x Other (is_before k (first_name leaf)) (other k (inserted leaf f)) (in_front leaf (other k f)) p.0
    (ap (cond (bytes_eq k m) (Some Other)) (find-inserted leaf f x m is p.1)) (find-in_front leaf (other k f) x m is)
find-inserted leaf (dir k d f) x m is absent =
    let p = not_first _ _ _ absent in
    inserted_step leaf f k m x (Dir d) (is_before k (first_name leaf)) (dir k d (inserted leaf f)) (in_front leaf (dir k d f)) p.0
    (ap (cond (bytes_eq k m) (Some (Dir d))) (find-inserted leaf f x m is p.1)) (find-in_front leaf (dir k d f) x m is)

-- a step of a removal at an entry k that holds y
removed_step : (n k m : List ℕ) (y : Node) (f here : Forest) → find f k ≡ None
    → find here m ≡ cond (bytes_eq k m) (Some y) (cond (bytes_eq n m) None (find f m))
    → find (cond (bytes_eq k n) f here) m ≡ cond (bytes_eq n m) None (cond (bytes_eq k m) (Some y) (find f m))
removed_step n k m y f here behind kept = elim (cases_Bool (bytes_eq k n)) [
  | inl same ↦
      ap (λ g. find g m) (cond-true (bytes_eq k n) f here same)
      ∙ elim (cases_Bool (bytes_eq n m)) [
        | inl at ↦ ap (find f) (sym (same_name k n same ∙ same_name n m at)) ∙ behind ∙ sym (cond-true (bytes_eq n m) None _ at)
        | inr apart ↦ sym (cond-false (bytes_eq n m) None _ apart ∙ cond-false (bytes_eq k m) (Some y) _ (ap (λ l. bytes_eq l m) (same_name k n same) ∙ apart))
      ]
  | inr apart ↦ ap (λ g. find g m) (cond-false (bytes_eq k n) f here apart) ∙ kept
      ∙ cond-swap (bytes_eq k m) (bytes_eq n m) (Some y) None (find f m) (differ k n m apart)
]

pub find-removed : (n : List ℕ) (f : Forest) (m : List ℕ) → is_proper f ≡ true → find (removed n f) m ≡ cond (bytes_eq n m) None (find f m)
find-removed n none m proper = sym (cond_same (bytes_eq n m) None)
find-removed n (file k b f) m proper =
    let p = proper_file k b f proper in
    removed_step n k m (File b) f (file k b (removed n f)) (find_absent k f p.1 p.2) (ap (cond (bytes_eq k m) (Some (File b))) (find-removed n f m p.2))
find-removed n (other k f) m proper =
    let p = proper_other k f proper in
    removed_step n k m Other f (other k (removed n f)) (find_absent k f p.1 p.2) (ap (cond (bytes_eq k m) (Some Other)) (find-removed n f m p.2))
find-removed n (dir k d f) m proper =
    let p = proper_dir k d f proper in
    removed_step n k m (Dir d) f (dir k d (removed n f)) (find_absent k f p.1 p.2) (ap (cond (bytes_eq k m) (Some (Dir d))) (find-removed n f m p.2))

abbrev pub node_edited : (List ℕ → List ℕ) → Node → Node
node_edited g (File bytes) = File (g bytes)
node_edited g (Dir inside) = Dir inside
node_edited g Other = Other

-- a step of an edit at an entry k that holds y, and y' afterwards
edited_step : (g : List ℕ → List ℕ) (n k m : List ℕ) (y : Node) (f here there : Forest)
    → find here m ≡ cond (bytes_eq k m) (Some (node_edited g y)) (find f m)
    → find there m ≡ cond (bytes_eq k m) (Some y) (cond (bytes_eq n m) (option_map (node_edited g) (find f m)) (find f m))
    → find (cond (bytes_eq k n) here there) m ≡ cond (bytes_eq n m) (option_map (node_edited g) (cond (bytes_eq k m) (Some y) (find f m)))
    (cond (bytes_eq k m) (Some y) (find f m))
edited_step g n k m y f here there first later = elim (cases_Bool (bytes_eq k n)) [
  | inl same ↦
      ap (λ h. find h m) (cond-true (bytes_eq k n) here there same) ∙ first
      ∙ by (bytes_eq k m) (bytes_eq n m) (ap (λ l. bytes_eq l m) (same_name k n same))
  | inr apart ↦
      ap (λ h. find h m) (cond-false (bytes_eq k n) here there apart) ∙ later ∙ others (bytes_eq k m) (bytes_eq n m) (differ k n m apart)
]
  where
    by : (km nm : Bool) → km ≡ nm → cond km (Some (node_edited g y)) (find f m)
        ≡ cond nm (option_map (node_edited g) (cond km (Some y) (find f m))) (cond km (Some y) (find f m))
    by true true e = refl
    by true false e = absurd (true≢false e)
    by false true e = absurd (false≢true e)
    by false false e = refl

    others : (km nm : Bool) → (km ≡ true → nm ≡ true → ⊥) → cond km (Some y) (cond nm (option_map (node_edited g) (find f m)) (find f m))
        ≡ cond nm (option_map (node_edited g) (cond km (Some y) (find f m))) (cond km (Some y) (find f m))
    others true true no_both = absurd (no_both refl refl)
    others true false no_both = refl
    others false nm no_both = refl

pub find-rewritten : (g : List ℕ → List ℕ) (n : List ℕ) (f : Forest) (m : List ℕ)
    → find (rewritten g n f) m ≡ cond (bytes_eq n m) (option_map (node_edited g) (find f m)) (find f m)
find-rewritten g n none m = sym (cond_same (bytes_eq n m) None)
find-rewritten g n (file k b f) m = edited_step g n k m (File b) f (file k (g b) f) (file k b (rewritten g n f)) refl
    (ap (cond (bytes_eq k m) (Some (File b))) (find-rewritten g n f m))
find-rewritten g n (other k f) m = edited_step g n k m Other f (other k f) (other k (rewritten g n f)) refl
    (ap (cond (bytes_eq k m) (Some Other)) (find-rewritten g n f m))
find-rewritten g n (dir k d f) m = edited_step g n k m (Dir d) f (dir k d f) (dir k d (rewritten g n f)) refl
    (ap (cond (bytes_eq k m) (Some (Dir d))) (find-rewritten g n f m))

-- what is found at n, isn't an entry k of another kind
other_entry : (k n : List ℕ) (y x : Node) (o : Option Node) → cond (bytes_eq k n) (Some y) o ≡ Some x → (y ≡ x → ⊥) → (bytes_eq k n ≡ false) × (o ≡ Some x)
other_entry k n y x o h apart = by (bytes_eq k n) refl h
  where
    by : (t : Bool) → bytes_eq k n ≡ t → cond t (Some y) o ≡ Some x → (bytes_eq k n ≡ false) × (o ≡ Some x)
    by true is h = absurd (apart (cc))
    by false is h = (is, h)

pub find-changed : (g : Forest → Forest) (f : Forest) (n : List ℕ) (path : Path) (e : Forest) (m : List ℕ) → find f n ≡ Some (Dir e)
    → find (changed g f (n ∷ path)) m ≡ cond (bytes_eq n m) (Some (Dir (changed g e path))) (find f m)
find-changed g none n path e m is = absurd (cc)
find-changed g (file k b f) n path e m is =
    let p = other_entry k n (File b) (Dir e) (find f n) is (λ h. cc) in
    ap (cond (bytes_eq k m) (Some (File b))) (find-changed g f n path e m p.1)
    ∙ cond-swap (bytes_eq k m) (bytes_eq n m) (Some (File b)) (Some (Dir (changed g e path))) (find f m) (differ k n m p.0)
find-changed g (other k f) n path e m is =
    let p = other_entry k n Other (Dir e) (find f n) is (λ h. cc) in
    ap (cond (bytes_eq k m) (Some Other)) (find-changed g f n path e m p.1)
    ∙ cond-swap (bytes_eq k m) (bytes_eq n m) (Some Other) (Some (Dir (changed g e path))) (find f m) (differ k n m p.0)
find-changed g (dir k d f) n path e m is = by (λ h. find-changed g f n path e m h) (bytes_eq k n) refl is
  where
    by : (find f n ≡ Some (Dir e) → find (changed g f (n ∷ path)) m ≡ cond (bytes_eq n m) (Some (Dir (changed g e path))) (find f m)) → (t : Bool)
        → bytes_eq k n ≡ t → cond t (Some (Dir d)) (find f n) ≡ Some (Dir e) → find (cond t (dir k (changed g d path) f) (dir k d (changed g f (n ∷ path)))) m
        ≡ cond (bytes_eq n m) (Some (Dir (changed g e path))) (cond (bytes_eq k m) (Some (Dir d)) (find f m))
    by later true same h =
        let here : d ≡ e = cc in
        at (bytes_eq k m) (bytes_eq n m) (ap (λ l. bytes_eq l m) (same_name k n same)) here
      where
        at : (km nm : Bool) → km ≡ nm → d ≡ e → cond km (Some (Dir (changed g d path))) (find f m)
            ≡ cond nm (Some (Dir (changed g e path))) (cond km (Some (Dir d)) (find f m))
        at true true e h = ap (λ (x : Forest). Some (Dir (changed g x path))) h
        at true false e h = absurd (true≢false e)
        at false true e h = absurd (false≢true e)
        at false false e h = refl
    by later false apart h = ap (cond (bytes_eq k m) (Some (Dir d))) (later h)
        ∙ cond-swap (bytes_eq k m) (bytes_eq n m) (Some (Dir d)) (Some (Dir (changed g e path))) (find f m) (differ k n m apart)
