-- The open file of a memory tree.
use Rattle.std.proofs.Common.{◌≡◌, ℕ, List, [], ◌∷◌, true, false, refl, ◌∙◌, ap, subst}
use Rattle.std.specs.Prelude.{Bool, ◌&&◌, cond, Option, None, Some, IsSome}
use Rattle.std.specs.Option.{option_map, option_and_then, option_or}
use Rattle.std.specs.Str.{bytes_eq}
use Rattle.std.proofs.lemmas.Bool.{cond-true, cond-false}
use Rattle.pt_tree.specs.Path.{Path, same_path}
use Rattle.pt_tree.specs.Forest.{Forest, none, file, other, dir, Node, File, Dir, Other, find, node_at, as_file, file_at, comes_before, is_proper}
use Rattle.pt_tree.specs.Name.{is_name}
use Rattle.pt_memory.specs.Opening.{below, is_just, opened}
use Rattle.pt_memory.specs.declared.entries.Entries.{Entries, End, File', Other', Dir'}
use Rattle.pt_memory.specs.Entries.{forest_of, open_of, marked_of}
use Rattle.pt_tree.proofs.Names.{same_name, name_itself, bytes_eq-sym}
use Rattle.pt_tree.proofs.Finding.{proper_file, proper_other, proper_dir}
use Rattle.pt_tree.proofs.Proper.{behind}

-- no path is no file's
pub opened-top : (f : Forest) → opened f [] ≡ None
opened-top none = refl
opened-top (file m b f) = opened-top f
opened-top (other m f) = opened-top f
opened-top (dir m d f) = ap (λ o. option_or (option_map (λ (x : Path × ℕ). (m ∷ x.0, x.1)) o) (opened f [])) (opened-top d) ∙ opened-top f

-- the file at a path is the open one once it was opened
pub opened-file : (f : Forest) (p : Path) → IsSome (file_at f p) → opened f p ≡ Some (p, 0)
opened-file f [] h = absurd (cc)
opened-file none (n ∷ path) h = absurd (cc)
opened-file (file m b f) (n ∷ path) h = by (opened-file f (n ∷ path)) (bytes_eq m n) refl h
  where
    here : (path : Path) → bytes_eq m n ≡ true → IsSome (option_and_then as_file (node_at (File b) path))
        → option_or (cond (is_just (n ∷ path) m) (Some (m ∷ [], 0)) None) (opened f (n ∷ path)) ≡ Some (n ∷ path, 0)
    here [] same h = ap (λ t. option_or (cond (t && true) (Some (m ∷ [], 0)) None) (opened f (n ∷ []))) (bytes_eq-sym m n true same)
        ∙ ap (λ (l : List ℕ). Some (l ∷ [], 0)) (same_name m n same)
    here (k ∷ path) same h = absurd (cc)

    by : (IsSome (file_at f (n ∷ path)) → opened f (n ∷ path) ≡ Some (n ∷ path, 0)) → (t : Bool) → bytes_eq m n ≡ t
        → IsSome (option_and_then as_file (option_and_then (λ node. node_at node path) (cond t (Some (File b)) (find f n))))
        → option_or (cond (is_just (n ∷ path) m) (Some (m ∷ [], 0)) None) (opened f (n ∷ path)) ≡ Some (n ∷ path, 0)
    by later true same h = here path same h
    by later false apart h = ap (λ t. option_or (cond (t && same_path path []) (Some (m ∷ [], 0)) None) (opened f (n ∷ path))) (bytes_eq-sym m n false apart)
        ∙ later h
opened-file (other m f) (n ∷ path) h = by (opened-file f (n ∷ path)) (bytes_eq m n) h
  where
    here : (path : Path) → IsSome (option_and_then as_file (node_at Other path)) → ⊥
    here [] h = cc
    here (k ∷ path) h = cc

    by : (IsSome (file_at f (n ∷ path)) → opened f (n ∷ path) ≡ Some (n ∷ path, 0)) → (t : Bool)
        → IsSome (option_and_then as_file (option_and_then (λ node. node_at node path) (cond t (Some Other) (find f n))))
        → opened f (n ∷ path) ≡ Some (n ∷ path, 0)
    by later true h = absurd (here path h)
    by later false h = later h
opened-file (dir m d f) (n ∷ path) h = by (opened-file d path) (opened-file f (n ∷ path)) (bytes_eq m n) refl h
  where
    by : (IsSome (file_at d path) → opened d path ≡ Some (path, 0)) → (IsSome (file_at f (n ∷ path)) → opened f (n ∷ path) ≡ Some (n ∷ path, 0)) → (t : Bool)
        → bytes_eq m n ≡ t
        → IsSome (option_and_then as_file (option_and_then (λ node. node_at node path) (cond t (Some (Dir d)) (find f n))))
        → option_or (option_map (λ (x : Path × ℕ). (m ∷ x.0, x.1)) (opened d (below (n ∷ path) m))) (opened f (n ∷ path)) ≡ Some (n ∷ path, 0)
    by inside later true same h =
        ap (λ t. option_or (option_map (λ (x : Path × ℕ). (m ∷ x.0, x.1)) (opened d (cond t path []))) (opened f (n ∷ path))) (bytes_eq-sym m n true same)
        ∙ ap (λ o. option_or (option_map (λ (x : Path × ℕ). (m ∷ x.0, x.1)) o) (opened f (n ∷ path))) (inside h)
        ∙ ap (λ (l : List ℕ). Some (l ∷ path, 0)) (same_name m n same)
    by inside later false apart h =
        ap (λ t. option_or (option_map (λ (x : Path × ℕ). (m ∷ x.0, x.1)) (opened d (cond t path []))) (opened f (n ∷ path))) (bytes_eq-sym m n false apart)
        ∙ ap (λ o. option_or (option_map (λ (x : Path × ℕ). (m ∷ x.0, x.1)) o) (opened f (n ∷ path))) (opened-top d)
        ∙ later h

-- none is open, so none has a place
unmarked : (e : Entries) → open_of e ≡ None → marked_of e ≡ None
unmarked End is = refl
unmarked (File' name held p after) is = by (unmarked after) held.place refl is
  where
    by : (open_of after ≡ None → marked_of after ≡ None) → (place : Option ℕ) → held.place ≡ place
        → option_or (option_map (λ k. (name ∷ [], k)) place) (open_of after) ≡ None
        → option_or (option_map (λ k. (held.bytes.items, k)) held.place) (marked_of after) ≡ None
    by later None at is = ap (λ k. option_or (option_map (λ place. (held.bytes.items, place)) k) (marked_of after)) at ∙ later is
    by later (Some k) at is = absurd (cc)
unmarked (Other' name p after) is = unmarked after is
unmarked (Dir' name p inside q after) is = by (unmarked inside) (unmarked after) (open_of inside) refl is
  where
    by : (open_of inside ≡ None → marked_of inside ≡ None) → (open_of after ≡ None → marked_of after ≡ None) → (i : Option (Path × ℕ)) → open_of inside ≡ i
        → option_or (option_map (λ (x : Path × ℕ). (name ∷ x.0, x.1)) i) (open_of after) ≡ None → option_or (marked_of inside) (marked_of after) ≡ None
    by within later None at is = ap (λ i. option_or i (marked_of after)) (within at) ∙ later is
    by within later (Some i) at is = absurd (cc)

-- the file with a place is found at its path
pub record IsMarked (e : Entries) (o : Path × ℕ) : Type 0 where
  pub bytes : List ℕ
  pub marked : marked_of e ≡ Some (bytes, o.1)
  pub found : file_at (forest_of e) o.0 ≡ Some bytes

-- a file that is found behind the first entry is found past it
found_past : (m : List ℕ) (x : Node) (f : Forest) (p : Path) (b : List ℕ)
    → ((n : List ℕ) (path : Path) (y : Node) → option_and_then (λ node. node_at node path) (find f n) ≡ Some y → bytes_eq m n ≡ false)
    → (whole : Forest) → ((n : List ℕ) → find whole n ≡ cond (bytes_eq m n) (Some x) (find f n)) → file_at f p ≡ Some b → file_at whole p ≡ Some b
found_past m x f [] b apart whole first is = absurd (cc)
found_past m x f (n ∷ path) b apart whole first is =
    ap (λ o. option_and_then as_file (option_and_then (λ node. node_at node path) o)) (first n
    ∙ cond-false (bytes_eq m n) (Some x) (find f n) (by (option_and_then (λ node. node_at node path) (find f n)) refl is)) ∙ is
  where
    by : (o : Option Node) → option_and_then (λ node. node_at node path) (find f n) ≡ o → option_and_then as_file o ≡ Some b → bytes_eq m n ≡ false
    by None at h = absurd (cc)
    by (Some y) at h = apart n path y at

marked_later : (e after : Entries) (m : List ℕ) (x : Node) (o : Path × ℕ) → IsMarked after o
    → ((n : List ℕ) (path : Path) (y : Node) → option_and_then (λ node. node_at node path) (find (forest_of after) n) ≡ Some y → bytes_eq m n ≡ false)
    → ((n : List ℕ) → find (forest_of e) n ≡ cond (bytes_eq m n) (Some x) (find (forest_of after) n))
    → marked_of e ≡ marked_of after → IsMarked e o
marked_later e after m x o later apart first same =
    record { bytes = later.bytes; marked = same ∙ later.marked; found = found_past m x (forest_of after) o.0 later.bytes apart (forest_of e) first later.found }

pub is_marked : (e : Entries) (o : Path × ℕ) → is_proper (forest_of e) ≡ true → open_of e ≡ Some o → IsMarked e o
is_marked End o proper is = absurd (cc)
is_marked (File' name held p after) o proper is = by (is_marked after o (proper_file name held.bytes.items (forest_of after) proper).2) held.place refl is
  where
    parts : (is_name name ≡ true) × (comes_before name (forest_of after) ≡ true) × (is_proper (forest_of after) ≡ true)
    parts = proper_file name held.bytes.items (forest_of after) proper

    by : (open_of after ≡ Some o → IsMarked after o) → (place : Option ℕ) → held.place ≡ place
        → option_or (option_map (λ k. (name ∷ [], k)) place) (open_of after) ≡ Some o → IsMarked (File' name held p after) o
    by later None at is =
        marked_later (File' name held p after) after name (File held.bytes.items) o (later is)
        (λ n path y. behind name (forest_of after) n path y parts.1 parts.2) (λ n. refl)
        (ap (λ k. option_or (option_map (λ place. (held.bytes.items, place)) k) (marked_of after)) at)
    by later (Some k) at is =
        let same : (name ∷ [], k) ≡ o = cc in
        subst (IsMarked (File' name held p after)) same (record {
          bytes = held.bytes.items;
          marked = ap (λ k. option_or (option_map (λ place. (held.bytes.items, place)) k) (marked_of after)) at;
          found = ap (λ o. option_and_then as_file (option_and_then (λ node. node_at node []) o))
              (cond-true (bytes_eq name name) (Some (File held.bytes.items)) _ (name_itself name));
        })
is_marked (Other' name p after) o proper is =
    let parts = proper_other name (forest_of after) proper in
    marked_later (Other' name p after) after name Other o (is_marked after o parts.2 is)
    (λ n path y. behind name (forest_of after) n path y parts.1 parts.2) (λ n. refl) refl
is_marked (Dir' name p inside q after) o proper is =
    by (λ o. is_marked inside o parts.3) (is_marked after o parts.2) (open_of inside) refl is
  where
    parts : (is_name name ≡ true) × (comes_before name (forest_of after) ≡ true) × (is_proper (forest_of after) ≡ true) × (is_proper (forest_of inside) ≡ true)
    parts = proper_dir name (forest_of inside) (forest_of after) proper

    by : ((o : Path × ℕ) → open_of inside ≡ Some o → IsMarked inside o) → (open_of after ≡ Some o → IsMarked after o) → (i : Option (Path × ℕ))
        → open_of inside ≡ i
        → option_or (option_map (λ (x : Path × ℕ). (name ∷ x.0, x.1)) i) (open_of after) ≡ Some o → IsMarked (Dir' name p inside q after) o
    by within later None at is =
        marked_later (Dir' name p inside q after) after name (Dir (forest_of inside)) o (later is)
        (λ n path y. behind name (forest_of after) n path y parts.1 parts.2) (λ n. refl)
        (ap (λ i. option_or i (marked_of after)) (unmarked inside at))
    by within later (Some i) at is =
        let m = within i at in
        let same : (name ∷ i.0, i.1) ≡ o = cc in
        subst (IsMarked (Dir' name p inside q after)) same (record {
          bytes = m.bytes;
          marked = ap (λ i. option_or i (marked_of after)) m.marked;
          found = ap (λ o. option_and_then as_file (option_and_then (λ node. node_at node i.0) o))
              (cond-true (bytes_eq name name) (Some (Dir (forest_of inside))) _ (name_itself name)) ∙ m.found;
        })
