-- The paths of an object's files part in order.
use Rattle.std.proofs.Common.{◌≡◌, ℕ, List, [], ◌∷◌, ◌++◌, ◌&&◌, true, false, refl, ◌∙◌, ap, sym, append_assoc, inl, inr}
use Rattle.std.specs.Prelude.{Bool, cond}
use Rattle.std.specs.List.{list_all}
use Rattle.std.proofs.lemmas.Bool.{and_from, and_parts, cases_Bool}
use Rattle.pt_tree.specs.Forest.{Forest, none, file, other, dir, comes_before, is_proper}
use Rattle.pt_tree.specs.Listing.{is_before}
use Rattle.pt_tree.specs.Name.{is_name}
use Rattle.pt_tree.specs.Path.{Path}
use Rattle.pt_tree.proofs.Finding.{comes_before-trans, proper_dir, proper_file, proper_other}
use Rattle.pt_tree.proofs.Names.{before_differs, name_itself}
use Rattle.pt_walk.specs.Object.{entries_in, files, without_shorties}
use Rattle.pt_walk.specs.ObjectPaths.{FilesPartInOrder, GatheredIsProper, paths_of}
use Rattle.pt_tree.specs.PathOrder.{is_logical, part_in_order, parts_before}
use Rattle.pt_walk.specs.Site.{is_short}
use Rattle.pt_walk.proofs.BadEntries.{counts}

-- the paths of the files in a directory
held : Path → Forest → List Path
held path f = paths_of (files (entries_in path f))

paths_of-append : (xs ys : List (Path × List ℕ)) → paths_of (xs ++ ys) ≡ paths_of xs ++ paths_of ys
paths_of-append [] ys = refl
paths_of-append (x ∷ xs) ys = ap (λ l. x.0 ∷ l) (paths_of-append xs ys)

held-dir : (path : Path) (name : List ℕ) (inside after : Forest) → held path (dir name inside after) ≡ held (path ++ name ∷ []) inside ++ held path after
unfolding held
held-dir path name inside after =
    ap paths_of (counts (entries_in (path ++ name ∷ []) inside) (entries_in path after)).0
    ∙ paths_of-append (files (entries_in (path ++ name ∷ []) inside)) (files (entries_in path after))

-- below a path
below : Path → List Path → List Path
below path [] = []
below path (q ∷ qs) = (path ++ q) ∷ below path qs

below-append : (path : Path) (xs ys : List Path) → below path (xs ++ ys) ≡ below path xs ++ below path ys
unfolding below
below-append path [] ys = refl
below-append path (x ∷ xs) ys = ap (λ l. (path ++ x) ∷ l) (below-append path xs ys)

below-twice : (path under : Path) (xs : List Path) → below path (below under xs) ≡ below (path ++ under) xs
unfolding below
below-twice path under [] = refl
below-twice path under (x ∷ xs) =
    ap (λ q. q ∷ below path (below under xs)) (sym (append_assoc path under x)) ∙ ap (λ l. ((path ++ under) ++ x) ∷ l) (below-twice path under xs)

held-below : (path : Path) (f : Forest) → held path f ≡ below path (held [] f)
unfolding held below
held-below path none = refl
held-below path (file name bytes after) = ap (λ l. (path ++ name ∷ []) ∷ l) (held-below path after)
held-below path (other name after) = held-below path after
held-below path (dir name inside after) =
    held-dir path name inside after
    ∙ ap (λ l. l ++ held path after) (held-below (path ++ name ∷ []) inside ∙ sym (below-twice path (name ∷ []) (held [] inside))
    ∙ ap (below path) (sym (held-below (name ∷ []) inside)))
    ∙ ap (λ l. below path (held (name ∷ []) inside) ++ l) (held-below path after)
    ∙ sym (below-append path (held (name ∷ []) inside) (held [] after))
    ∙ ap (below path) (sym (held-dir [] name inside after))

-- the first name comes after this one
begins_after : List ℕ → Path → Bool
begins_after n [] = false
begins_after n (m ∷ q) = is_before n m

begins_after-below : (n m : List ℕ) (xs : List Path) → is_before n m ≡ true → list_all (begins_after n) (below (m ∷ []) xs) ≡ true
unfolding below begins_after
begins_after-below n m [] before = refl
begins_after-below n m (x ∷ xs) before = and_from (is_before n m) (list_all (begins_after n) (below (m ∷ []) xs)) before (begins_after-below n m xs before)

all-append : (test : Path → Bool) (xs ys : List Path) → list_all test xs ≡ true → list_all test ys ≡ true → list_all test (xs ++ ys) ≡ true
all-append test [] ys a b = b
all-append test (x ∷ xs) ys a b =
    let parts = and_parts (test x) (list_all test xs) a in
    and_from (test x) (list_all test (xs ++ ys)) parts.0 (all-append test xs ys parts.1 b)

-- a name that comes before a directory's first comes before the first names of all its files
held-after : (n : List ℕ) (f : Forest) → is_proper f ≡ true → comes_before n f ≡ true → list_all (begins_after n) (held [] f) ≡ true
unfolding held begins_after
held-after n none proper before = refl
held-after n (file name bytes after) proper before =
    let parts = proper_file name bytes after proper in
    and_from (is_before n name) (list_all (begins_after n) (held [] after)) before (held-after n after parts.2 (comes_before-trans n name after before parts.1))
held-after n (other name after) proper before =
    let parts = proper_other name after proper in
    held-after n after parts.2 (comes_before-trans n name after before parts.1)
held-after n (dir name inside after) proper before =
    let parts = proper_dir name inside after proper in
    ap (list_all (begins_after n)) (held-dir [] name inside after)
    ∙ all-append (begins_after n) (held (name ∷ []) inside) (held [] after)
    (ap (list_all (begins_after n)) (held-below (name ∷ []) inside) ∙ begins_after-below n name (held [] inside) before)
    (held-after n after parts.2 (comes_before-trans n name after before parts.1))

parts-after : (n : List ℕ) (p q : Path) → begins_after n q ≡ true → parts_before (n ∷ p) q ≡ true
unfolding begins_after
parts-after n p [] after = absurd (cc)
parts-after n p (m ∷ q) after = ap (λ b. cond b (parts_before p q) (is_before n m)) (before_differs n m after) ∙ after

all_parts-after : (n : List ℕ) (p : Path) (ys : List Path) → list_all (begins_after n) ys ≡ true → list_all (parts_before (n ∷ p)) ys ≡ true
all_parts-after n p [] after = refl
all_parts-after n p (y ∷ ys) after =
    let parts = and_parts (begins_after n y) (list_all (begins_after n) ys) after in
    and_from (parts_before (n ∷ p) y) (list_all (parts_before (n ∷ p)) ys) (parts-after n p y parts.0) (all_parts-after n p ys parts.1)

all_parts-below : (n : List ℕ) (p : Path) (xs : List Path) → list_all (parts_before p) xs ≡ true → list_all (parts_before (n ∷ p)) (below (n ∷ []) xs) ≡ true
unfolding below
all_parts-below n p [] h = refl
all_parts-below n p (x ∷ xs) h =
    let parts = and_parts (parts_before p x) (list_all (parts_before p) xs) h in
    and_from (parts_before (n ∷ p) (n ∷ x)) (list_all (parts_before (n ∷ p)) (below (n ∷ []) xs))
    (ap (λ b. cond b (parts_before p x) (is_before n n)) (name_itself n) ∙ parts.0)
    (all_parts-below n p xs parts.1)

in_order-dir : (n : List ℕ) (xs ys : List Path) → part_in_order xs ≡ true → part_in_order ys ≡ true → list_all (begins_after n) ys ≡ true
    → part_in_order (below (n ∷ []) xs ++ ys) ≡ true
unfolding below
in_order-dir n [] ys a b after = b
in_order-dir n (x ∷ xs) ys a b after =
    let parts = and_parts (list_all (parts_before x) xs) (part_in_order xs) a in
    and_from (list_all (parts_before (n ∷ x)) (below (n ∷ []) xs ++ ys)) (part_in_order (below (n ∷ []) xs ++ ys))
    (all-append (parts_before (n ∷ x)) (below (n ∷ []) xs) ys (all_parts-below n x xs parts.0) (all_parts-after n x ys after))
    (in_order-dir n xs ys parts.1 b after)

in_order : (f : Forest) → is_proper f ≡ true → part_in_order (held [] f) ≡ true
unfolding held
in_order none proper = refl
in_order (file name bytes after) proper =
    let parts = proper_file name bytes after proper in
    and_from (list_all (parts_before (name ∷ [])) (held [] after)) (part_in_order (held [] after))
    (all_parts-after name [] (held [] after) (held-after name after parts.2 parts.1)) (in_order after parts.2)
in_order (other name after) proper = in_order after (proper_other name after proper).2
in_order (dir name inside after) proper =
    let parts = proper_dir name inside after proper in
    ap part_in_order (held-dir [] name inside after ∙ ap (λ l. l ++ held [] after) (held-below (name ∷ []) inside))
    ∙ in_order-dir name (held [] inside) (held [] after) (in_order inside parts.3) (in_order after parts.2) (held-after name after parts.2 parts.1)

logical-below : (n : List ℕ) (xs : List Path) → is_name n ≡ true → list_all is_logical xs ≡ true → list_all is_logical (below (n ∷ []) xs) ≡ true
unfolding below
logical-below n [] name h = refl
logical-below n ([] ∷ xs) name h = absurd (cc)
logical-below n ((m ∷ x) ∷ xs) name h =
    let parts = and_parts (is_logical (m ∷ x)) (list_all is_logical xs) h in
    and_from (is_logical (n ∷ m ∷ x)) (list_all is_logical (below (n ∷ []) xs)) (and_from (is_name n) (list_all is_name (m ∷ x)) name parts.0)
    (logical-below n xs name parts.1)

logical : (f : Forest) → is_proper f ≡ true → list_all is_logical (held [] f) ≡ true
unfolding held
logical none proper = refl
logical (file name bytes after) proper =
    let parts = proper_file name bytes after proper in
    and_from (is_logical (name ∷ [])) (list_all is_logical (held [] after)) (and_from (is_name name) true parts.0 refl) (logical after parts.2)
logical (other name after) proper = logical after (proper_other name after proper).2
logical (dir name inside after) proper =
    let parts = proper_dir name inside after proper in
    ap (list_all is_logical) (held-dir [] name inside after ∙ ap (λ l. l ++ held [] after) (held-below (name ∷ []) inside))
    ∙ all-append is_logical (below (name ∷ []) (held [] inside)) (held [] after) (logical-below name (held [] inside) parts.0 (logical inside parts.3))
    (logical after parts.2)

pub files_part : FilesPartInOrder
unfolding held
files_part object proper = (in_order object proper, logical object proper)

comes_before-gathered : (n : List ℕ) (f : Forest) → is_proper f ≡ true → comes_before n f ≡ true → comes_before n (without_shorties f) ≡ true
comes_before-gathered n none proper before = refl
comes_before-gathered n (file name bytes after) proper before = before
comes_before-gathered n (other name after) proper before = before
comes_before-gathered n (dir name inside after) proper before =
    let parts = proper_dir name inside after proper in
    elim (cases_Bool (is_short name)) [
      | inl short ↦
          ap (λ b. comes_before n (cond b (without_shorties after) (dir name inside (without_shorties after)))) short
          ∙ comes_before-gathered n after parts.2 (comes_before-trans n name after before parts.1)
      | inr long ↦ ap (λ b. comes_before n (cond b (without_shorties after) (dir name inside (without_shorties after)))) long ∙ before
    ]

pub gathered_proper : GatheredIsProper
gathered_proper none proper = refl
gathered_proper (file name bytes after) proper =
    let parts = proper_file name bytes after proper in
    and_from (is_name name) (comes_before name (without_shorties after) && is_proper (without_shorties after)) parts.0
    (and_from (comes_before name (without_shorties after)) (is_proper (without_shorties after)) (comes_before-gathered name after parts.2 parts.1)
    (gathered_proper after parts.2))
gathered_proper (other name after) proper =
    let parts = proper_other name after proper in
    and_from (is_name name) (comes_before name (without_shorties after) && is_proper (without_shorties after)) parts.0
    (and_from (comes_before name (without_shorties after)) (is_proper (without_shorties after)) (comes_before-gathered name after parts.2 parts.1)
    (gathered_proper after parts.2))
gathered_proper (dir name inside after) proper =
    let parts = proper_dir name inside after proper in
    elim (cases_Bool (is_short name)) [
      | inl short ↦ ap (λ b. is_proper (cond b (without_shorties after) (dir name inside (without_shorties after)))) short ∙ gathered_proper after parts.2
      | inr long ↦
          ap (λ b. is_proper (cond b (without_shorties after) (dir name inside (without_shorties after)))) long
          ∙ and_from (is_name name) (comes_before name (without_shorties after) && (is_proper inside && is_proper (without_shorties after))) parts.0
          (and_from (comes_before name (without_shorties after)) (is_proper inside && is_proper (without_shorties after))
          (comes_before-gathered name after parts.2 parts.1)
          (and_from (is_proper inside) (is_proper (without_shorties after)) parts.3 (gathered_proper after parts.2)))
    ]
