-- A tree that was put into another and is moved there, and folders that stand for a file that comes next.
use Rattle.std.proofs.Common.{◌≡◌, ℕ, List, [], ◌∷◌, ◌++◌, Bool, true, false, refl, sym, ◌∙◌, ap}
use Rattle.std.specs.Prelude.{cond, ◌||◌, Option, None, Some, is_some}
use Rattle.std.specs.List.{list_all}
use Rattle.std.specs.Str.{bytes_eq}
use Rattle.std.specs.Ordering.{is_lt, ordering_reverse}
use Rattle.std.specs.Cmp.Lexicographic.{nat_list_cmp_total}
use Rattle.std.proofs.lemmas.Bool.{true≢false, false≢true, and_parts}
use Rattle.pt_tree.specs.Listing.{is_before}
use Rattle.pt_tree.specs.Path.{Path, rest_below, same_path}
use Rattle.pt_tree.specs.Tree.{Bytes, Tree, added, edited_by, moved, moved_at}
use Rattle.pt_tree.proofs.Below.{rest_of, whole_of}
use Rattle.pt_tree.proofs.Names.{before_Less}
use Rattle.pt_object.specs.FilePaths.{File, paths_of}
use Rattle.pt_tree.specs.PathOrder.{part_in_order, parts_before}
use Rattle.pt_object.specs.Holding.{IsFree, leads_to, placed, placed_at}
use Rattle.pt_object.specs.ObjectLaws.{LastFileTellsFolders, MovedStandsThere, PieceMakesMore}
use Rattle.pt_object.specs.Script.{MakeFile, done}
use Rattle.pt_object.proofs.Ways.{leads, leads_to-push, name_itself, path_itself, same_name}

moved_there_at : (t inside : Tree) (from to : Path) → IsFree t from → (q : Path) → moved (placed t from inside) from to q ≡ placed t to inside q
moved_there_at t inside from to free q = by (rest_below to q) (rest_below from q) refl
  where
    by : (above below : Option Path) → rest_below from q ≡ below → moved_at (placed t from inside) from above below q ≡ placed_at inside above (t q)
    by (Some rest) below is = ap (λ o. placed_at inside o (t (from ++ rest))) (rest_of from rest)
    by None (Some rest) is = sym (ap t (whole_of from q rest is) ∙ free rest)
    by None None is = ap (λ o. placed_at inside o (t q)) is

pub moved_stands_there : MovedStandsThere
moved_stands_there t inside from to free i q = moved_there_at t inside from to free q i

-- names that come before one another don't
not_both : (x y : List ℕ) → is_before x y ≡ true → is_before y x ≡ true → ⊥
not_both x y a b =
    true≢false (sym b ∙ ap is_lt (nat_list_cmp_total.antisymm y x ∙ ap ordering_reverse (before_Less x y a)))

-- a folder above two files is above each file that comes between
between : (folder p q r : Path) → parts_before p q ≡ true → parts_before q r ≡ true → leads folder p ≡ true → leads folder r ≡ true → leads folder q ≡ true
between [] p q r a b first last = refl
between (x ∷ folder) [] q r a b first last = absurd (false≢true first)
between (x ∷ folder) (u ∷ p) [] r a b first last = absurd (false≢true a)
between (x ∷ folder) (u ∷ p) (v ∷ q) [] a b first last = absurd (false≢true b)
between (x ∷ folder) (u ∷ p) (v ∷ q) (w ∷ r) a b first last =
    by (bytes_eq x u) (bytes_eq x w) (bytes_eq u v) (bytes_eq v w) refl refl refl refl (λ c d e f. between folder p q r c d e f) a b first last
  where
    by : (s t m n : Bool) → bytes_eq x u ≡ s → bytes_eq x w ≡ t → bytes_eq u v ≡ m → bytes_eq v w ≡ n
        → (parts_before p q ≡ true → parts_before q r ≡ true → leads folder p ≡ true → leads folder r ≡ true → leads folder q ≡ true)
        → cond m (parts_before p q) (is_before u v) ≡ true → cond n (parts_before q r) (is_before v w) ≡ true
        → is_some (cond s (rest_below folder p) None) ≡ true → is_some (cond t (rest_below folder r) None) ≡ true
        → is_some (cond (bytes_eq x v) (rest_below folder q) None) ≡ true
    by false t m n xu xw uv vw later a b first last = absurd (false≢true first)
    by true false m n xu xw uv vw later a b first last = absurd (false≢true last)
    by true true true true xu xw uv vw later a b first last = ap (λ c. is_some (cond c (rest_below folder q) None))
        (ap (λ (l : List ℕ). bytes_eq l v) (same_name x u xu) ∙ uv) ∙ later a b first last
    by true true true false xu xw uv vw later a b first last =
        absurd (true≢false (sym (name_itself v) ∙ ap (bytes_eq v) (sym (same_name u v uv) ∙ sym (same_name x u xu) ∙ same_name x w xw) ∙ vw))
    by true true false true xu xw uv vw later a b first last =
        absurd (true≢false (sym (name_itself u) ∙ ap (bytes_eq u) (sym (same_name x u xu) ∙ same_name x w xw ∙ sym (same_name v w vw)) ∙ uv))
    by true true false false xu xw uv vw later a b first last =
        absurd (not_both u v a (ap (is_before v) (sym (same_name x u xu) ∙ same_name x w xw) ∙ b))

last_comes_before : (earlier : List File) (last next : File) → part_in_order (paths_of (earlier ++ last ∷ next ∷ [])) ≡ true → parts_before last.0 next.0 ≡ true
last_comes_before [] last next order = (and_parts _ _ (and_parts _ _ order).0).0
last_comes_before (e ∷ earlier) last next order = last_comes_before earlier last next (and_parts _ _ order).1

comes_before_last : (p : Path) (earlier : List File) (last next : File) → list_all (parts_before p) (paths_of (earlier ++ last ∷ next ∷ [])) ≡ true
    → parts_before p last.0 ≡ true
comes_before_last p [] last next h = (and_parts _ _ h).0
comes_before_last p (e ∷ earlier) last next h = comes_before_last p earlier last next (and_parts _ _ h).1

above_last : (earlier : List File) (last next : File) (folder : Path) → part_in_order (paths_of (earlier ++ last ∷ next ∷ [])) ≡ true
    → leads folder next.0 ≡ true → leads_to earlier folder ≡ true → leads folder last.0 ≡ true
above_last [] last next folder order on h = absurd (false≢true h)
above_last (e ∷ earlier) last next folder order on h =
    let parts = and_parts _ _ order in
    by (leads folder e.0) refl (comes_before_last e.0 earlier last next parts.0) (last_comes_before earlier last next parts.1)
    (λ g. above_last earlier last next folder parts.1 on g) h
  where
    by : (t : Bool) → leads folder e.0 ≡ t → parts_before e.0 last.0 ≡ true → parts_before last.0 next.0 ≡ true
        → (leads_to earlier folder ≡ true → leads folder last.0 ≡ true) → (t || leads_to earlier folder) ≡ true → leads folder last.0 ≡ true
    by true is first second later h = between folder e.0 last.0 next.0 first second is on
    by false is first second later h = later h

pub last_file_tells_folders : LastFileTellsFolders
last_file_tells_folders earlier last next folder order on = leads_to-push earlier last folder
    ∙ by (leads_to earlier folder) (λ h. above_last earlier last next folder order on h)
  where
    by : (t : Bool) → (t ≡ true → leads folder last.0 ≡ true) → (t || leads folder last.0) ≡ leads folder last.0
    by true tells = sym (tells refl)
    by false tells = refl

piece_at : (t : Tree) (path : Path) (bytes piece : List ℕ) (q : Path) → added (done (MakeFile path bytes) t) path piece q
    ≡ done (MakeFile path (bytes ++ piece)) t q
piece_at t path bytes piece q = by (same_path q path)
  where
    here : edited_by (λ (old : List ℕ). old ++ piece) (done (MakeFile path bytes) t path) ≡ Some (Bytes (bytes ++ piece))
    here = ap (λ b. edited_by (λ (old : List ℕ). old ++ piece) (cond b (Some (Bytes bytes)) (t path))) (path_itself path)

    by : (s : Bool) → cond s (edited_by (λ (old : List ℕ). old ++ piece) (done (MakeFile path bytes) t path)) (cond s (Some (Bytes bytes)) (t q))
        ≡ cond s (Some (Bytes (bytes ++ piece))) (t q)
    by true = here
    by false = refl

pub piece_makes_more : PieceMakesMore
piece_makes_more t path bytes piece i q = piece_at t path bytes piece q i
