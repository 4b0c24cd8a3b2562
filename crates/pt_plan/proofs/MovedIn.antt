-- Things made in the root of a destination, and moved there.
use Rattle.std.proofs.Common.{◌≡◌, ℕ, zero, suc, List, [], ◌∷◌, ◌++◌, Bool, true, false, refl, sym, ◌∙◌, ap, cond, take, append_assoc, ◌&&◌}
use Rattle.std.specs.Prelude.{◌||◌, Option, None, Some, codes, slice_get}
use Rattle.std.specs.Option.{option_or}
use Rattle.std.specs.Str.{bytes_eq}
use Rattle.std.proofs.lemmas.Bool.{false≢true, true≢false}
use Rattle.std.proofs.lemmas.List.Folds.{list_any-append}
use Rattle.pt_object.proofs.Ways.{bytes_eq-sym, is_same, same_name}
use Rattle.pt_object.specs.Holding.{IsFree, placed, placed_at}
use Rattle.pt_object.specs.Scripts.{staging}
use Rattle.pt_tree.specs.Path.{Path, rest_below, same_path}
use Rattle.pt_tree.specs.Tree.{Entry, Folder, IsTree, Tree, moved, moved_at, put}
use Rattle.pt_tree.proofs.Below.{gap_below, whole_of}
use Rattle.pt_plan.specs.Carried.{folder_where}
use Rattle.pt_plan.specs.GrowthLaws.{FoldersGrow, HasNoGaps, ObjectIsMovedIn, RootIsItsOwn, RootIsMadeInPlace, RootIsMovedIn, RootsHaveNoGaps}
use Rattle.pt_plan.specs.Roots.{root_in, storage_root, with_folders, with_root}
use Rattle.pt_plan.proofs.Folders.{is_one}

-- ---- a root of a destination

no_gaps : {t : Tree} → IsTree t → HasNoGaps (root_in t)
no_gaps {t} tree path none q = ap t (sym (append_assoc storage_root path q)) ∙ gap_below t tree _ q none

pub roots_have_no_gaps : RootsHaveNoGaps
roots_have_no_gaps _ tree = (no_gaps tree, no_gaps tree [])

-- a path is in the root, or the root's part of it doesn't matter
own_at : (t : Tree) {path : Path} (o : Option Path) → rest_below storage_root path ≡ o → placed_at (root_in t) o (t path) ≡ t path
own_at _ None _ = refl
own_at t {path} (Some rest) e = ap t (sym (whole_of storage_root path rest e))

pub root_is_its_own : RootIsItsOwn
root_is_its_own t i path = own_at t {path = path} (rest_below storage_root path) refl i

-- ---- made in place

put_at : (t root : Tree) (path : Path) (entry : Entry) (q : Path) → put (with_root t root) (storage_root ++ path) entry q ≡ with_root t (put root path entry) q
put_at _ _ _ _ [] = refl
put_at t root path entry (x ∷ q) = by (bytes_eq x (codes "ocfl")) (bytes_eq (codes "ocfl") x) (sym (bytes_eq-sym x _ _ refl))
  where
    by : (s u : Bool) → s ≡ u → cond (s && same_path q path) (Some entry) (placed_at root (cond u (Some q) None) (t (x ∷ q)))
        ≡ placed_at (put root path entry) (cond u (Some q) None) (t (x ∷ q))
    by true true e = refl
    by false false e = refl
    by true false e = absurd (true≢false e)
    by false true e = absurd (false≢true e)

pub root_is_made_in_place : RootIsMadeInPlace
root_is_made_in_place t root path entry i q = put_at t root path entry q i

-- ---- moved in

not_both : (x : List ℕ) → bytes_eq (codes "ocfl") x ≡ true → bytes_eq (codes "staging") x ≡ true → ⊥
not_both x a b = false≢true (ap (bytes_eq (codes "ocfl")) (same_name (codes "staging") x b) ∙ a)

moved_in_at : (t root inside : Tree) (place : Path) → IsFree t staging → (q : Path)
    → moved (placed (with_root t root) staging inside) staging (storage_root ++ place) q ≡ with_root t (placed root place inside) q
moved_in_at _ _ _ _ _ [] = refl
moved_in_at t root inside place free (x ∷ q) = by (bytes_eq (codes "ocfl") x) (bytes_eq (codes "staging") x) (rest_below place q) refl refl refl
  where
    by : (a b : Bool) (o : Option Path) → bytes_eq (codes "ocfl") x ≡ a → bytes_eq (codes "staging") x ≡ b → rest_below place q ≡ o
        → moved_at (placed (with_root t root) staging inside) staging (cond a o None) (cond b (Some q) None) (x ∷ q)
        ≡ placed_at (placed root place inside) (cond a (Some q) None) (t (x ∷ q))
    by true true o a b r = absurd (not_both x a b)
    by true false (Some rest) a b r = sym (ap (λ (c : Option Path). placed_at inside c (root q)) r)
    by true false None a b r =
        ap (λ c. placed_at inside (cond c (Some q) None) (with_root t root (x ∷ q))) b
        ∙ ap (λ c. placed_at root (cond c (Some q) None) (t (x ∷ q))) a
        ∙ sym (ap (λ (c : Option Path). placed_at inside c (root q)) r)
    by false true o a b r = sym (ap (λ (y : List ℕ). t (y ∷ q)) (sym (same_name _ x b)) ∙ free q)
    by false false o a b r =
        ap (λ c. placed_at inside (cond c (Some q) None) (with_root t root (x ∷ q))) b
        ∙ ap (λ c. placed_at root (cond c (Some q) None) (t (x ∷ q))) a

pub object_is_moved_in : ObjectIsMovedIn
object_is_moved_in t root inside place free i q = moved_in_at t root inside place free q i

pub root_is_moved_in : RootIsMovedIn
root_is_moved_in t root free =
    ap (λ (u : Tree). moved (placed u staging root) staging storage_root) (sym (root_is_its_own t)) ∙ object_is_moved_in t (root_in t) root [] free

-- ---- folder by folder

take_more : (folders : List Path) (n : ℕ) {folder : Path} → slice_get folders n ≡ Some folder → take (suc n) folders ≡ take n folders ++ folder ∷ []
take_more [] n h = absurd (cc)
take_more (f ∷ folders) zero {folder} h = let same : f ≡ folder = cc in λ i. same i ∷ []
take_more (f ∷ folders) (suc n) h = ap (λ (l : List Path). f ∷ l) (take_more folders n h)

one_more : (folders : List Path) (n : ℕ) {folder : Path} (q : Path) → slice_get folders n ≡ Some folder
    → is_one q (take (suc n) folders) ≡ (is_one q (take n folders) || (same_path q folder || false))
one_more folders n {folder} q h = ap (is_one q) (take_more folders n h) ∙ list_any-append (same_path q) (take n folders) (folder ∷ [])

made_at : (folders : List Path) (t : Tree) (n : ℕ) {folder : Path} → slice_get folders n ≡ Some folder → with_folders (take n folders) t folder ≡ None
    → (q : Path) → with_folders (take (suc n) folders) t q ≡ put (with_folders (take n folders) t) folder Folder q
made_at folders t n {folder} h none q =
    ap (λ b. option_or (t q) (folder_where b)) (one_more folders n q h)
    ∙ by (t q) (is_one q (take n folders)) (same_path q folder) (λ e. ap (with_folders (take n folders) t) (is_same q folder e) ∙ none)
  where
    by : (here : Option Entry) (one same : Bool) → (same ≡ true → option_or here (folder_where one) ≡ None)
        → option_or here (folder_where (one || (same || false))) ≡ cond same (Some Folder) (option_or here (folder_where one))
    by (Some entry) one true tells = let k : Some entry ≡ None = tells refl in absurd (cc)
    by (Some entry) one false tells = refl
    by None true true tells = let k : Some Folder ≡ None = tells refl in absurd (cc)
    by None true false tells = refl
    by None false true tells = refl
    by None false false tells = refl

there_at : (folders : List Path) (t : Tree) (n : ℕ) {folder : Path} → slice_get folders n ≡ Some folder → with_folders (take n folders) t folder ≡ Some Folder
    → (q : Path) → with_folders (take (suc n) folders) t q ≡ with_folders (take n folders) t q
there_at folders t n {folder} h there q =
    ap (λ b. option_or (t q) (folder_where b)) (one_more folders n q h)
    ∙ by (t q) (is_one q (take n folders)) (same_path q folder) (λ e. ap (with_folders (take n folders) t) (is_same q folder e) ∙ there)
  where
    by : (here : Option Entry) (one same : Bool) → (same ≡ true → option_or here (folder_where one) ≡ Some Folder)
        → option_or here (folder_where (one || (same || false))) ≡ option_or here (folder_where one)
    by (Some entry) one same tells = refl
    by None true same tells = refl
    by None false true tells = sym (tells refl)
    by None false false tells = refl

pub folders_grow : FoldersGrow
folders_grow folders t n _ h = (
  λ none i q. made_at folders t n h none q i,
  λ there i q. there_at folders t n h there q i,
)
