-- What a change of a tree leaves, and paths whose texts differ.
use Rattle.std.proofs.Common.{◌≡◌, ◌∙◌, ℕ, Bool, true, false, List, ◌++◌, cond, refl, ap, sym}
use Rattle.std.specs.Prelude.{◌||◌, None, Some}
use Rattle.std.specs.Str.{bytes_eq}
use Rattle.std.proofs.lemmas.Bool.{true≢false}
use Rattle.pt_tree.specs.Name.{AreNames}
use Rattle.pt_tree.specs.Path.{Path, joined, same_path}
use Rattle.pt_tree.specs.Tree.{Entry, Folder, IsTree, Tree, added, edited_by, put}
use Rattle.pt_tree.proofs.Joining.{joined_once}
use Rattle.pt_tree.proofs.Below.{gap_below}
use Rattle.pt_object.proofs.Ways.{is_same, name_itself, path_itself, same_name}

pub or_later : (a b : Bool) → a ≡ false → (a || b) ≡ true → b ≡ true
or_later true b p is = absurd (cc)
or_later false b p is = is

-- paths of which one test says different things are different
pub told_apart : (test : Path → Bool) (q p : Path) → test q ≡ false → test p ≡ true → same_path q p ≡ false
told_apart test q p isnt is = by (same_path q p) refl
  where
    by : (s : Bool) → same_path q p ≡ s → s ≡ false
    by true same = absurd (true≢false (sym is ∙ ap test (sym (is_same q p same)) ∙ isnt))
    by false off = refl

pub told_apart_back : (test : Path → Bool) (q p : Path) → test q ≡ true → test p ≡ false → same_path q p ≡ false
told_apart_back test q p is isnt = by (same_path q p) refl
  where
    by : (s : Bool) → same_path q p ≡ s → s ≡ false
    by true same = absurd (true≢false (sym is ∙ ap test (is_same q p same) ∙ isnt))
    by false off = refl

-- ---- something is put

pub put_here : (t : Tree) (p : Path) (e : Entry) → put t p e p ≡ Some e
put_here t p e = ap (λ s. cond s (Some e) (t p)) (path_itself p)

pub put_off : (t : Tree) (p : Path) (e : Entry) (q : Path) → same_path q p ≡ false → put t p e q ≡ t q
put_off t p e q off = ap (λ s. cond s (Some e) (t q)) off

pub put_folder : (t : Tree) (p q : Path) → t q ≡ Some Folder → put t p Folder q ≡ Some Folder
put_folder t p q is = by (same_path q p)
  where
    by : (s : Bool) → cond s (Some Folder) (t q) ≡ Some Folder
    by true = refl
    by false = is

-- a folder is none of what is absent
pub put_at_none : (t : Tree) (p : Path) (e : Entry) (q : Path) → t p ≡ None → t q ≡ Some Folder → put t p e q ≡ Some Folder
put_at_none t p e q none is = by (same_path q p) refl
  where
    by : (s : Bool) → same_path q p ≡ s → cond s (Some e) (t q) ≡ Some Folder
    by true same = absurd (let here : t q ≡ None = ap t (is_same q p same) ∙ none in cc)
    by false off = is

-- ---- a piece is added

pub added_off : (t : Tree) (p : Path) (piece : List ℕ) (q : Path) → same_path q p ≡ false → added t p piece q ≡ t q
added_off t p piece q off = ap (λ s. cond s (edited_by (λ bytes. bytes ++ piece) (t p)) (t q)) off

pub added_folder : (t : Tree) (p : Path) (piece : List ℕ) (q : Path) → t q ≡ Some Folder → added t p piece q ≡ Some Folder
added_folder t p piece q is = by (same_path q p) refl
  where
    by : (s : Bool) → same_path q p ≡ s → cond s (edited_by (λ bytes. bytes ++ piece) (t p)) (t q) ≡ Some Folder
    by true same = ap (edited_by (λ bytes. bytes ++ piece)) (ap t (sym (is_same q p same)) ∙ is)
    by false off = is

pub added_none : (t : Tree) (p : Path) (piece : List ℕ) (q : Path) → t q ≡ None → added t p piece q ≡ None
added_none t p piece q is = by (same_path q p) refl
  where
    by : (s : Bool) → same_path q p ≡ s → cond s (edited_by (λ bytes. bytes ++ piece) (t p)) (t q) ≡ None
    by true same = ap (edited_by (λ bytes. bytes ++ piece)) (ap t (sym (is_same q p same)) ∙ is)
    by false off = is

-- ---- what is absent has nothing below

pub nothing_below : (t : Tree) → IsTree t → (p rest : Path) → t p ≡ None → t (p ++ rest) ≡ Some Folder → ⊥
nothing_below t tree p rest none is = let gone : t (p ++ rest) ≡ None = gap_below t tree p rest none in absurd (cc)

-- ---- texts of paths

pub text_once : (q p : Path) → AreNames q → AreNames p → bytes_eq (joined q) (joined p) ≡ true → q ≡ p
text_once q p nq np same = joined_once q p nq np (same_name (joined q) (joined p) same)

pub text_of : (q p : Path) → q ≡ p → bytes_eq (joined q) (joined p) ≡ true
text_of q p same = ap (λ (q : Path). bytes_eq (joined q) (joined p)) same ∙ name_itself (joined p)

pub text_apart : (q p : Path) → AreNames q → AreNames p → (q ≡ p → ⊥) → bytes_eq (joined q) (joined p) ≡ false
text_apart q p nq np other = by (bytes_eq (joined q) (joined p)) refl
  where
    by : (s : Bool) → bytes_eq (joined q) (joined p) ≡ s → s ≡ false
    by true same = absurd (other (text_once q p nq np same))
    by false off = refl
