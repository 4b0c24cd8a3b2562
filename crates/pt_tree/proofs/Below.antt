-- What stands below a path: the rest of a path behind its front, and nothing below what is absent.
use Rattle.std.proofs.Common.{◌≡◌, ◌∙◌, Bool, true, false, [], ◌∷◌, ◌++◌, refl, sym, ap, append_assoc, append-nil, cond}
use Rattle.std.specs.Prelude.{Option, None, Some, is_some}
use Rattle.std.specs.Str.{bytes_eq}
use Rattle.pt_tree.specs.Path.{Path, rest_below}
use Rattle.pt_tree.specs.Tree.{Entry, Folder, IsTree, Tree}
use Rattle.pt_tree.proofs.Names.{name_itself, same_name}

pub rest_of : (p rest : Path) → rest_below p (p ++ rest) ≡ Some rest
rest_of [] rest = refl
rest_of (x ∷ p) rest = ap (λ b. cond b (rest_below p (p ++ rest)) None) (name_itself x) ∙ rest_of p rest

pub whole_of : (p q rest : Path) → rest_below p q ≡ Some rest → q ≡ p ++ rest
whole_of [] q rest is = cc
whole_of (x ∷ p) [] rest is = absurd (cc)
whole_of (x ∷ p) (y ∷ q) rest is = by (bytes_eq x y) refl (λ e. whole_of p q rest e) is
  where
    by : (b : Bool) → bytes_eq x y ≡ b → (rest_below p q ≡ Some rest → q ≡ p ++ rest) → cond b (rest_below p q) None ≡ Some rest → y ∷ q ≡ x ∷ p ++ rest
    by true same later e = λ i. sym (same_name x y same) i ∷ later e i
    by false other later e = absurd (cc)

-- nothing stands below what is absent
pub gap_below : (t : Tree) → IsTree t → (p q : Path) → t p ≡ None → t (p ++ q) ≡ None
gap_below t tree p [] none = ap t (append-nil p) ∙ none
gap_below t tree p (name ∷ q) none =
    ap t (sym (append_assoc p (name ∷ []) q)) ∙ gap_below t tree (p ++ name ∷ []) q (by (t (p ++ name ∷ [])) refl)
  where
    by : (o : Option Entry) → t (p ++ name ∷ []) ≡ o → o ≡ None
    by None e = refl
    by (Some entry) e = let folder : None ≡ Some Folder = sym none ∙ tree.above p name (ap is_some e) in absurd (cc)
