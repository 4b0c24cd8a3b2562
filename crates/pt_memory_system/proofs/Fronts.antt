-- What stands behind the text of a folder.
use Rattle.std.proofs.Common.{◌≡◌, ℕ, List, ◌∷◌, ap, ◌∙◌, take, drop}
use Rattle.std.specs.Prelude.{length}
use Rattle.std.proofs.Math.Seq.{drop-append_seam, take-append_seam}
use Rattle.pt_tree.specs.Path.{Path, joined}
use Rattle.pt_folder.specs.Folder.{entry_text}

-- the text behind the root and its slash
pub behind : (root text : List ℕ) (p : Path) → text ≡ entry_text root p → drop (length root) text ≡ 47 ∷ joined p
behind root text p is = ap (drop (length root)) is ∙ drop-append_seam root (47 ∷ joined p)

pub other_front : (root text front : List ℕ) (p : Path) → front ≡ take (length root) text → text ≡ entry_text root p → front ≡ root
other_front root text front p is at = is ∙ ap (take (length root)) at ∙ take-append_seam root (47 ∷ joined p)

pub rest_is : (root text rest names : List ℕ) (p : Path) → rest ≡ drop (length root) text → names ≡ drop 1 rest → text ≡ entry_text root p → names ≡ joined p
rest_is root text rest names p is named at = named ∙ ap (drop 1) (is ∙ behind root text p at)
