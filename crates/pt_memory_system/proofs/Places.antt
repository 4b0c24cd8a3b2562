-- Which folder a path leads to.
use Rattle.std.proofs.Common.{◌≡◌, ◌∷◌, ◌∙◌, ℕ, List, ap, arith, length, sym, take}
use Rattle.std.proofs.Math.Seq.{take-append_seam, take-append-le, take-take}
use Rattle.std.specs.Prelude.{min}
use Rattle.pt_folder.specs.Folder.{entry_text}
use Rattle.pt_tree.specs.Path.{Path, joined}
use Rattle.pt_memory_system.specs.Folders.{AreApart}

-- the path of an entry begins with the folder's
pub begins : (folder text : List ℕ) (p : Path) → text ≡ entry_text folder p → take (length folder) text ≡ folder
begins folder text p is = ap (take (length folder)) is ∙ take-append_seam folder (47 ∷ joined p)

-- and as far as both paths go, with no other folder's
pub not_both : (read written text : List ℕ) (p : Path) → AreApart read written → take (length read) text ≡ read
    → text ≡ entry_text written p → ⊥
not_both read written text p apart here is =
    let n = min (length read) (length written) in
    apart (ap (take n) (sym here) ∙ take-take n (length read) text (omega arith) ∙ ap (take n) is
    ∙ take-append-le n written (47 ∷ joined p) (omega arith))
