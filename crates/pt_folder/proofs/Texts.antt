-- The texts of names and of paths.
use Rattle.std.proofs.Common.{◌≡◌, ℕ, List, [], ◌∷◌, ◌++◌, ◌≤◌, length, arith, ◌∙◌, ap, sym, subst, append-nil, true, false, ◌==◌}
use Rattle.std.specs.Prelude.{Result, Ok, Err}
use Rattle.std.specs.Prelude.{◌↔◌, IsErrOf}
use Rattle.std.specs.Result.{IsErrAnd}
use Rattle.pt_tree.specs.declared.faults.TreeFault.{TreeFault}
use Rattle.pt_tree.specs.declared.faults.TreeFault.TheVariants.{Device, Memory}
use Rattle.std.specs.Str.{IsUtf8, is_utf8}
use Rattle.std.specs.Prelude.{slice_index}
use Rattle.std.specs.String.Boundary.{IsSplitPoint}
use Rattle.std.proofs.Math.Seq.{get_or-append_seam}
use Rattle.std.proofs.lemmas.Str.{IsCharBoundary-start, IsUtf8-append, IsUtf8-from_is_utf8}
use Rattle.pt_tree.specs.Path.{Path, joined}
use Rattle.pt_tree.proofs.Texts.{is_utf8-slash}
use Rattle.pt_folder.specs.Folder.{entry_text}

-- the path of an entry is a text where the folder's is one and its names are
pub entry_is_text : (folder text : List ℕ) (p : Path) → text ≡ entry_text folder p → IsUtf8 folder → is_utf8 (joined p) ≡ true → IsUtf8 text
entry_is_text folder text p is whole names =
    let slash = IsUtf8-from_is_utf8 (47 ∷ []) is_utf8-slash in
    let behind : IsUtf8 ((47 ∷ []) ++ joined p) = IsUtf8-append (47 ∷ []) (joined p) slash (IsUtf8-from_is_utf8 (joined p) names) in
    subst (λ (l : List ℕ). IsUtf8 l) (sym is) (IsUtf8-append folder (47 ∷ joined p) whole behind)

-- a text may be cut before a text that follows it
pub cut_before : (front name bytes : List ℕ) (n : ℕ) → IsUtf8 name → bytes ≡ front ++ name → n ≡ length front → n ≤ length bytes → IsSplitPoint bytes n
cut_before front [] bytes n text is at within =
    let whole : length bytes ≡ n = ap length is ∙ ap length (append-nil front) ∙ sym at in
    (within, λ _ short. absurd (omega arith))
cut_before front (b ∷ name) bytes n text is at within =
    let here : slice_index bytes n ≡ b = rw (is, at) (get_or-append_seam front b name 0) in
    let begins = IsCharBoundary-start (b ∷ name) text in
    (within, λ _ _ high. rw here (begins.1 (omega arith) (rw here at high)))

-- whether a text has no bytes, by the test
pub zero_is : (n : ℕ) → (n == 0) ≡ true → n ≡ 0
zero_is n is = grind (arith, is)

pub not_zero : (n : ℕ) → (n == 0) ≡ false → n ≡ 0 → ⊥
not_zero n some none = grind (arith, some, none)

-- a growth that was refused isn't a failure of the device
pub never_device : {T : Type 0} (r : Result T TreeFault) (n : ℕ) → IsErrAnd r (λ y. y ≡ Memory) → (n ≡ 0 → ⊥) → IsErrOf r Device ↔ (n ≡ 0)
never_device (Ok x) n bad some = absurd bad
never_device (Err y) n is some = (λ device. absurd (cc), λ none. absurd (some none))
