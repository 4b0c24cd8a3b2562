-- The names of a path with a slash before each.
use Rattle.std.proofs.Common.{◌≡◌, ℕ, List, [], ◌∷◌, ◌++◌, ◌+◌, ◌<◌, length, take, get_or, ◌∙◌, ap, refl, sym, append-nil}
use Rattle.std.specs.List.{flat_map}
use Rattle.std.proofs.lemmas.List.{flat_map_more, take_more}
use Rattle.pt_tree.specs.Path.{Path, joined}
use Rattle.pt_folder.specs.Folder.{entry_text}

abbrev pub slashed : Path → List ℕ
slashed = flat_map (λ name. 47 ∷ name)

-- one name more, behind some bytes
pub slashed_more : (front : List ℕ) (p : Path) (i : ℕ) (name : List ℕ) → i < length p → name ≡ get_or p i name
    → (front ++ slashed (take i p)) ++ 47 ∷ name ≡ front ++ slashed (take (i + 1) p)
slashed_more front p i name within is =
    flat_map_more (λ n. 47 ∷ n) front (take i p) name ∙ ap (λ (q : Path). front ++ slashed q) (ap (λ n. take i p ++ n ∷ []) is
    ∙ sym (take_more p i name within))

-- of a path below the top that is a slash and its text
slashed-below : (x : List ℕ) (p : Path) → slashed (x ∷ p) ≡ 47 ∷ joined (x ∷ p)
slashed-below x [] = ap (λ (l : List ℕ). 47 ∷ l) (append-nil x)
slashed-below x (y ∷ p) = ap (λ (l : List ℕ). 47 ∷ x ++ l) (slashed-below y p)

pub slashed_text : (folder : List ℕ) (p : Path) → (length p ≡ 0 → ⊥) → folder ++ slashed p ≡ entry_text folder p
slashed_text folder [] below = absurd (below refl)
slashed_text folder (x ∷ p) below = ap (λ (l : List ℕ). folder ++ l) (slashed-below x p)

pub slashed_top : (folder : List ℕ) (p : Path) → length p ≡ 0 → (folder ++ slashed p) ++ 47 ∷ [] ≡ entry_text folder p
slashed_top folder [] top = ap (λ (l : List ℕ). l ++ 47 ∷ []) (append-nil folder)
slashed_top folder (x ∷ p) top = absurd (cc)
