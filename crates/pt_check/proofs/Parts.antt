-- The reasons that are told of a folder, one after another.
use Rattle.std.proofs.Common.{◌≡◌, ◌<◌, ◌+◌, ◌∙◌, ℕ, List, [], ◌∷◌, ◌++◌, String, refl, sym, ap, subst, get_or, length, map, string_bytes, take}
use Rattle.std.proofs.lemmas.List.{map_more}
use Rattle.std.specs.Global.{Global}
use Rattle.pt_check.specs.Lines.{Unreadable}
use Rattle.pt_check.specs.Visits.{CheckState, Tells, TellsEach}
use Rattle.pt_tree.specs.Path.{Path}

-- one reason more
each_more : (path : Path) (reasons : List (List ℕ)) (reason : List ℕ) (a m b : CheckState) → TellsEach path reasons a m → Tells (Unreadable path reason) m b
    → TellsEach path (reasons ++ reason ∷ []) a b
each_more path [] reason a m b same tells = (b, subst (λ (s : CheckState). Tells (Unreadable path reason) s b) same tells, refl)
each_more path (x ∷ xs) reason a m b (n, first, each) tells = (n, first, each_more path xs reason n m b each tells)

-- the next of them was told
pub each_step : (path : Path) (reasons : List (String Global)) (i : ℕ) (reason d : String Global) (text : List ℕ) (a m b : CheckState) → i < length reasons
    → reason ≡ get_or reasons i d
    → text ≡ string_bytes reason → TellsEach path (map (λ r. string_bytes r) (take i reasons)) a m → Tells (Unreadable path text) m b
    → TellsEach path (map (λ r. string_bytes r) (take (i + 1) reasons)) a b
each_step path reasons i reason d text a m b within is text_is each tells =
    let same : text ≡ string_bytes (get_or reasons i d) = text_is ∙ ap (λ (r : String Global). string_bytes r) is in
    let told = subst (λ (l : List ℕ). Tells (Unreadable path l) m b) same tells in
    subst (λ (l : List (List ℕ)). TellsEach path l a b) (sym (map_more (λ (r : String Global). string_bytes r) reasons i d within))
    (each_more path (map (λ r. string_bytes r) (take i reasons)) (string_bytes (get_or reasons i d)) a m b each told)
