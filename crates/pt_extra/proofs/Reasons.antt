-- The reasons that are told of a folder, one after another.
use Rattle.std.proofs.Common.{◌≡◌, ◌<◌, ◌+◌, ◌∙◌, ℕ, List, [], ◌∷◌, ◌++◌, String, sym, ap, subst, drop, get_or, length, map, string_bytes, take}
use Rattle.std.proofs.lemmas.List.{map-append, map_more, take-append-drop}
use Rattle.std.specs.Global.{Global}
use Rattle.std.specs.Prelude.{Option}
use Rattle.pt_extra.proofs.Telling.{front_more, front_on, puts_on, texts_on}
use Rattle.pt_extra.specs.Lines.{ExtraFinding, Unlisted, texts}
use Rattle.pt_extra.specs.Unlisted.{of_unlisted}
use Rattle.pt_extra.specs.Walk.{Puts, WalkState}
use Rattle.pt_tree.specs.Log.{AppendsFront}
use Rattle.pt_tree.specs.Path.{Path}

each_on : (path : Path) (xs ys : List (List ℕ)) → of_unlisted path (xs ++ ys) ≡ of_unlisted path xs ++ of_unlisted path ys
each_on path xs ys = map-append (λ reason. Unlisted reason path) xs ys

-- the first so many and one more
one_more_is : (path : Path) (reasons : List (String Global)) (i : ℕ) (reason d : String Global) (text : List ℕ) → i < length reasons
    → reason ≡ get_or reasons i d → text ≡ string_bytes reason
    → of_unlisted path (map (λ r. string_bytes r) (take i reasons)) ++ Unlisted text path ∷ []
    ≡ of_unlisted path (map (λ r. string_bytes r) (take (i + 1) reasons))
one_more_is path reasons i reason d text within is text_is =
    ap (λ (l : List ℕ). of_unlisted path (map (λ r. string_bytes r) (take i reasons)) ++ Unlisted l path ∷ [])
    (text_is ∙ ap (λ (r : String Global). string_bytes r) is)
    ∙ sym (each_on path (map (λ r. string_bytes r) (take i reasons)) (string_bytes (get_or reasons i d) ∷ []))
    ∙ ap (of_unlisted path) (sym (map_more (λ (r : String Global). string_bytes r) reasons i d within))

-- the next of them was told
pub each_step : (path : Path) (reasons : List (String Global)) (i : ℕ) (reason d : String Global) (text : List ℕ) (a m b : WalkState) → i < length reasons
    → reason ≡ get_or reasons i d → text ≡ string_bytes reason → Puts (of_unlisted path (map (λ r. string_bytes r) (take i reasons))) a m
    → Puts (Unlisted text path ∷ []) m b → Puts (of_unlisted path (map (λ r. string_bytes r) (take (i + 1) reasons))) a b
each_step path reasons i reason d text a m b within is text_is first one =
    subst (λ (l : List ExtraFinding). Puts l a b) (one_more_is path reasons i reason d text within is text_is)
    (puts_on (of_unlisted path (map (λ r. string_bytes r) (take i reasons))) (Unlisted text path ∷ []) a m b first one)

-- it broke off at the next
pub each_front : (path : Path) (reasons : List (String Global)) (i : ℕ) (reason d : String Global) (text : List ℕ) (a m : WalkState) (end : Option (List ℕ))
    → i < length reasons → reason ≡ get_or reasons i d → text ≡ string_bytes reason
    → Puts (of_unlisted path (map (λ r. string_bytes r) (take i reasons))) a m → AppendsFront m.held end (texts (Unlisted text path ∷ []))
    → AppendsFront a.held end (texts (of_unlisted path (map (λ r. string_bytes r) reasons)))
each_front path reasons i reason d text a m end within is text_is first part =
    let firsts = of_unlisted path (map (λ r. string_bytes r) (take i reasons)) in
    let one = Unlisted text path ∷ [] in
    let rest = of_unlisted path (map (λ r. string_bytes r) (drop (i + 1) reasons)) in
    let whole : (firsts ++ one) ++ rest ≡ of_unlisted path (map (λ r. string_bytes r) reasons) =
    ap (λ (l : List ExtraFinding). l ++ rest) (one_more_is path reasons i reason d text within is text_is)
    ∙ sym (each_on path (map (λ r. string_bytes r) (take (i + 1) reasons)) (map (λ r. string_bytes r) (drop (i + 1) reasons)))
    ∙ ap (of_unlisted path) (sym (map-append (λ (r : String Global). string_bytes r) (take (i + 1) reasons) (drop (i + 1) reasons))
    ∙ ap (map (λ r. string_bytes r)) (take-append-drop (i + 1) reasons)) in
    subst (λ (l : List ExtraFinding). AppendsFront a.held end (texts l)) whole
    (subst (AppendsFront a.held end) (sym (texts_on (firsts ++ one) rest))
    (front_more a.held end (texts (firsts ++ one)) (texts rest)
    (subst (AppendsFront a.held end) (sym (texts_on firsts one)) (front_on a.held m.held end (texts firsts) (texts one) first.held part))))
