-- The last of a list is the first of its reverse.
use Rattle.std.proofs.Common.{◌≡◌, ℕ, List, [], ◌∷◌, ◌++◌, ◌-◌, length, get_or, set, take, drop, arith, ◌∙◌, ap, sym, length-append, inl, inr}
use Rattle.std.specs.Prelude.{reverse}
use Rattle.std.proofs.lemmas.Bool.{cases_lt}
use Rattle.std.proofs.lemmas.List.{length-drop, length-reverse, reverse-append, reverse-reverse, take-append-drop, take_all, take_at}
use Rattle.std.proofs.Math.Seq.{set-append_seam, get_or-append_seam, take-append_seam, take-nil}
use Rattle.pt_walk.specs.declared.frame.Frame.{Frame}
use Rattle.pt_walk.specs.Trail.{names_to, parent, trail_path}

from_reverse : {X : Type 0} → (xs : List X) (f : X) (fs : List X) → reverse xs ≡ f ∷ fs → xs ≡ reverse fs ++ f ∷ []
from_reverse xs f fs e = sym (reverse-reverse xs) ∙ ap reverse e ∙ reverse-append (f ∷ []) fs

last_index : {X : Type 0} → (n : ℕ) (xs : List X) (f : X) (fs : List X) → n ≡ length xs → reverse xs ≡ f ∷ fs → n - 1 ≡ length (reverse fs)
last_index n xs f fs len e =
    let whole = len ∙ ap length (from_reverse xs f fs e) ∙ length-append (reverse fs) (f ∷ []) in
    omega (arith, whole)

-- reading it
pub get_or-last : {X : Type 0} → (n : ℕ) (xs : List X) (f : X) (fs : List X) (d : X) → n ≡ length xs → reverse xs ≡ f ∷ fs → get_or xs (n - 1) d ≡ f
get_or-last n xs f fs d len e =
    ap (λ i. get_or xs i d) (last_index n xs f fs len e) ∙ ap (λ l. get_or l (length (reverse fs)) d) (from_reverse xs f fs e)
    ∙ get_or-append_seam (reverse fs) f [] d

-- writing it
pub reverse-set_last : {X : Type 0} → (n : ℕ) (xs : List X) (f : X) (fs : List X) (g : X) → n ≡ length xs → reverse xs ≡ f ∷ fs
    → reverse (set xs (n - 1) g) ≡ g ∷ fs
reverse-set_last n xs f fs g len e =
    let written = ap (λ i. set xs i g) (last_index n xs f fs len e) ∙ ap (λ l. set l (length (reverse fs)) g) (from_reverse xs f fs e)
    ∙ set-append_seam (reverse fs) f [] g in
    ap reverse written ∙ reverse-append (reverse fs) (g ∷ []) ∙ ap (λ l. g ∷ l) (reverse-reverse fs)

-- all but it
reverse-take_front : (n : ℕ) (xs trail : List Frame) → n ≡ length xs → reverse xs ≡ trail → reverse (take (n - 1) xs) ≡ parent trail
reverse-take_front n xs [] len e =
    let none : xs ≡ [] = sym (reverse-reverse xs) ∙ ap reverse e in
    ap (λ (l : List Frame). reverse (take (n - 1) l)) none ∙ ap reverse (take-nil (n - 1))
reverse-take_front n xs (f ∷ fs) len e =
    let front = ap (λ i. take i xs) (last_index n xs f fs len e) ∙ ap (λ l. take (length (reverse fs)) l) (from_reverse xs f fs e)
    ∙ take-append_seam (reverse fs) (f ∷ []) in
    ap reverse front ∙ reverse-reverse fs

-- the names at the places of all but it
pub names_to-front : (n : ℕ) (frames trail : List Frame) → n ≡ length frames → reverse frames ≡ trail
    → names_to (reverse (take (n - 1) frames)) ≡ trail_path trail
names_to-front n frames trail len view = ap names_to (reverse-take_front n frames trail len view)

-- the last so many are the first of the reverse
reverse-drop : {X : Type 0} → (k : ℕ) (xs : List X) → reverse (drop (length xs - k) xs) ≡ take k (reverse xs)
reverse-drop k xs =
    let m = length xs - k in
    let parts : reverse xs ≡ reverse (drop m xs) ++ reverse (take m xs) = ap reverse (sym (take-append-drop m xs)) ∙ reverse-append (take m xs) (drop m xs) in
    let long = length-reverse (drop m xs) ∙ length-drop m xs in
    elim (cases_lt k (length xs)) [
      | inl few ↦ sym (ap (λ l. take k l) parts ∙ take_at (reverse (drop m xs)) (reverse (take m xs)) k (omega (arith, long, few)))
      | inr all ↦
          let none : m ≡ 0 = omega (arith, all) in
          let whole = length-reverse xs in
          ap (λ i. reverse (drop i xs)) none ∙ sym (take_all k (reverse xs) (omega (arith, whole, all)))
    ]

-- the names at the places of the innermost
pub names_to-inner : (n k : ℕ) (frames trail : List Frame) → n ≡ length frames → reverse frames ≡ trail
    → names_to (reverse (drop (n - k) frames)) ≡ names_to (take k trail)
names_to-inner n k frames trail len view = ap (λ i. names_to (reverse (drop (i - k) frames))) len ∙ ap names_to (reverse-drop k frames)
    ∙ ap (λ l. names_to (take k l)) view
