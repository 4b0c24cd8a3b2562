-- Two open files that were alike so far.
use Rattle.std.proofs.Common.{◌≡◌, ◌≢◌, ◌∙◌, ◌==◌, ℕ, List, [], ◌∷◌, ◌++◌, Bool, true, false, refl, sym, ap, take, drop, length}
use Rattle.std.specs.Prelude.{Option, Some}
use Rattle.std.specs.Option.{option_map, ForSome}
use Rattle.std.specs.Str.{bytes_eq}
use Rattle.std.specs.Cmp.Lexicographic.{other_text, same_text}
use Rattle.std.proofs.lemmas.Bool.{true≢false}
use Rattle.std.proofs.lemmas.List.{append_cancel_left, take-append-drop}
use Rattle.pt_compare.specs.Bytes.{left_in}
use Rattle.pt_compare.specs.Meeting.{TellsAlike}
use Rattle.pt_compare.proofs.Passed.{block_is, ends_as, left_next, not_zero}
use Rattle.pt_tree.specs.Source.{IsRead, Reading, after_next}

-- what is left of both is alike just where all was
pub record AlikeSoFar (s r : List ℕ) (source root : Option Reading) : Type 0 where
  pub a : List ℕ
  pub b : List ℕ
  pub source_is : left_in source ≡ Some a
  pub root_is : left_in root ≡ Some b
  pub same : bytes_eq r s ≡ bytes_eq b a

unfoldable pub SoFar : Option Reading → Option Reading → Option Reading → Option Reading → Type 0
SoFar s r source root = ForSome (left_in s) (λ x. ForSome (left_in r) (λ y. AlikeSoFar x y source root))

pub so_far_start : (s r : Option Reading) → SoFar s r s r
unfolding SoFar
so_far_start s r = λ x is y are. record { a = x; b = y; source_is = is; root_is = are; same = refl }

behind_same : (a x y : List ℕ) → bytes_eq (a ++ x) (a ++ y) ≡ bytes_eq x y
behind_same a x y = on (bytes_eq x y) refl (bytes_eq (a ++ x) (a ++ y)) refl
  where
    on : (b : Bool) → bytes_eq x y ≡ b → (c : Bool) → bytes_eq (a ++ x) (a ++ y) ≡ c → c ≡ b
    on true is true are = refl
    on false is false are = refl
    on true is false are = absurd (other_text (a ++ x) (a ++ y) (sym are) (ap (λ (l : List ℕ). a ++ l) (same_text x y (sym is))))
    on false is true are = absurd (other_text x y (sym is) (append_cancel_left a x y (same_text (a ++ x) (a ++ y) (sym are))))

pub so_far_next : (s r now_s now_r new_s new_r : Option Reading) (block other : List ℕ) → SoFar s r now_s now_r → IsRead now_s block → IsRead now_r other
    → new_s ≡ option_map after_next now_s → new_r ≡ option_map after_next now_r → other ≡ block → SoFar s r new_s new_r
unfolding SoFar
so_far_next s r now_s now_r new_s new_r block other so_far read_s read_r moved_s moved_r alike = λ x is y are.
    let p = so_far x is y are in
    let front_a : take 8192 p.a ≡ block = block_is now_s p.a block read_s p.source_is in
    let front_b : take 8192 p.b ≡ block = block_is now_r p.b other read_r p.root_is ∙ alike in
    let a_is : p.a ≡ block ++ drop 8192 p.a = sym (take-append-drop 8192 p.a) ∙ ap (λ (l : List ℕ). l ++ drop 8192 p.a) front_a in
    let b_is : p.b ≡ block ++ drop 8192 p.b = sym (take-append-drop 8192 p.b) ∙ ap (λ (l : List ℕ). l ++ drop 8192 p.b) front_b in
    record {
      a = drop 8192 p.a;
      b = drop 8192 p.b;
      source_is = ap left_in moved_s ∙ left_next now_s ∙ ap (option_map (drop 8192)) p.source_is;
      root_is = ap left_in moved_r ∙ left_next now_r ∙ ap (option_map (drop 8192)) p.root_is;
      same = p.same ∙ (λ i. bytes_eq (b_is i) (a_is i)) ∙ behind_same block (drop 8192 p.b) (drop 8192 p.a);
    }

pub so_far_differ : (s r now_s now_r : Option Reading) (block other : List ℕ) → SoFar s r now_s now_r → IsRead now_s block → IsRead now_r other → other ≢ block
    → TellsAlike s r false
unfolding SoFar TellsAlike
so_far_differ s r now_s now_r block other so_far read_s read_r differ = λ x is y are.
    let p = so_far x is y are in
    sym (p.same ∙ on p.b p.a (block_is now_r p.b other read_r p.root_is) (block_is now_s p.a block read_s p.source_is) (bytes_eq p.b p.a) refl)
  where
    on : (b a : List ℕ) → take 8192 b ≡ other → take 8192 a ≡ block → (c : Bool) → bytes_eq b a ≡ c → c ≡ false
    on b a front_b front_a false is = refl
    on b a front_b front_a true is = absurd (differ (sym front_b ∙ ap (take 8192) (same_text b a (sym is)) ∙ front_a))

pub so_far_end : (s r now_s now_r : Option Reading) (block other : List ℕ) → SoFar s r now_s now_r → IsRead now_s block → IsRead now_r other → other ≡ block
    → true ≡ (length block == 0) → TellsAlike s r true
unfolding SoFar TellsAlike
so_far_end s r now_s now_r block other so_far read_s read_r alike ends = λ x is y are.
    let p = so_far x is y are in
    let a_none = none_left p.a (ends ∙ ends_as block p.a (block_is now_s p.a block read_s p.source_is)) in
    let b_none = none_left p.b (ends ∙ ap (λ (l : List ℕ). length l == 0) (sym alike) ∙ ends_as other p.b (block_is now_r p.b other read_r p.root_is)) in
    sym (p.same ∙ (λ i. bytes_eq (b_none i) (a_none i)))
  where
    none_left : (l : List ℕ) → true ≡ (length l == 0) → l ≡ []
    none_left [] test = refl
    none_left (x ∷ l) test = absurd (true≢false (test ∙ not_zero (length l)))
