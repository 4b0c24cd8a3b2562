-- Names joined with `/` between them, one after another, and two paths of one text.
use Rattle.std.proofs.Common.{
  ◌≡◌,
  ℕ,
  List,
  [],
  ◌∷◌,
  ◌++◌,
  ◌+◌,
  ◌<◌,
  ◌⊎◌,
  inl,
  inr,
  length,
  take,
  get_or,
  refl,
  arith,
  ◌∙◌,
  ap,
  sym,
  append_assoc,
  subst,
  zero,
  suc,
}
use Rattle.std.specs.Prelude.{◌==◌, ◌||◌, Bool, true, false, cond, nat_lt, Some, None, is_none}
use Rattle.std.specs.List.{list_any}
use Rattle.std.specs.Str.{bytes_eq, is_utf8}
use Rattle.std.proofs.lemmas.Bool.{or_parts}
use Rattle.std.proofs.lemmas.List.{take_more}
use Rattle.std.proofs.lemmas.List.Elements.{All-head, All-tail}
use Rattle.pt_tree.specs.Name.{AreNames, is_forbidden_name, is_name}
use Rattle.pt_tree.specs.declared.name.NameFault.TheVariants as fault
use Rattle.pt_tree.specs.Path.{Path, joined}

pub joined-push : (x : List ℕ) (names : Path) (n : List ℕ) → joined ((x ∷ names) ++ n ∷ []) ≡ joined (x ∷ names) ++ 47 ∷ n
joined-push x [] n = refl
joined-push x (y ∷ names) n = ap (λ (l : List ℕ). x ++ 47 ∷ l) (joined-push y names n) ∙ sym (append_assoc x (47 ∷ joined (y ∷ names)) (47 ∷ n))

-- a name comes behind a slash, but for the first
pub joined_more : (names : Path) (i : ℕ) (n text before : List ℕ) → i < length names → n ≡ get_or names i n → text ≡ joined (take i names)
    → ((0 < i) × (before ≡ text ++ 47 ∷ [])) ⊎ ((i ≡ 0) × (before ≡ text)) → before ++ n ≡ joined (take (i + 1) names)
joined_more names i n text before within is so_far how =
    let more : take (i + 1) names ≡ take i names ++ n ∷ [] = take_more names i n within ∙ ap (λ (m : List ℕ). take i names ++ m ∷ []) (sym is) in
    elim how [
      | inl later ↦ after_first names i n text before within so_far later ∙ sym (ap joined more)
      | inr first ↦
          let none : take i names ≡ [] = ap (λ k. take k names) first.0 ∙ refl in
          let start : before ≡ [] = first.1 ∙ so_far ∙ ap joined none in
          ap (λ (l : List ℕ). l ++ n) start ∙ sym (ap joined (more ∙ ap (λ (l : Path). l ++ n ∷ []) none))
    ]
  where
    after_first : (names : Path) (i : ℕ) (n text before : List ℕ) → i < length names → text ≡ joined (take i names) → (0 < i) × (before ≡ text ++ 47 ∷ [])
        → before ++ n ≡ joined (take i names ++ n ∷ [])
    after_first [] i n text before within so_far later = absurd (omega arith)
    after_first (x ∷ names) zero n text before within so_far later = absurd (omega arith)
    after_first (x ∷ names) (suc i) n text before within so_far later =
        ap (λ (l : List ℕ). l ++ n) (later.1 ∙ ap (λ (l : List ℕ). l ++ 47 ∷ []) so_far) ∙ append_assoc (joined (x ∷ take i names)) (47 ∷ []) n
        ∙ sym (joined-push x (take i names) n)

-- ---- two paths of names whose texts are the same

abbrev has_slash : List ℕ → Bool
has_slash = list_any (λ b. b == 47)

pub no_slash : (n : List ℕ) → is_name n ≡ true → has_slash n ≡ false
no_slash n is =
    let all = forbidden (length n == 0) (nat_lt 255 (length n)) (is_utf8 n) (is_forbidden_name n) is in
    first (has_slash n) (list_any (λ b. b == 0) n) (bytes_eq n (46 ∷ [])) (bytes_eq n (46 ∷ 46 ∷ [])) all
  where
    forbidden : (a b c d : Bool) → is_none (cond a (Some fault.Empty) (cond b (Some fault.TooLong)
        (cond c (cond d (Some fault.Forbidden) None) (Some fault.NotUtf8)))) ≡ true → d ≡ false
    forbidden true b c d is = absurd (cc)
    forbidden false true c d is = absurd (cc)
    forbidden false false false d is = absurd (cc)
    forbidden false false true true is = absurd (cc)
    forbidden false false true false is = refl

    first : (a b c d : Bool) → (a || b || c || d) ≡ false → a ≡ false
    first true b c d is = absurd (cc)
    first false b c d is = refl

no_name : is_name [] ≡ true → ⊥
no_name is = absurd (cc)

slashed : (c : ℕ) (x : List ℕ) → has_slash (c ∷ x) ≡ false → c ≡ 47 → ⊥
slashed c x is e = let first : has_slash (47 ∷ x) ≡ false = subst (λ k. has_slash (k ∷ x) ≡ false) e is in absurd (cc)

later : (c : ℕ) (x : List ℕ) → has_slash (c ∷ x) ≡ false → has_slash x ≡ false
later c x is = (or_parts (c == 47) (has_slash x) is).1

-- a text is cut at its first slash in one way
cut_once : (x y a b : List ℕ) → has_slash x ≡ false → has_slash y ≡ false → x ++ 47 ∷ a ≡ y ++ 47 ∷ b → (x ≡ y) × (a ≡ b)
cut_once [] [] a b p q is = (refl, cc)
cut_once [] (c ∷ y) a b p q is = absurd (slashed c y q cc)
cut_once (c ∷ x) [] a b p q is = absurd (slashed c x p cc)
cut_once (c ∷ x) (d ∷ y) a b p q is =
    let rest = cut_once x y a b (later c x p) (later d y q) cc in
    let same : c ≡ d = cc in
    (ap (λ (k : ℕ). k ∷ x) same ∙ ap (λ (l : List ℕ). d ∷ l) rest.0, rest.1)

-- a text without a slash isn't one with a slash
whole : (x y b : List ℕ) → has_slash x ≡ false → x ≡ y ++ 47 ∷ b → ⊥
whole [] [] b p is = absurd (cc)
whole [] (c ∷ y) b p is = absurd (cc)
whole (c ∷ x) [] b p is = slashed c x p cc
whole (c ∷ x) (d ∷ y) b p is = whole x y b (later c x p) cc

abbrev Named : List ℕ → Type 0
Named n = is_name n ≡ true

pub joined_once : (p q : Path) → AreNames p → AreNames q → joined p ≡ joined q → p ≡ q
joined_once [] [] np nq is = refl
joined_once [] (y ∷ []) np nq is = absurd (no_name (subst (λ n. is_name n ≡ true) (sym is) (All-head Named y [] nq)))
joined_once [] (y ∷ z ∷ q) np nq is = absurd (whole [] y (joined (z ∷ q)) refl is)
joined_once (x ∷ []) [] np nq is = absurd (no_name (subst (λ n. is_name n ≡ true) is (All-head Named x [] np)))
joined_once (x ∷ w ∷ p) [] np nq is = absurd (whole [] x (joined (w ∷ p)) refl (sym is))
joined_once (x ∷ []) (y ∷ []) np nq is = ap (λ (n : List ℕ). n ∷ []) is
joined_once (x ∷ []) (y ∷ z ∷ q) np nq is = absurd (whole x y (joined (z ∷ q)) (no_slash x (All-head Named x [] np)) is)
joined_once (x ∷ w ∷ p) (y ∷ []) np nq is = absurd (whole y x (joined (w ∷ p)) (no_slash y (All-head Named y [] nq)) (sym is))
joined_once (x ∷ w ∷ p) (y ∷ z ∷ q) np nq is =
    let cut = cut_once x y (joined (w ∷ p)) (joined (z ∷ q)) (no_slash x (All-head Named x (w ∷ p) np)) (no_slash y (All-head Named y (z ∷ q) nq)) is in
    let rest = joined_once (w ∷ p) (z ∷ q) (All-tail Named x (w ∷ p) np) (All-tail Named y (z ∷ q) nq) cut.1 in
    ap (λ (n : List ℕ). n ∷ w ∷ p) cut.0 ∙ ap (λ (l : Path). y ∷ l) rest
