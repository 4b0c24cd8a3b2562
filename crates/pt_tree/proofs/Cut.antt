-- The names that are cut out of a path's text are the path's.
use Rattle.std.proofs.Common.{
  ◌≡◌,
  inl,
  inr,
  ℕ,
  Bool,
  true,
  false,
  List,
  [],
  ◌∷◌,
  ◌++◌,
  ◌==◌,
  refl,
  sym,
  ap,
  ◌∙◌,
  cond,
  append_assoc,
  take,
  drop,
  get_or,
  arith,
  ◌<◌,
  ◌≤◌,
  ◌+◌,
  zero,
  suc,
  add-one,
  subst,
}
use Rattle.std.specs.Prelude.{◌||◌, nat_lt, length, Option, None, Some, Result, Err, IfErr, is_none}
use Rattle.std.specs.List.{list_any, position, position_or_len}
use Rattle.std.proofs.lemmas.Bool.{cond-true, cond-false}
use Rattle.std.proofs.lemmas.List.Elements.{All-head, All-tail}
use Rattle.std.proofs.lemmas.List.Quantifiers.{position-Some}
use Rattle.std.proofs.lemmas.List.Sums.{fails_before_first}
use Rattle.pt_tree.proofs.Joining.{no_slash}
use Rattle.pt_tree.specs.Name.{AreNames, is_name, name_refusal}
use Rattle.pt_tree.specs.Path.{Path, joined}
use Rattle.pt_tree.specs.Pieces.{IsRefusal, earlier, first_refusal, names_in, onto, pieces}
use Rattle.pt_tree.specs.declared.name.NameFault.{NameFault}

-- a name without a slash is one piece, and ends before a slash
one_piece : (x : List ℕ) → list_any (λ b. b == 47) x ≡ false → pieces x ≡ x ∷ []
one_piece [] h = refl
one_piece (b ∷ x) h = by (λ h. one_piece x h) (b == 47) refl h
  where
    by : (list_any (λ b. b == 47) x ≡ false → pieces x ≡ x ∷ []) → (t : Bool) → (b == 47) ≡ t → (t || list_any (λ b. b == 47) x) ≡ false
        → cond t ([] ∷ pieces x) (onto (b ∷ []) (pieces x)) ≡ (b ∷ x) ∷ []
    by later true is h = absurd (cc)
    by later false is h = ap (onto (b ∷ [])) (later h)

first_piece : (x ys : List ℕ) → list_any (λ b. b == 47) x ≡ false → pieces (x ++ 47 ∷ ys) ≡ x ∷ pieces ys
first_piece [] ys h = refl
first_piece (b ∷ x) ys h = by (λ h. first_piece x ys h) (b == 47) refl h
  where
    by : (list_any (λ b. b == 47) x ≡ false → pieces (x ++ 47 ∷ ys) ≡ x ∷ pieces ys) → (t : Bool) → (b == 47) ≡ t → (t || list_any (λ b. b == 47) x) ≡ false
        → cond t ([] ∷ pieces (x ++ 47 ∷ ys)) (onto (b ∷ []) (pieces (x ++ 47 ∷ ys))) ≡ (b ∷ x) ∷ pieces ys
    by later true is h = absurd (cc)
    by later false is h = ap (onto (b ∷ [])) (later h)

abbrev Named : List ℕ → Type 0
Named n = is_name n ≡ true

pieces-joined : (x : List ℕ) (p : Path) → AreNames (x ∷ p) → pieces (joined (x ∷ p)) ≡ x ∷ p
pieces-joined x [] h = one_piece x (no_slash x (All-head Named x [] h))
pieces-joined x (y ∷ p) h = first_piece x (joined (y ∷ p)) (no_slash x (All-head Named x (y ∷ p) h))
    ∙ ap (λ (q : Path). x ∷ q) (pieces-joined y p (All-tail Named x (y ∷ p) h))

no_empty : (p : Path) → AreNames ([] ∷ p) → ⊥
no_empty p h = let named : is_name [] ≡ true = All-head Named [] p h in absurd (cc)

-- the names are back
pub names_back : (p : Path) → AreNames p → names_in (joined p) ≡ p
names_back [] h = refl
names_back ([] ∷ p) h = absurd (no_empty p h)
names_back ((b ∷ x) ∷ []) h = pieces-joined (b ∷ x) [] h
names_back ((b ∷ x) ∷ y ∷ p) h = pieces-joined (b ∷ x) (y ∷ p) h

-- ---- a text is cut at its first slash

cut_from : (t : List ℕ) (i : ℕ) → i < length t → (get_or t i 0 == 47) ≡ true → ((k : ℕ) → k < i → (get_or t k 0 == 47) ≡ false)
    → pieces t ≡ take i t ∷ pieces (drop (suc i) t)
cut_from [] i within at before = absurd (omega (arith, within))
cut_from (b ∷ t) zero within at before = cond-true _ _ _ at
cut_from (b ∷ t) (suc i) within at before = cond-false _ _ _ (before 0 (omega arith))
    ∙ ap (onto (b ∷ [])) (cut_from t i (omega (arith, within)) at (λ k less. before (suc k) (omega (arith, less))))

cut_at : (t : List ℕ) (i : ℕ) → position (λ b. b == 47) t ≡ Some i → pieces t ≡ take i t ∷ pieces (drop (i + 1) t)
cut_at t i found =
    let facts = position-Some (λ b. b == 47) t i 0 found in
    cut_from t i facts.0 facts.1 facts.2 ∙ ap (λ n. take i t ∷ pieces (drop n t)) (sym (add-one i))

no_cut_from : (t : List ℕ) → ((k : ℕ) → k < length t → (get_or t k 0 == 47) ≡ false) → pieces t ≡ t ∷ []
no_cut_from [] none = refl
no_cut_from (b ∷ t) none = cond-false _ _ _ (none 0 (omega arith)) ∙ ap (onto (b ∷ [])) (no_cut_from t (λ k within. none (suc k) (omega (arith, within))))

no_cut : (t : List ℕ) → position (λ b. b == 47) t ≡ None → pieces t ≡ t ∷ []
no_cut t none = no_cut_from t (λ k within. fails_before_first (λ b. b == 47) t k 0 (omega (arith, far, within)))
  where
    past : (i n : ℕ) → cond (nat_lt i n) (Some i) None ≡ None → n ≤ i
    past i n same = grind (arith, same)

    far : length t ≤ position_or_len (λ b. b == 47) t
    far = past (position_or_len (λ b. b == 47) t) (length t) none

-- one more piece, and those behind it
pub added_more : (old mid new : Path) (t rest : List ℕ) (i : ℕ) → position (λ b. b == 47) t ≡ Some i → rest ≡ drop (i + 1) t → mid ≡ old ++ take i t ∷ []
    → new ≡ mid ++ pieces rest → new ≡ old ++ pieces t
added_more old mid new t rest i found left first next =
    next ∙ ap (λ (ys : List ℕ). mid ++ pieces ys) left ∙ ap (λ (p : Path). p ++ pieces (drop (i + 1) t)) first
    ∙ append_assoc old (take i t ∷ []) (pieces (drop (i + 1) t)) ∙ ap (λ (p : Path). old ++ p) (sym (cut_at t i found))

pub added_last : (old new : Path) (t : List ℕ) → position (λ b. b == 47) t ≡ None → new ≡ old ++ t ∷ [] → new ≡ old ++ pieces t
added_last old new t none is = is ∙ ap (λ (p : Path). old ++ p) (sym (no_cut t none))

-- what was added to no name
pub cut_whole : (t : List ℕ) → (length t == 0) ≡ false → pieces t ≡ names_in t
cut_whole [] some = absurd (cc)
cut_whole (b ∷ t) some = refl

pub cut_none : (t : List ℕ) → (length t == 0) ≡ true → [] ≡ names_in t
cut_none [] none = refl
cut_none (b ∷ t) none = absurd (grind (arith, none))

-- ---- what is refused

-- a fault of one name, as the first of several
refused_alone : (r rest : Option NameFault) (e : NameFault) → earlier r None ≡ Some e → earlier r rest ≡ Some e
refused_alone None rest e is = absurd (cc)
refused_alone (Some refusal) rest e is = is

-- that of the rest behind a name
refused_later : (r rest : Option NameFault) (e : NameFault) → is_none r ≡ true → rest ≡ Some e → earlier r rest ≡ Some e
refused_later None rest e named is = is
refused_later (Some refusal) rest e named is = absurd (cc)

pub refused_first : (t : List ℕ) (i : ℕ) (e : NameFault) → position (λ b. b == 47) t ≡ Some i → IsRefusal (take i t ∷ []) e → IsRefusal (pieces t) e
refused_first t i e found why = elim why [
  | inl memory ↦ inl memory
  | inr is ↦ inr (ap first_refusal (cut_at t i found) ∙ refused_alone (name_refusal (take i t)) (first_refusal (pieces (drop (i + 1) t))) e is)
]

pub refused_rest : (t rest : List ℕ) (i : ℕ) (e : NameFault) → position (λ b. b == 47) t ≡ Some i → rest ≡ drop (i + 1) t → is_name (take i t) ≡ true
    → IsRefusal (pieces rest) e → IsRefusal (pieces t) e
refused_rest t rest i e found left named why = elim why [
  | inl memory ↦ inl memory
  | inr is ↦ inr (ap first_refusal (cut_at t i found) ∙ refused_later (name_refusal (take i t)) (first_refusal (pieces (drop (i + 1) t))) e named
      (ap (λ (ys : List ℕ). first_refusal (pieces ys)) (sym left) ∙ is))
]

pub refused_last : (t : List ℕ) (e : NameFault) → position (λ b. b == 47) t ≡ None → IsRefusal (t ∷ []) e → IsRefusal (pieces t) e
refused_last t e none why = subst (λ (p : Path). IsRefusal p e) (sym (no_cut t none)) why

-- what an answer's fault is
pub says_err : {T : Type 0} (r : Result T NameFault) (e : NameFault) (P : NameFault → Type 0) → r ≡ Err e → P e → IfErr r P
says_err r e P is so = subst (λ r. IfErr r P) (sym is) so

-- names are not refused
pub none_refused : (p : Path) (e : NameFault) → AreNames p → first_refusal p ≡ Some e → ⊥
none_refused [] e named is = absurd (cc)
none_refused (n ∷ p) e named is = by (name_refusal n) (All-head Named n p named) (none_refused p e (All-tail Named n p named)) is
  where
    by : (r : Option NameFault) → is_none r ≡ true → (first_refusal p ≡ Some e → ⊥) → earlier r (first_refusal p) ≡ Some e → ⊥
    by None named_n later is = later is
    by (Some refusal) named_n later is = absurd (cc)
