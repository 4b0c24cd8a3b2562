-- The texts of a bucket: one more, no NUL in any, and those that stay and go when it is divided.
use Rattle.std.proofs.Common.{
  ◌≡◌,
  ◌∙◌,
  ℕ,
  ◌+◌,
  ◌<◌,
  Bool,
  true,
  false,
  Bor,
  List,
  [],
  ◌∷◌,
  ◌++◌,
  append-nil,
  cond,
  drop,
  get_or,
  length,
  map,
  subst,
  take,
  arith,
  refl,
  ap,
  sym,
}
use Rattle.std.specs.Prelude.{◌||◌, not}
use Rattle.std.specs.List.{All, filter, list_any, onto_first, slice_split}
use Rattle.std.specs.Str.{bytes_eq}
use Rattle.std.proofs.lemmas.List.{get_or-map, length-map, map-append, take_more}
use Rattle.std.proofs.lemmas.List.Elements.{All-cons, All-head, All-nil, All-same, All-tail, filter-append}
use Rattle.std.proofs.lemmas.List.Folds.{list_any-append}
use Rattle.std.proofs.lemmas.List.Splits.{length-slice_split, slice_split_none}
use Rattle.std.proofs.lemmas.Map.Views.{any-filter_same}
use Rattle.pt_object.proofs.Ways.{same_name}
use Rattle.pt_rehearsal.specs.Buckets.{HasNoNul, IsHalved, goes_on, holds, is_nul, texts_in}

-- ---- one text more

onto_more : (x : ℕ) (ps qs : List (List ℕ)) (n : ℕ) → length ps ≡ n + 1 → onto_first x (ps ++ qs) ≡ onto_first x ps ++ qs
onto_more x [] qs n is = absurd (omega arith)
onto_more x (p ∷ ps) qs n is = refl

drop_more : (ps qs : List (List ℕ)) (n : ℕ) → length ps ≡ n + 1 → drop 1 (ps ++ qs) ≡ drop 1 ps ++ qs
drop_more [] qs n is = absurd (omega arith)
drop_more (p ∷ ps) qs n is = refl

split_more : (bytes text : List ℕ) → slice_split is_nul (bytes ++ 0 ∷ text) ≡ slice_split is_nul bytes ++ slice_split is_nul text
split_more [] text = refl
split_more (x ∷ bytes) text = by (split_more bytes text) (is_nul x)
  where
    by : slice_split is_nul (bytes ++ 0 ∷ text) ≡ slice_split is_nul bytes ++ slice_split is_nul text → (b : Bool)
        → cond b ([] ∷ slice_split is_nul (bytes ++ 0 ∷ text)) (onto_first x (slice_split is_nul (bytes ++ 0 ∷ text)))
        ≡ cond b ([] ∷ slice_split is_nul bytes) (onto_first x (slice_split is_nul bytes)) ++ slice_split is_nul text
    by later true = ap (λ (l : List (List ℕ)). [] ∷ l) later
    by later false = ap (onto_first x) later ∙ onto_more x (slice_split is_nul bytes) (slice_split is_nul text) _ (length-slice_split is_nul bytes)

pub texts_more : (bytes text : List ℕ) → HasNoNul text → texts_in (bytes ++ 0 ∷ text) ≡ texts_in bytes ++ text ∷ []
texts_more bytes text free =
    ap (drop 1) (split_more bytes text ∙ ap (λ (l : List (List ℕ)). slice_split is_nul bytes ++ l) (slice_split_none is_nul text free))
    ∙ drop_more (slice_split is_nul bytes) (text ∷ []) _ (length-slice_split is_nul bytes)

swap : (a b : Bool) → (a || (b || false)) ≡ (b || a)
swap true true = refl
swap true false = refl
swap false true = refl
swap false false = refl

pub holds_more : (old new text t : List ℕ) → texts_in new ≡ texts_in old ++ text ∷ [] → holds t new ≡ (bytes_eq t text || holds t old)
holds_more old new text t more =
    ap (list_any (bytes_eq t)) more ∙ list_any-append (bytes_eq t) (texts_in old) (text ∷ []) ∙ swap (holds t old) (bytes_eq t text)

-- ---- no text has a NUL

split_free : (bytes : List ℕ) → All HasNoNul (slice_split is_nul bytes)
split_free [] = All-cons HasNoNul [] [] (All-nil (λ b. is_nul b ≡ false)) (All-nil HasNoNul)
split_free (x ∷ bytes) = by (split_free bytes) (is_nul x) refl
  where
    by : All HasNoNul (slice_split is_nul bytes) → (b : Bool) → is_nul x ≡ b
        → All HasNoNul (cond b ([] ∷ slice_split is_nul bytes) (onto_first x (slice_split is_nul bytes)))
    by later true is = All-cons HasNoNul [] (slice_split is_nul bytes) (All-nil (λ b. is_nul b ≡ false)) later
    by later false is = first (slice_split is_nul bytes) later
      where
        first : (ps : List (List ℕ)) → All HasNoNul ps → All HasNoNul (onto_first x ps)
        first [] all = All-cons HasNoNul (x ∷ []) [] (All-cons (λ b. is_nul b ≡ false) x [] is (All-nil (λ b. is_nul b ≡ false))) (All-nil HasNoNul)
        first (p ∷ ps) all =
            All-cons HasNoNul (x ∷ p) ps (All-cons (λ b. is_nul b ≡ false) x p is (All-head HasNoNul p ps all)) (All-tail HasNoNul p ps all)

pub texts_free : (bytes : List ℕ) → All HasNoNul (texts_in bytes)
texts_free bytes = rest (slice_split is_nul bytes) (split_free bytes)
  where
    rest : (ps : List (List ℕ)) → All HasNoNul ps → All HasNoNul (drop 1 ps)
    rest [] all = All-nil HasNoNul
    rest (p ∷ ps) all = All-tail HasNoNul p ps all

-- so none of them has, where they were taken out
pub free_at : (bytes : List ℕ) (texts : List (Bor (List ℕ))) (i : ℕ) (d : Bor (List ℕ)) → map (λ (t : Bor (List ℕ)). t.now) texts ≡ texts_in bytes
    → i < length texts → HasNoNul (get_or texts i d).now
free_at bytes texts i d are within =
    subst HasNoNul (get_or-map (λ (t : Bor (List ℕ)). t.now) texts i d d.now within)
    (All-same HasNoNul (map (λ (t : Bor (List ℕ)). t.now) texts) (texts_in bytes) are (texts_free bytes) i d.now
    (omega (arith, length-map texts (λ (t : Bor (List ℕ)). t.now))))

-- ---- a bucket is divided

module _ (base count : ℕ) (bytes stays goes t : List ℕ) (halved : IsHalved base count (texts_in bytes) (texts_in stays) (texts_in goes)) where
  pub holds_gone : goes_on base count t ≡ true → holds t goes ≡ holds t bytes
  holds_gone on =
      ap (list_any (bytes_eq t)) halved.go
      ∙ any-filter_same (bytes_eq t) (goes_on base count) true (λ k same. ap (goes_on base count) (sym (same_name t k same)) ∙ on) (texts_in bytes)

  pub holds_stayed : goes_on base count t ≡ false → holds t stays ≡ holds t bytes
  holds_stayed off =
      ap (list_any (bytes_eq t)) halved.stay
      ∙ any-filter_same (bytes_eq t) (λ k. not (goes_on base count k)) true (λ k same. ap (λ k. not (goes_on base count k)) (sym (same_name t k same))
      ∙ ap not off)
      (texts_in bytes)

-- ---- one text more is divided

filter_push : (p : List ℕ → Bool) (xs : List (List ℕ)) (x : List ℕ) (b : Bool) → p x ≡ b → filter p (xs ++ x ∷ []) ≡ filter p xs ++ cond b (x ∷ []) []
filter_push p xs x b is = filter-append p xs (x ∷ []) ∙ ap (λ s. filter p xs ++ cond s (x ∷ []) []) is

module _ (base count : ℕ) (texts : List (Bor (List ℕ))) (i : ℕ) (d : Bor (List ℕ)) (stays goes : List (List ℕ)) where
  abbrev before : List (List ℕ)
  before = map (λ (t : Bor (List ℕ)). t.now) (take i texts)

  abbrev text : List ℕ
  text = (get_or texts i d).now

  grown : i < length texts → map (λ (t : Bor (List ℕ)). t.now) (take (i + 1) texts) ≡ before ++ text ∷ []
  grown within =
      ap (map (λ (t : Bor (List ℕ)). t.now)) (take_more texts i d within) ∙ map-append (λ (t : Bor (List ℕ)). t.now) (take i texts) (get_or texts i d ∷ [])

  pub gone_too : (more : List (List ℕ)) → IsHalved base count before stays goes → i < length texts → goes_on base count text ≡ true → more ≡ goes ++ text ∷ []
      → IsHalved base count (map (λ (t : Bor (List ℕ)). t.now) (take (i + 1) texts)) stays more
  gone_too more h within on longer = record {
    stay = h.stay ∙ sym (append-nil (filter (λ t. not (goes_on base count t)) before))
        ∙ sym (filter_push (λ t. not (goes_on base count t)) before text false (ap not on))
        ∙ ap (filter (λ t. not (goes_on base count t))) (sym (grown within));
    go = longer ∙ ap (λ (l : List (List ℕ)). l ++ text ∷ []) h.go ∙ sym (filter_push (goes_on base count) before text true on)
        ∙ ap (filter (goes_on base count)) (sym (grown within));
  }

  pub stayed_too : (more : List (List ℕ)) → IsHalved base count before stays goes → i < length texts → goes_on base count text ≡ false
      → more ≡ stays ++ text ∷ []
      → IsHalved base count (map (λ (t : Bor (List ℕ)). t.now) (take (i + 1) texts)) more goes
  stayed_too more h within off longer = record {
    stay = longer ∙ ap (λ (l : List (List ℕ)). l ++ text ∷ []) h.stay ∙ sym (filter_push (λ t. not (goes_on base count t)) before text true (ap not off))
        ∙ ap (filter (λ t. not (goes_on base count t))) (sym (grown within));
    go = h.go ∙ sym (append-nil (filter (goes_on base count) before)) ∙ sym (filter_push (goes_on base count) before text false off)
        ∙ ap (filter (goes_on base count)) (sym (grown within));
  }
