-- What a finding says of the entries of a site.
use Rattle.std.proofs.Common.{◌≡◌, ℕ, List, [], ◌∷◌, ◌+◌, true, false, refl, arith, ◌∙◌, ap, sym, subst, suc, zero, inl, inr}
use Rattle.std.specs.Prelude.{cond, Some, slice_get}
use Rattle.std.proofs.lemmas.Bool.{cases_Bool}
use Rattle.pt_tree.specs.declared.kind.Kind.{Kind}
use Rattle.pt_tree.specs.declared.kind.Kind.TheVariants as kind
use Rattle.pt_tree.specs.Listing.{Item}
use Rattle.pt_walk.specs.declared.site.At.TheVariants as at
use Rattle.pt_walk.specs.declared.site.Finding.TheVariants as finding
use Rattle.pt_walk.specs.declared.site.Form.{Form}
use Rattle.pt_walk.specs.declared.site.Form.TheVariants as form
use Rattle.pt_walk.specs.Site.{found_at_top, found_below, is_short, is_shorty, non_shorties, non_shorties_from}
use Rattle.pt_walk.specs.SiteLaws.{CandidateIsTheOnlyNonShorty, InteriorHoldsShorties, LastNameSaysWhere}

front_shorty : (j : ℕ) (x : Item) (items : List Item) → non_shorties_from j (x ∷ items) ≡ [] → (is_shorty x ≡ true) × (non_shorties_from (j + 1) items ≡ [])
front_shorty j x items e = elim (cases_Bool (is_shorty x)) [
  | inl shorty ↦ (shorty, sym (ap (λ b. cond b (non_shorties_from (j + 1) items) ((j, x.1) ∷ non_shorties_from (j + 1) items)) shorty) ∙ e)
  | inr longer ↦
      let counted : (j, x.1) ∷ non_shorties_from (j + 1) items ≡ [] = sym
      (ap (λ b. cond b (non_shorties_from (j + 1) items) ((j, x.1) ∷ non_shorties_from (j + 1) items)) longer) ∙ e in
      absurd (cc)
]

all_shorties : (j : ℕ) (items : List Item) → non_shorties_from j items ≡ [] → (m : ℕ) (item : Item) → slice_get items m ≡ Some item → is_shorty item ≡ true
all_shorties j [] e m item at = absurd (cc)
all_shorties j (x ∷ items) e zero item at =
    let same : x ≡ item = cc in
    subst (λ (y : Item). is_shorty y ≡ true) same (front_shorty j x items e).0
all_shorties j (x ∷ items) e (suc m) item at = all_shorties (j + 1) items (front_shorty j x items e).1 m item at

-- one entry is no shorty: where it stands, counted from j
record Sole (j : ℕ) (items : List Item) (i : ℕ) (k : Kind) : Type 0 where
  place : ℕ
  place_is : i ≡ j + place
  name : List ℕ
  stands : slice_get items place ≡ Some (name, k)
  longer : is_shorty (name, k) ≡ false
  others : (m : ℕ) (item : Item) → slice_get items m ≡ Some item → (m ≡ place → ⊥) → is_shorty item ≡ true

others_later : (x : Item) (items : List Item) (place : ℕ) → is_shorty x ≡ true
    → ((m : ℕ) (item : Item) → slice_get items m ≡ Some item → (m ≡ place → ⊥) → is_shorty item ≡ true)
    → (m : ℕ) (item : Item) → slice_get (x ∷ items) m ≡ Some item → (m ≡ suc place → ⊥) → is_shorty item ≡ true
others_later x items place shorty others zero item at apart =
    let same : x ≡ item = cc in
    subst (λ (y : Item). is_shorty y ≡ true) same shorty
others_later x items place shorty others (suc m) item at apart = others m item at (λ same. apart (ap suc same))

others_behind : (j : ℕ) (x : Item) (items : List Item) → non_shorties_from (j + 1) items ≡ [] → (m : ℕ) (item : Item) → slice_get (x ∷ items) m ≡ Some item
    → (m ≡ zero → ⊥) → is_shorty item ≡ true
others_behind j x items e zero item at apart = absurd (apart refl)
others_behind j x items e (suc m) item at apart = all_shorties (j + 1) items e m item at

sole : (j : ℕ) (items : List Item) (i : ℕ) (k : Kind) → non_shorties_from j items ≡ (i, k) ∷ [] → Sole j items i k
sole j [] i k e = absurd (cc)
sole j (x ∷ items) i k e = elim (cases_Bool (is_shorty x)) [
  | inl shorty ↦
      let it = sole (j + 1) items i k (sym (ap (λ b. cond b (non_shorties_from (j + 1) items) ((j, x.1) ∷ non_shorties_from (j + 1) items)) shorty) ∙ e) in
      let at = it.place_is in
      record {
        place = suc it.place;
        place_is = omega (arith, at);
        name = it.name;
        stands = it.stands;
        longer = it.longer;
        others = others_later x items it.place shorty it.others;
      }
  | inr longer ↦
      let counted : (j, x.1) ∷ non_shorties_from (j + 1) items ≡ (i, k)
      ∷ [] = sym (ap (λ b. cond b (non_shorties_from (j + 1) items) ((j, x.1) ∷ non_shorties_from (j + 1) items)) longer) ∙ e in
      let rest : non_shorties_from (j + 1) items ≡ [] = cc in
      let first : (j, x.1) ≡ (i, k) = cc in
      let at = ap (λ (p : ℕ × Kind). p.0) first in
      let kind_is = ap (λ (p : ℕ × Kind). p.1) first in
      record {
        place = zero;
        place_is = omega (arith, at);
        name = x.0;
        stands = ap (λ (t : Kind). Some (x.0, t)) kind_is;
        longer = ap (λ (t : Kind). is_shorty (x.0, t)) (sym kind_is) ∙ longer;
        others = others_behind j x items rest;
      }
]

candidate_alone : (f : Form) (items : List Item) (l : List (ℕ × Kind)) (i : ℕ) → found_below f items l ≡ finding.Candidate i → l ≡ (i, kind.Dir) ∷ []
candidate_alone f [] [] i e = absurd (cc)
candidate_alone f (x ∷ items) [] i e = absurd (cc)
candidate_alone f items ((j, kind.Dir) ∷ []) i e = let same : j ≡ i = cc in ap (λ k. (k, kind.Dir) ∷ []) same
candidate_alone form.Plain items ((j, kind.File) ∷ []) i e = absurd (cc)
candidate_alone form.Gathering items ((j, kind.File) ∷ []) i e = absurd (cc)
candidate_alone form.Plain items ((j, kind.Other) ∷ []) i e = absurd (cc)
candidate_alone form.Gathering items ((j, kind.Other) ∷ []) i e = absurd (cc)
candidate_alone form.Plain items (p ∷ q ∷ l) i e = absurd (cc)
candidate_alone form.Gathering items (p ∷ q ∷ l) i e = absurd (cc)

Only : List Item → ℕ → Type 0
Only items i = (name : List ℕ) × (slice_get items i ≡ Some (name, kind.Dir)) × (is_short name ≡ false) × ((j : ℕ) (item : Item) → slice_get items j ≡ Some item
    → (j ≡ i → ⊥) → is_shorty item ≡ true)

only : (items : List Item) (i : ℕ) → non_shorties items ≡ (i, kind.Dir) ∷ [] → Only items i
unfolding Only
only items i e =
    let it = sole 0 items i kind.Dir e in
    let is = it.place_is in
    let at : it.place ≡ i = omega (arith, is) in
    subst (Only items) at (it.name, it.stands, it.longer, it.others)

never_at_top : (l : List (ℕ × Kind)) (i : ℕ) → found_at_top l ≡ finding.Candidate i → ⊥
never_at_top [] i e = cc
never_at_top (p ∷ l) i e = cc

pub candidate : CandidateIsTheOnlyNonShorty
unfolding Only
candidate items at.Root f i e = absurd (never_at_top (non_shorties items) i e)
candidate items at.Pair f i e = only items i (candidate_alone f items (non_shorties items) i e)
candidate items at.Last f i e = only items i (candidate_alone f items (non_shorties items) i e)

interior_below : (f : Form) (items : List Item) (l : List (ℕ × Kind)) → found_below f items l ≡ finding.Interior → l ≡ []
interior_below f items [] e = refl
interior_below f items ((j, kind.Dir) ∷ []) e = absurd (cc)
interior_below form.Plain items ((j, kind.File) ∷ []) e = absurd (cc)
interior_below form.Gathering items ((j, kind.File) ∷ []) e = absurd (cc)
interior_below form.Plain items ((j, kind.Other) ∷ []) e = absurd (cc)
interior_below form.Gathering items ((j, kind.Other) ∷ []) e = absurd (cc)
interior_below form.Plain items (p ∷ q ∷ l) e = absurd (cc)
interior_below form.Gathering items (p ∷ q ∷ l) e = absurd (cc)

interior_at_top : (l : List (ℕ × Kind)) → found_at_top l ≡ finding.Interior → l ≡ []
interior_at_top [] e = refl
interior_at_top (p ∷ l) e = absurd (cc)

pub interior : InteriorHoldsShorties
interior items at.Root f e = all_shorties 0 items (interior_at_top (non_shorties items) e)
interior items at.Pair f e = all_shorties 0 items (interior_below f items (non_shorties items) e)
interior items at.Last f e = all_shorties 0 items (interior_below f items (non_shorties items) e)

pub last_name_says : LastNameSaysWhere
last_name_says [] name = refl
last_name_says (n ∷ []) name = refl
last_name_says (n ∷ m ∷ path) name = last_name_says (m ∷ path) name
