-- An item that is added at the end, with its position at its place in the index.
use Rattle.std.proofs.Common.{◌≡◌, ℕ, ◌+◌, ◌-◌, ◌<◌, ◌≤◌, List, [], ◌∷◌, ◌++◌, length, get_or, sym, ◌∙◌, ap, arith, inl, inr}
use Rattle.std.specs.Prelude.{map, insert, slice_index}
use Rattle.std.specs.declared.cmp.Ordering.TheVariants.{Less, Greater}
use Rattle.std.specs.Ordering.{ordering_reverse}
use Rattle.std.proofs.lemmas.Bool.{cases_lt}
use Rattle.std.proofs.lemmas.Cmp.{nat_list_cmp_total}
use Rattle.std.proofs.lemmas.List.{map_push, get_or_append_left, get_or_push, length_push, length-map}
use Rattle.std.proofs.lemmas.List.Edits.{length-insert, get_or-insert_below, get_or-insert_at, get_or-insert_above}
use Rattle.pt_object.specs.Contents.{digest_at}
use Rattle.pt_object.specs.Digest.{digest_cmp}
use Rattle.pt_object.specs.Index.{digest_in, IsIndex, IsPlaceOf}
use Rattle.pt_object.specs.declared.table.contents.Content.{Content}

digest_at-old : (items : List Content) (x : Content) (p : ℕ) → p < length items → digest_at (items ++ x ∷ []) p ≡ digest_at items p
digest_at-old items x p within =
    let inside : p < length (map (λ (c : Content). c.digest) items) = omega (arith, length-map items (λ (c : Content). c.digest)) in
    ap (λ (l : List (List ℕ)). get_or l p []) (map_push (λ (c : Content). c.digest) items x)
    ∙ get_or_append_left (map (λ (c : Content). c.digest) items) (x.digest ∷ []) [] p inside

digest_at-new : (items : List Content) (x : Content) → digest_at (items ++ x ∷ []) (length items) ≡ x.digest
digest_at-new items x =
    ap (λ (l : List (List ℕ)). get_or l (length items) []) (map_push (λ (c : Content). c.digest) items x)
    ∙ get_or_push (map (λ (c : Content). c.digest) items) x.digest [] (length items) (length-map items (λ (c : Content). c.digest))

-- the digests of the longer index, before, at and behind the new place
in_below : (items : List Content) (index : List ℕ) (x : Content) (i k : ℕ) → IsIndex items index → i ≤ length index → k < i
    → digest_in (items ++ x ∷ []) (insert index i (length items)) k ≡ digest_in items index k
in_below items index x i k ordered within below =
    ap (digest_at (items ++ x ∷ [])) (get_or-insert_below index i (length items) 0 k below within)
    ∙ digest_at-old items x (slice_index index k) (ordered.within k (omega arith))

in_here : (items : List Content) (index : List ℕ) (x : Content) (i k : ℕ) → i ≤ length index → k ≡ i
    → digest_in (items ++ x ∷ []) (insert index i (length items)) k ≡ x.digest
in_here items index x i k within here =
    ap (digest_in (items ++ x ∷ []) (insert index i (length items))) here
    ∙ ap (digest_at (items ++ x ∷ [])) (get_or-insert_at index i (length items) 0 within)
    ∙ digest_at-new items x

in_above : (items : List Content) (index : List ℕ) (x : Content) (i k : ℕ) → IsIndex items index → i ≤ length index → i < k → k < length index + 1
    → digest_in (items ++ x ∷ []) (insert index i (length items)) k ≡ digest_in items index (k - 1)
in_above items index x i k ordered within above inside =
    let one_more : k ≡ k - 1 + 1 = omega arith in
    ap (digest_in (items ++ x ∷ []) (insert index i (length items))) one_more
    ∙ ap (digest_at (items ++ x ∷ [])) (get_or-insert_above index i (length items) 0 (k - 1) (omega arith) within)
    ∙ digest_at-old items x (slice_index index (k - 1)) (ordered.within (k - 1) (omega arith))

lesser : (a b c d : List ℕ) → a ≡ c → b ≡ d → digest_cmp c d ≡ Less → digest_cmp a b ≡ Less
lesser a b c d p q less = ap (λ (l : List ℕ). digest_cmp l b) p ∙ ap (digest_cmp c) q ∙ less

turned : (a b : List ℕ) → digest_cmp a b ≡ Greater → digest_cmp b a ≡ Less
turned a b more = nat_list_cmp_total.antisymm b a ∙ ap ordering_reverse more

rises_new : (items : List Content) (index : List ℕ) (x : Content) (i : ℕ) → IsIndex items index → IsPlaceOf items index x.digest i
    → (a b : ℕ) → a < b → b < length index + 1
    → digest_cmp (digest_in (items ++ x ∷ []) (insert index i (length items)) a) (digest_in (items ++ x ∷ []) (insert index i (length items)) b) ≡ Less
rises_new items index x i ordered place a b up inside =
    let fits = place.within in
    elim (cases_lt b i) [
      | inl b_below ↦ lesser _ _ _ _ (in_below items index x i a ordered fits (omega arith)) (in_below items index x i b ordered fits b_below)
          (ordered.rises a b up (omega arith))
      | inr b_from ↦ elim (cases_lt i b) [
        | inl b_above ↦
            let at_b = in_above items index x i b ordered fits b_above inside in
            elim (cases_lt a i) [
              | inl a_below ↦ lesser _ _ _ _ (in_below items index x i a ordered fits a_below) at_b (ordered.rises a (b - 1) (omega arith) (omega arith))
              | inr a_from ↦ elim (cases_lt i a) [
                | inl a_above ↦ lesser _ _ _ _ (in_above items index x i a ordered fits a_above (omega arith)) at_b
                    (ordered.rises (a - 1) (b - 1) (omega arith) (omega arith))
                | inr a_here ↦ lesser _ _ _ _ (in_here items index x i a fits (omega arith)) at_b
                    (turned (digest_in items index (b - 1)) x.digest (place.after (b - 1) (omega arith) (omega arith)))
              ]
            ]
        | inr b_here ↦ lesser _ _ _ _ (in_below items index x i a ordered fits (omega arith)) (in_here items index x i b fits (omega arith))
            (place.before a (omega arith))
      ]
    ]

within_new : (items : List Content) (index : List ℕ) (x : Content) (i : ℕ) → IsIndex items index → i ≤ length index
    → (k : ℕ) → k < length index + 1 → slice_index (insert index i (length items)) k < length items + 1
within_new items index x i ordered fits k inside = elim (cases_lt k i) [
  | inl below ↦
      let old = ordered.within k (omega arith) in
      let same = get_or-insert_below index i (length items) 0 k below fits in
      omega (arith, old, same)
  | inr from ↦ elim (cases_lt i k) [
    | inl above ↦
        let one_more : k - 1 + 1 ≡ k = omega arith in
        let old = ordered.within (k - 1) (omega arith) in
        let same : slice_index (insert index i (length items)) k ≡ slice_index index (k - 1) =
        ap (slice_index (insert index i (length items))) (sym one_more) ∙ get_or-insert_above index i (length items) 0 (k - 1) (omega arith) fits in
        omega (arith, old, same)
    | inr here ↦
        let at : k ≡ i = omega arith in
        let same : slice_index (insert index i (length items)) k ≡ length items =
        ap (slice_index (insert index i (length items))) at ∙ get_or-insert_at index i (length items) 0 fits in
        omega (arith, same)
  ]
]

complete_new : (items : List Content) (index : List ℕ) (x : Content) (i : ℕ) → IsIndex items index → i ≤ length index
    → (p : ℕ) → p < length items + 1 → (k : ℕ) × (k < length index + 1) × (slice_index (insert index i (length items)) k ≡ p)
complete_new items index x i ordered fits p inside = elim (cases_lt p (length items)) [
  | inl old ↦
      let k = ordered.complete p old in
      elim (cases_lt k.0 i) [
        | inl below ↦ (k.0, omega (arith, k.1), get_or-insert_below index i (length items) 0 k.0 below fits ∙ k.2)
        | inr from ↦ (k.0 + 1, omega (arith, k.1), get_or-insert_above index i (length items) 0 k.0 from fits ∙ k.2)
      ]
  | inr last ↦ (i, omega arith, get_or-insert_at index i (length items) 0 fits ∙ (omega arith))
]

pub IsIndex-insert : (items : List Content) (index : List ℕ) (x : Content) (i : ℕ) → IsIndex items index → IsPlaceOf items index x.digest i
    → IsIndex (items ++ x ∷ []) (insert index i (length items))
IsIndex-insert items index x i ordered place =
    let long : length (insert index i (length items)) ≡ length index + 1 = length-insert index i (length items) place.within in
    let longer : length (items ++ x ∷ []) ≡ length items + 1 = length_push items x in
    record {
      as_long = omega (arith, ordered.as_long);
      within = λ k h. let h' : k < length index + 1 = omega arith in omega (arith, within_new items index x i ordered place.within k h');
      rises = λ a b up h. let h' : b < length index + 1 = omega arith in rises_new items index x i ordered place a b up h';
      complete = λ p h. let h' : p < length items + 1 = omega arith in let k = complete_new items index x i ordered place.within p h'
          in (k.0, omega (arith, k.1), k.2);
    }
