-- Counts that are put one after another.
use Rattle.std.proofs.Common.{◌≡◌, ◌<◌, ◌+◌, ◌++◌, ℕ, zero, suc, List, [], ◌∷◌, Bor, ap, arith, get_or, length, map, min, refl, take}
use Rattle.std.proofs.lemmas.List.{take_all}
use Rattle.std.specs.List.{zip}
use Rattle.serde_json.specs.Data.{Members}
use Rattle.pt_messages.specs.Counts.{put_count, put_counts}

-- the words with their counts
abbrev pub pairs : List (Bor (List ℕ)) → List ℕ → List (List ℕ × ℕ)
pairs words counts = zip (map (λ (word : Bor (List ℕ)). word.now) words) counts

put_later : (pairs : List (List ℕ × ℕ)) (one : List ℕ × ℕ) (all : Members)
    → put_counts (pairs ++ one ∷ []) all ≡ put_count one.0 one.1 (put_counts pairs all)
put_later [] one all = refl
put_later (first ∷ more) one all = put_later more one (put_count first.0 first.1 all)

later : (words : List (Bor (List ℕ))) (counts : List ℕ) (n : ℕ) (word : Bor (List ℕ)) (count : ℕ) → n < length words → n < length counts
    → ((d : Bor (List ℕ)) → word ≡ get_or words n d) → ((d : ℕ) → count ≡ get_or counts n d)
    → take (suc n) (pairs words counts) ≡ take n (pairs words counts) ++ (word.now, count) ∷ []
later [] counts n word count here there is-word is-count = absurd (omega (arith, here))
later (w ∷ words) [] n word count here there is-word is-count = absurd (omega (arith, there))
later (w ∷ words) (c ∷ counts) zero word count here there is-word is-count =
    let first : w ≡ word = cc (is-word w) in
    let second : c ≡ count = cc (is-count c) in
    ap (λ (p : List ℕ × ℕ). p ∷ []) (λ i. ((first i).now, second i))
later (w ∷ words) (c ∷ counts) (suc n) word count here there is-word is-count =
    ap (λ (more : List (List ℕ × ℕ)). (w.now, c) ∷ more)
    (later words counts n word count (omega (arith, here)) (omega (arith, there)) is-word is-count)

-- one pair more
pub put_more : (words : List (Bor (List ℕ))) (counts : List ℕ) (n : ℕ) (word : Bor (List ℕ)) (count : ℕ) (all : Members) → n < length words
    → n < length counts → ((d : Bor (List ℕ)) → word ≡ get_or words n d) → ((d : ℕ) → count ≡ get_or counts n d)
    → put_counts (take (n + 1) (pairs words counts)) all ≡ put_count word.now count (put_counts (take n (pairs words counts)) all)
put_more words counts n word count all here there is-word is-count =
    let same : n + 1 ≡ suc n = omega arith in
    rw (same, later words counts n word count here there is-word is-count, put_later)

-- all of them
pub put_all : (words : List (Bor (List ℕ))) (counts : List ℕ) (n : ℕ) → n ≡ min (length words) (length counts)
    → take n (pairs words counts) ≡ pairs words counts
put_all [] counts n is = take_all n [] (omega arith)
put_all (w ∷ words) [] n is = take_all n [] (omega arith)
put_all (w ∷ words) (c ∷ counts) zero is = absurd (omega (arith, is))
put_all (w ∷ words) (c ∷ counts) (suc n) is = ap (λ (more : List (List ℕ × ℕ)). (w.now, c) ∷ more) (put_all words counts n (omega (arith, is)))
