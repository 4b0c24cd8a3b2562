-- Digests are bytes, so different ones have different texts in hex.
use Rattle.std.proofs.Common.{◌≡◌, ℕ, zero, suc, ◌<◌, List, [], ◌∷◌, Bool, true, false, refl, sym, ◌∙◌, ap, arith}
use Rattle.std.specs.Prelude.{All, slice_index, Ok}
use Rattle.std.specs.Int.{byte_len, w64}
use Rattle.std.specs.Str.{bytes_eq}
use Rattle.std.proofs.lemmas.Bool.{true≢false, false_from_ne_true}
use Rattle.std.proofs.lemmas.List.Elements.{All-append, All-head, All-nil, All-tail}
use Rattle.sha2.specs.Sha512.{digest_bytes, sha512}
use Rattle.hex.specs.Hex.{IsBytes, decode_of, encode_lower}
use Rattle.hex.proofs.HexLemmas.{decode_of-encode_lower}
use Rattle.pt_name.proofs.Digits.{All-sha256, All-word}
use Rattle.pt_object.specs.Algorithm.{digest_of}
use Rattle.pt_object.specs.declared.algorithm.Algorithm.{Algorithm}
use Rattle.pt_object.specs.declared.algorithm.Algorithm.TheVariants.{Sha512, Sha256}
use Rattle.pt_object.proofs.Ways.{same_name, name_itself}

All-digest_bytes : (h : List ℕ) (n : ℕ) → All (λ b. b < 256) (digest_bytes h n)
unfolding digest_bytes
All-digest_bytes h zero = All-nil (λ b. b < 256)
All-digest_bytes h (suc n) = All-append (λ b. b < 256) _ _ (All-digest_bytes h n) (All-word (byte_len w64) (slice_index h n))

All-digest : (algorithm : Algorithm) (m : List ℕ) → All (λ b. b < 256) (digest_of algorithm m)
unfolding sha512
All-digest Sha512 m = All-digest_bytes _ 8
All-digest Sha256 m = All-sha256 m

are_bytes : (xs : List ℕ) → All (λ b. b < 256) xs → IsBytes xs
are_bytes [] h i = omega arith
are_bytes (x ∷ xs) h zero = All-head (λ b. b < 256) x xs h
are_bytes (x ∷ xs) h (suc i) = are_bytes xs (All-tail (λ b. b < 256) x xs h) i

pub one_digest : (algorithm : Algorithm) (a b : List ℕ) → encode_lower (digest_of algorithm a) ≡ encode_lower (digest_of algorithm b)
    → digest_of algorithm a ≡ digest_of algorithm b
one_digest algorithm a b same =
    let read : Ok (digest_of algorithm a) ≡ Ok (digest_of algorithm b) =
    sym (decode_of-encode_lower (digest_of algorithm a) (are_bytes _ (All-digest algorithm a))) ∙ ap decode_of same
    ∙ decode_of-encode_lower (digest_of algorithm b) (are_bytes _ (All-digest algorithm b)) in
    cc

-- the tests agree
pub same_keys : (algorithm : Algorithm) (a b : List ℕ) → bytes_eq (encode_lower (digest_of algorithm a)) (encode_lower (digest_of algorithm b))
    ≡ bytes_eq (digest_of algorithm a) (digest_of algorithm b)
same_keys algorithm a b = by (bytes_eq (digest_of algorithm a) (digest_of algorithm b)) refl
  where
    by : (t : Bool) → bytes_eq (digest_of algorithm a) (digest_of algorithm b) ≡ t
        → bytes_eq (encode_lower (digest_of algorithm a)) (encode_lower (digest_of algorithm b)) ≡ t
    by true is = ap (λ (d : List ℕ). bytes_eq (encode_lower (digest_of algorithm a)) (encode_lower d)) (sym (same_name _ _ is))
        ∙ name_itself (encode_lower (digest_of algorithm a))
    by false is = false_from_ne_true _ (λ h. true≢false (sym (ap (bytes_eq (digest_of algorithm a)) (sym (one_digest algorithm a b (same_name _ _ h)))
        ∙ name_itself (digest_of algorithm a)) ∙ is))
