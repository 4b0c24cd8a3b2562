-- The digits of a SHA-256, and of a byte.
use Rattle.std.proofs.Common.{◌≡◌, ℕ, zero, suc, ◌*◌, ◌/◌, ◌%◌, ◌<◌, ◌||◌, ◌==◌, List, [], ◌∷◌, Some, length, slice_index, refl, sym, ap, ◌∙◌, arith}
use Rattle.std.specs.Prelude.{All}
use Rattle.std.specs.Int.{byte_at, bytes_high_first, byte_len, w32}
use Rattle.std.proofs.lemmas.List.Elements.{All-append, All-cons, All-get_or, All-head, All-nil, All-tail}
use Rattle.std.proofs.lemmas.List.Sums.{AllPass-from_list_all}
use Rattle.sha2.specs.Sha256.{digest_bytes, sha256}
use Rattle.sha2.proofs.Facts256.{length-sha256}
use Rattle.hex.specs.Hex.{encode_lower, encode_with, hex_digit_value, lower_digits}
use Rattle.hex.proofs.HexLemmas.{IsDigits-lower_digits, length-encode_with}
use Rattle.pt_name.specs.Hex.{hex_pair}
use Rattle.pt_name.specs.Place.{IsPlaceByte, digest_text, is_safe}

-- a digit is a byte of places
digit_place : (d : ℕ) → d < 16 → IsPlaceByte (slice_index lower_digits d)
digit_place d h = All-get_or IsPlaceByte lower_digits d 0 h (AllPass-from_list_all (λ b. is_safe b || b == 37) lower_digits refl)

-- so are the two digits of a byte
pub All-hex_pair : (byte : ℕ) → byte < 256 → All IsPlaceByte (hex_pair byte)
All-hex_pair byte h =
    let high = slice_index lower_digits (byte / 16) in
    let low = slice_index lower_digits (byte % 16) in
    All-cons IsPlaceByte high (low ∷ []) (digit_place (byte / 16) (omega arith))
    (All-cons IsPlaceByte low [] (digit_place (byte % 16) (omega arith)) (All-nil IsPlaceByte))

-- and those of bytes
All-encode_lower : (bytes : List ℕ) → All (λ b. b < 256) bytes → All IsPlaceByte (encode_lower bytes)
unfolding encode_with
All-encode_lower [] h = All-nil IsPlaceByte
All-encode_lower (b ∷ bytes) h =
    let small : b < 256 = All-head (λ x. x < 256) b bytes h in
    let high = slice_index lower_digits (b / 16) in
    let low = slice_index lower_digits (b % 16) in
    let rest = All-encode_lower bytes (All-tail (λ x. x < 256) b bytes h) in
    All-cons IsPlaceByte high (low ∷ encode_lower bytes) (digit_place (b / 16) (omega arith))
    (All-cons IsPlaceByte low (encode_lower bytes) (digit_place (b % 16) (omega arith)) rest)

byte_at-small : (k n : ℕ) → byte_at k n < 256
byte_at-small zero n = omega arith
byte_at-small (suc k) n = omega arith

-- the bytes of a word
pub All-word : (k n : ℕ) → All (λ b. b < 256) (bytes_high_first k n)
All-word zero n = All-nil (λ b. b < 256)
All-word (suc k) n = All-cons (λ b. b < 256) (byte_at k n) (bytes_high_first k n) (byte_at-small k n) (All-word k n)

All-digest_bytes : (h : List ℕ) (n : ℕ) → All (λ b. b < 256) (digest_bytes h n)
unfolding digest_bytes
All-digest_bytes h zero = All-nil (λ b. b < 256)
All-digest_bytes h (suc n) = All-append (λ b. b < 256) _ _ (All-digest_bytes h n) (All-word (byte_len w32) (slice_index h n))

-- a SHA-256 is bytes
pub All-sha256 : (id : List ℕ) → All (λ b. b < 256) (sha256 id)
unfolding sha256
All-sha256 id = All-digest_bytes _ 8

-- its text is bytes of places, 64 of them
pub All-digest_text : (id : List ℕ) → All IsPlaceByte (digest_text id)
All-digest_text id = All-encode_lower (sha256 id) (All-sha256 id)

pub length-digest_text : (id : List ℕ) → length (digest_text id) ≡ 64
length-digest_text id = length-encode_with lower_digits (sha256 id) ∙ ap (λ n. 2 * n) (length-sha256 id)

-- digits that are one have one value
pub same_digit : (c d : ℕ) → c < 16 → d < 16 → slice_index lower_digits c ≡ slice_index lower_digits d → c ≡ d
same_digit c d x y e =
    let one : Some c ≡ Some d = sym (IsDigits-lower_digits c x) ∙ ap hex_digit_value e ∙ IsDigits-lower_digits d y in
    cc one
