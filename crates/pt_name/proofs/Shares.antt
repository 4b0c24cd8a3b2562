-- The number of the share that an identifier is of, and how it begins.
use Rattle.std.proofs.Common.{◌≡◌, ◌<◌, ℕ, ◌^◌, Bool, true, List, [], ◌∷◌, ◌∙◌, ap, arith, false, length, map, refl, slice_index, sym}
use Rattle.std.specs.Global.{Global}
use Rattle.std.specs.List.{list_any}
use Rattle.std.specs.Prelude.{◌||◌, Some, String}
use Rattle.std.specs.String.{string_bytes}
use Rattle.std.proofs.lemmas.List.Elements.{All-get_or}
use Rattle.sha2.specs.Sha256.{sha256}
use Rattle.sha2.proofs.Facts256.{length-sha256}
use Rattle.pt_name.proofs.Digits.{All-sha256}
use Rattle.pt_name.specs.Share.{begins_so, begins_with, chosen, digest_number, is_listed, share_number}

-- a byte of a digest
small_byte : (id : List ℕ) (i : ℕ) → i < 32 → slice_index (sha256 id) i < 256
small_byte id i h = let long = length-sha256 id in All-get_or (λ x. x < 256) (sha256 id) i 0 (omega (arith, long)) (All-sha256 id)

-- it is a number of four bytes
pub digest_number-small : (id : List ℕ) → digest_number id < 2 ^ 32
unfolding digest_number
digest_number-small id =
    let a = small_byte id 0 (omega arith) in
    let b = small_byte id 1 (omega arith) in
    let c = small_byte id 2 (omega arith) in
    let d = small_byte id 3 (omega arith) in
    omega (arith, a, b, c, d)

-- of one share each identifier is
pub whole_number : (id : List ℕ) → share_number 1 id ≡ 1
whole_number id = let small = digest_number-small id in omega (arith, small)

-- ---- texts

pub any_mapped : {A B : Type 0} (f : A → B) (test : B → Bool) (xs : List A) → list_any test (map f xs) ≡ list_any (λ x. test (f x)) xs
any_mapped f test [] = refl
any_mapped f test (x ∷ xs) = λ i. test (f x) || any_mapped f test xs i

-- where there is no text each identifier begins so
pub begun_by_any : (texts : List (String Global)) (id : List ℕ) → length texts ≡ 0 → true ≡ begins_so (map string_bytes texts) id
begun_by_any [] id none = refl
begun_by_any (text ∷ texts) id none = absurd (omega (arith, none))

-- where there is one it begins with one of them
pub begun_by_one : (texts : List (String Global)) (id : List ℕ) (b : Bool) → 0 < length texts → b ≡ list_any (λ t. begins_with (string_bytes t) id) texts
    → b ≡ begins_so (map string_bytes texts) id
begun_by_one [] id b some is = absurd (omega (arith, some))
begun_by_one (text ∷ texts) id b some is = is ∙ sym (any_mapped string_bytes (λ t. begins_with t id) (text ∷ texts))

-- what doesn't stand in the list is chosen where it begins with one of the texts
pub chosen_unlisted : (texts : List (String Global)) (only ids : List (List ℕ)) (id : List ℕ) (b : Bool) → false ≡ is_listed ids id
    → b ≡ list_any (λ t. begins_with (string_bytes t) id) texts → map string_bytes texts ≡ only → b ≡ chosen only (Some ids) id
chosen_unlisted texts only ids id b other is same =
    is ∙ sym (any_mapped string_bytes (λ t. begins_with t id) texts) ∙ ap (list_any (λ t. begins_with t id)) same
    ∙ ap (λ (listed : Bool). listed || list_any (λ t. begins_with t id) only) other
