-- Bytes written piece by piece.
use Rattle.std.proofs.Common.{◌≡◌, ℕ, zero, suc, ◌+◌, ◌-◌, List, [], ◌∷◌, ◌++◌, take, drop, length, refl, sym, ap, arith, ◌∙◌, Option}
use Rattle.std.proofs.lemmas.List.{take_rest}
use Rattle.std.specs.Io.KnownBytes.{Appends}
use Rattle.std.proofs.KnownBytes.{Appends-trans}

take-nil : (n : ℕ) → let none : List ℕ = [] in take n none ≡ none
take-nil zero = refl
take-nil (suc n) = refl

-- a front, and more of the rest
take-add : (m n : ℕ) (xs : List ℕ) → take m xs ++ take n (drop m xs) ≡ take (m + n) xs
take-add zero n xs = ap (λ k. take k xs) (omega arith)
take-add (suc m) n [] = take-nil n ∙ sym (take-nil (suc m + n))
take-add (suc m) n (x ∷ xs) =
    let e : suc m + n ≡ suc (m + n) = omega arith in
    rw e (ap (λ ys. x ∷ ys) (take-add m n xs))

-- one more piece written
pub front_more : (a b c : Option (List ℕ)) (bytes : List ℕ) (done taken : ℕ) → Appends a b (take done bytes)
    → Appends b c (take taken (take (length bytes - done) (drop done bytes))) → Appends a c (take (done + taken) bytes)
front_more a b c bytes done taken first next =
    rw (← take-add done taken bytes) (Appends-trans a b c (take done bytes) (take taken (drop done bytes)) first (rw take_rest at next))
