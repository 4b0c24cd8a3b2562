-- Where a part stands in bytes.
use Rattle.std.proofs.Common.{◌≡◌, ◌↔◌, ◌∷◌, [], ℕ, true, false, IsTrue, List, ap, arith, drop, length, nat_eq, refl, sym}
use Rattle.std.specs.List.{starts_with}
use Rattle.std.proofs.lemmas.Bool.{false≢true}
use Rattle.std.proofs.lemmas.Bool.Decides.{Decides-eqb}
use Rattle.std.proofs.lemmas.Slice.Eq.{starts_is}
use Rattle.pt_guard.specs.Declaration.{HasPart}

-- a part that the bytes start with stands in them
pub at_start : (part bytes : List ℕ) → starts_with nat_eq bytes part ≡ true → HasPart part bytes
at_start part bytes is = ([], drop (length part) bytes, (starts_is Decides-eqb bytes part true (sym is)).0 refl)

-- a part with a first byte stands in no empty bytes
pub in_none : (first : ℕ) (part bytes : List ℕ) → length bytes ≡ 0 → HasPart (first ∷ part) bytes → IsTrue false
in_none first part [] none ([], after, is) = absurd (cc)
in_none first part [] none (x ∷ before, after, is) = absurd (cc)
in_none first part (b ∷ rest) none has = absurd (omega (arith, none))

-- where the bytes don't start with it, it stands in them where it does behind the first byte
pub behind : (part bytes : List ℕ) → starts_with nat_eq bytes part ≡ false → HasPart part bytes ↔ HasPart part (drop 1 bytes)
behind part [] other = (λ has. has, λ has. has)
behind part (b ∷ rest) other = (there, λ has. (b ∷ has.0, has.1, ap (λ l. b ∷ l) has.2))
  where
    there : HasPart part (b ∷ rest) → HasPart part rest
    there ([], after, is) = absurd (false≢true ((starts_is Decides-eqb (b ∷ rest) part false (sym other)).1 after is))
    there (x ∷ before, after, is) = (before, after, cc)
