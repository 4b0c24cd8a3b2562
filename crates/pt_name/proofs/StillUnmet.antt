-- The identifiers that are unmet, by the flags of a list.
use Rattle.std.proofs.Common.{◌≡◌, ◌<◌, ◌≤◌, ℕ, zero, suc, Bool, true, false, List, [], ◌∷◌, ◌∙◌, ap, arith, cond, inl, inr, length, map, refl, sym}
use Rattle.std.proofs.lemmas.Option.{slice_get-get_or, slice_get_past}
use Rattle.std.specs.Borrow.{Bor}
use Rattle.std.proofs.lemmas.Bool.{cases_lt}
use Rattle.std.specs.Option.{IsSome, option_map}
use Rattle.std.specs.Prelude.{◌⊎◌, ◌||◌, Option, None, Some, String, set, slice_get}
use Rattle.std.specs.Slice.{IsItemAt}
use Rattle.std.specs.Global.{Global}
use Rattle.std.specs.Str.{bytes_eq}
use Rattle.std.specs.String.{string_bytes}
use Rattle.pt_name.specs.Share.{Portion, is_listed}
use Rattle.pt_name.specs.Unmet.{StandsOnlyAt, may_meet, unmet_flagged, unmet_there, unless_it, while_set, without}

module _ (id : List ℕ) where
  unless_other : (listed : List ℕ) (flag : Bool) → bytes_eq listed id ≡ false → unless_it id (while_set flag listed) ≡ while_set flag listed
  unless_other listed true other = ap (λ b. cond b None (Some listed)) other
  unless_other listed false other = refl

  unless_same : (listed : List ℕ) (flag : Bool) → bytes_eq listed id ≡ true → unless_it id (while_set flag listed) ≡ None
  unless_same listed true same = ap (λ b. cond b None (Some listed)) same
  unless_same listed false same = refl

  either_first : (a b : Bool) → (a || b) ≡ false → a ≡ false
  either_first true b is = is
  either_first false b is = refl

  either_second : (a b : Bool) → (a || b) ≡ false → b ≡ false
  either_second true b is = absurd (cc)
  either_second false b is = is

  -- one that isn't in the list
  pub unlisted : (ids : List (List ℕ)) (flags : List Bool) → is_listed ids id ≡ false → unmet_flagged ids flags ≡ without id (unmet_flagged ids flags)
  unlisted ids [] is = refl
  unlisted [] (flag ∷ flags) is = ap (λ more. None ∷ more) (unlisted [] flags is)
  unlisted (x ∷ xs) (flag ∷ flags) is =
      λ i. sym (unless_other x flag (either_first (bytes_eq x id) (is_listed xs id) is)) i ∷ unlisted xs flags (either_second (bytes_eq x id)
      (is_listed xs id) is) i

  -- one that stands in the list at a place has its flag taken away
  pub noted : (ids : List (List ℕ)) (flags : List Bool) (at : ℕ) → StandsOnlyAt id ids at
      → unmet_flagged ids (set flags at false) ≡ without id (unmet_flagged ids flags)
  noted ids [] at there = refl
  noted [] (flag ∷ flags) at there = absurd there
  noted (x ∷ xs) (flag ∷ flags) zero (same, none) = λ i. sym (unless_same x flag same) i ∷ unlisted xs flags none i
  noted (x ∷ xs) (flag ∷ flags) (suc at) (other, there) = λ i. sym (unless_other x flag other) i ∷ noted xs flags at there i

-- ---- by the position

-- an identifier, where there is one with a flag
abbrev shown : Option (List ℕ) → Option Bool → Option (List ℕ)
shown id None = None
shown None (Some flag) = None
shown (Some id) (Some flag) = while_set flag id

there : (ids : List (List ℕ)) (flags : List Bool) (at : ℕ) → unmet_there (unmet_flagged ids flags) at ≡ shown (slice_get ids at) (slice_get flags at)
there ids [] at = refl
there [] (flag ∷ flags) zero = refl
there [] (flag ∷ flags) (suc at) = there [] flags at
there (x ∷ xs) (flag ∷ flags) zero = refl
there (x ∷ xs) (flag ∷ flags) (suc at) = there xs flags at

none_shown : (id : Option (List ℕ)) → shown id (Some false) ≡ None
none_shown None = refl
none_shown (Some id) = refl

id_shown : (id : Option (List ℕ)) → shown id (Some true) ≡ id
id_shown None = refl
id_shown (Some id) = refl

pub is_unmet : (ids : List (List ℕ)) (flags : List Bool) (at : ℕ) (id : Option (List ℕ)) → slice_get flags at ≡ Some true → id ≡ slice_get ids at
    → id ≡ unmet_there (unmet_flagged ids flags) at
is_unmet ids flags at id flag is = is ∙ sym (there ids flags at ∙ ap (shown (slice_get ids at)) flag ∙ id_shown (slice_get ids at))

pub is_met : (ids : List (List ℕ)) (flags : List Bool) (at : ℕ) (flag : Option Bool) → slice_get flags at ≡ flag → (flag ≡ Some true → ⊥)
    → None ≡ unmet_there (unmet_flagged ids flags) at
is_met ids flags at None is other = sym (there ids flags at ∙ ap (shown (slice_get ids at)) is)
is_met ids flags at (Some true) is other = absurd (other refl)
is_met ids flags at (Some false) is other = sym (there ids flags at ∙ ap (shown (slice_get ids at)) is ∙ none_shown (slice_get ids at))

pub none_listed : (flags : List Bool) (at : ℕ) → None ≡ unmet_there (unmet_flagged [] flags) at
none_listed [] at = refl
none_listed (flag ∷ flags) zero = refl
none_listed (flag ∷ flags) (suc at) = none_listed flags at

pub length-unmet_flagged : (ids : List (List ℕ)) (flags : List Bool) → length (unmet_flagged ids flags) ≡ length flags
length-unmet_flagged ids [] = refl
length-unmet_flagged [] (flag ∷ flags) = ap suc (length-unmet_flagged [] flags)
length-unmet_flagged (x ∷ xs) (flag ∷ flags) = ap suc (length-unmet_flagged xs flags)

-- what a slice lends is what stands there
pub lent_there : {X : Type 0} (xs : List X) (at : ℕ) (lent : Option (Bor X)) → IsItemAt xs at lent → slice_get xs at ≡ option_map (λ (x : Bor X). x.now) lent
lent_there xs at None item = slice_get_past xs at item.3
lent_there xs at (Some x) item = slice_get-get_or xs at x.now item.3.0 ∙ ap (λ y. Some y) (sym (item.3.1 x.now))

-- ---- from the start

pub all_flags : (share : Portion) (ids : List (List ℕ)) → unmet_flagged ids (map (may_meet share) ids) ≡ map (λ id. while_set (may_meet share id) id) ids
all_flags share [] = refl
all_flags share (x ∷ xs) = ap (λ more. while_set (may_meet share x) x ∷ more) (all_flags share xs)

pub mapped_flags : (share : Portion) (texts : List (String Global))
    → map (may_meet share) (map string_bytes texts) ≡ map (λ id. may_meet share (string_bytes id)) texts
mapped_flags share [] = refl
mapped_flags share (x ∷ xs) = ap (λ more. may_meet share (string_bytes x) ∷ more) (mapped_flags share xs)

-- where no flag is kept of it
pub beyond : (id : List ℕ) (ids : List (List ℕ)) (flags : List Bool) (at : ℕ) → StandsOnlyAt id ids at → length flags ≤ at
    → unmet_flagged ids flags ≡ without id (unmet_flagged ids flags)
beyond id ids [] at there past = refl
beyond id [] (flag ∷ flags) at there past = absurd there
beyond id (x ∷ xs) (flag ∷ flags) zero there past = absurd (omega (arith, past))
beyond id (x ∷ xs) (flag ∷ flags) (suc at) (other, there) past =
    λ i. sym (unless_other id x flag other) i ∷ beyond id xs flags at there (omega (arith, past)) i

pub none_within : {X : Type 0} (at count : ℕ) (lent : Option X) → lent ≡ None → (at < count → IsSome lent) → count ≤ at
none_within at count (Some x) is within = absurd (cc)
none_within at count None is within = by (cases_lt at count)
  where
    by : (at < count) ⊎ (count ≤ at) → count ≤ at
    by (inl less) = let no : false ≡ true = within less in absurd (cc)
    by (inr more) = more
