-- The first bad entry of an object, and those before it.
use Rattle.std.proofs.Common.{◌≡◌, ℕ, List, [], ◌∷◌, ◌++◌, ◌+◌, length, refl, arith, ◌∙◌, ap, sym, append-nil, zero-add}
use Rattle.std.specs.Prelude.{cond, Option, None, Some, MatchOption, is_none}
use Rattle.pt_tree.specs.Forest.{File, Dir, Other}
use Rattle.pt_walk.specs.declared.cause.Cause.{Cause}
use Rattle.pt_walk.specs.Limits.{Bounds}
use Rattle.pt_walk.specs.Object.{Entry, bad_or, before_bad, empties, entry_cause, files, files_with, first_bad}
use Rattle.pt_walk.specs.ObjectLaws.{CountsInTurn, LooksBehindGoodEntries, GoodEntriesGrow, BadEntryIsFirst, SplitsAtTheFirstBad}

pub counts : CountsInTurn
counts [] others = (refl, sym (zero-add (empties others)))
counts ((path, File bytes) ∷ front) others =
    let more = counts front others in
    (ap (λ l. (path, bytes) ∷ l) more.0, more.1)
counts ((path, Dir inside) ∷ front) others =
    let more = counts front others in
    let here = more.1 in
    (more.0, omega (arith, here))
counts ((path, Other) ∷ front) others = counts front others

-- the files so far, by one entry more
files_with-is : (held : ℕ) (entry : Entry) (front : List Entry) → files_with held entry + length (files front) ≡ held + length (files (entry ∷ front))
files_with-is held (path, File bytes) front = omega arith
files_with-is held (path, Dir inside) front = refl
files_with-is held (path, Other) front = refl

none_here : (why : Option Cause) (entry : Entry) (later : Option (Entry × Cause)) → bad_or why entry later ≡ None → (why ≡ None) × (later ≡ None)
none_here None entry later e = (refl, e)
none_here (Some why) entry later e = absurd (cc)

pub looks_behind : LooksBehindGoodEntries
looks_behind limits depth held [] others good =
    let at : held ≡ held + 0 = omega arith in
    (ap (λ n. first_bad limits depth n others) at, ap (λ n. before_bad limits depth n others) at)
looks_behind limits depth held (entry ∷ front) others good =
    let parts = none_here (entry_cause limits depth held entry) entry (first_bad limits depth (files_with held entry) front) good in
    let more = looks_behind limits depth (files_with held entry) front others parts.1 in
    let at = files_with-is held entry front in (
      ap (λ why. bad_or why entry (first_bad limits depth (files_with held entry) (front ++ others))) parts.0
          ∙ more.0
          ∙ ap (λ n. first_bad limits depth n others) at,
      ap (λ why. cond (is_none why) (entry ∷ before_bad limits depth (files_with held entry) (front ++ others)) []) parts.0
          ∙ ap (λ l. entry ∷ l) more.1
          ∙ ap (λ n. entry ∷ (front ++ before_bad limits depth n others)) at,
    )

pub grow : GoodEntriesGrow
grow limits depth held front entry good none =
    (looks_behind limits depth held front (entry ∷ []) good).0
    ∙ ap (λ why. bad_or why entry None) none

pub bad_first : BadEntryIsFirst
bad_first limits depth held front others entry why good bad =
    let behind = looks_behind limits depth held front (entry ∷ others) good in
    let now = held + length (files front) in (
      behind.0 ∙ ap (λ w. bad_or w entry (first_bad limits depth (files_with now entry) others)) bad,
      behind.1 ∙ ap (λ w. front ++ cond (is_none w) (entry ∷ before_bad limits depth (files_with now entry) others) []) bad ∙ append-nil front,
    )

-- what is said of the first bad entry
abbrev Splits : Bounds → ℕ → ℕ → List Entry → Option (Entry × Cause) → List Entry → Type 0
Splits limits depth held all found before =
    MatchOption found (before ≡ all) (λ bad. (others : List Entry) × (all ≡ before ++ bad.0 ∷ others)
    × (entry_cause limits depth (held + length (files before)) bad.0 ≡ Some bad.1))

splits_more : (limits : Bounds) (depth held : ℕ) (entry : Entry) (others : List Entry) (found : Option (Entry × Cause)) (before : List Entry)
    → Splits limits depth (files_with held entry) others found before → Splits limits depth held (entry ∷ others) found (entry ∷ before)
splits_more limits depth held entry others None before h = ap (λ l. entry ∷ l) h
splits_more limits depth held entry others (Some bad) before h =
    (h.0, ap (λ l. entry ∷ l) h.1, ap (λ n. entry_cause limits depth n bad.0) (sym (files_with-is held entry before)) ∙ h.2)

pub splits : SplitsAtTheFirstBad
splits limits depth held [] = refl
splits limits depth held (entry ∷ others) = by_cause (entry_cause limits depth held entry) refl (splits limits depth (files_with held entry) others)
  where
    by_cause : (why : Option Cause) → entry_cause limits depth held entry ≡ why
        → Splits limits depth (files_with held entry) others (first_bad limits depth (files_with held entry) others)
        (before_bad limits depth (files_with held entry) others)
        → Splits limits depth held (entry ∷ others) (bad_or why entry (first_bad limits depth (files_with held entry) others))
        (cond (is_none why) (entry ∷ before_bad limits depth (files_with held entry) others) [])
    by_cause None is h = splits_more limits depth held entry others (first_bad limits depth (files_with held entry) others)
        (before_bad limits depth (files_with held entry) others) h
    by_cause (Some why) is h =
        let at : held + 0 ≡ held = omega arith in
        (others, refl, ap (λ n. entry_cause limits depth n entry) at ∙ is)
