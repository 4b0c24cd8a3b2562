-- What holds of every object's entries. `held` is how many files were met before them, and `depth` that of the object's directory.
use Rattle.std.specs.Prelude.{◌≡◌, ℕ, ◌+◌, List, [], ◌∷◌, ◌++◌, length, None, Some, MatchOption}
use Rattle.pt_walk.specs.declared.cause.Cause.{Cause}
use Rattle.pt_walk.specs.Limits.{Bounds}
use Rattle.pt_walk.specs.Object.{Entry, before_bad, empties, entry_cause, files, first_bad}

-- the files, and the directories without entries, of some entries and then of others
abbrev pub CountsInTurn : Type 0
CountsInTurn = (front others : List Entry) → (files (front ++ others) ≡ files front ++ files others)
    × (empties (front ++ others) ≡ empties front + empties others)

-- behind entries none of which is bad, the first bad one is that of the others
abbrev pub LooksBehindGoodEntries : Type 0
LooksBehindGoodEntries =
    (limits : Bounds) (depth held : ℕ) (front others : List Entry) → first_bad limits depth held front ≡ None
    → (first_bad limits depth held (front ++ others)
    ≡ first_bad limits depth (held + length (files front)) others)
    × (before_bad limits depth held (front ++ others)
    ≡ front ++ before_bad limits depth (held + length (files front)) others)

-- an entry for which there is no cause is one more of those that aren't bad
abbrev pub GoodEntriesGrow : Type 0
GoodEntriesGrow =
    (limits : Bounds) (depth held : ℕ) (front : List Entry) (entry : Entry)
    → first_bad limits depth held front ≡ None
    → entry_cause limits depth (held + length (files front)) entry ≡ None
    → first_bad limits depth held (front ++ entry ∷ []) ≡ None

-- an entry for which there is a cause, behind entries none of which is bad, is the first bad one
abbrev pub BadEntryIsFirst : Type 0
BadEntryIsFirst =
    (limits : Bounds) (depth held : ℕ) (front others : List Entry) (entry : Entry) (why : Cause)
    → first_bad limits depth held front ≡ None
    → entry_cause limits depth (held + length (files front)) entry ≡ Some why
    → (first_bad limits depth held (front ++ entry ∷ others) ≡ Some (entry, why))
    × (before_bad limits depth held (front ++ entry ∷ others) ≡ front)

-- the first bad entry stands behind those before it, and there is a cause for it; without one all entries are before it
abbrev pub SplitsAtTheFirstBad : Type 0
SplitsAtTheFirstBad =
    (limits : Bounds) (depth held : ℕ) (all : List Entry)
    → MatchOption (first_bad limits depth held all) (before_bad limits depth held all ≡ all)
    (λ bad. (others : List Entry) × (all ≡ before_bad limits depth held all ++ bad.0 ∷ others)
    × (entry_cause limits depth (held + length (files (before_bad limits depth held all))) bad.0
    ≡ Some bad.1))
