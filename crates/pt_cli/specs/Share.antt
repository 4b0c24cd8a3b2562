-- The share that `--share` names, how `--by-folders` divides the store, and what of the share `--only` takes.
use Rattle.std.specs.Prelude.{ℕ, ◌==◌, ◌||◌, nat_lt, if◌then◌else◌, List, Option, None, Some, option_and_then}
use Rattle.std.specs.List.{after_first, before_first}
use Rattle.std.specs.Result.{result_ok}
use Rattle.clap.specs.Words.{Text}
use Rattle.pt_name.specs.Share.{Portion, share_of, whole}
use Rattle.pt_name.specs.declared.division.Division.TheVariants as division
use Rattle.pt_walk.specs.Limits.{greatest_limits}
use Rattle.pt_cli.specs.Arguments.{number_of}

-- what is made of something optional, if it is there: `do` below stands for it
infixl 10 ◌>>=◌
abbrev ◌>>=◌ : {A B : Type 0} → Option A → (A → Option B) → Option B
o >>= f = option_and_then f o

-- the share that a text names, as `2/8`: its number and how many there are
abbrev pub share_in : Text → Option Portion
share_in text = do
  index ← number_of (before_first (λ b. b == 47) text)
  count ← number_of (after_first (λ b. b == 47) text)
  result_ok (share_of index count)

-- the share that is asked for: the whole store where none is
abbrev pub share_asked : Option Text → Option Portion
share_asked None = Some whole
share_asked (Some text) = share_in text

-- the share, where the store is divided by its folders so deep: at a depth from 1 to the greatest at which one is listed
abbrev pub at_depth : Portion → ℕ → Option Portion
at_depth share depth =
    if depth == 0 || nat_lt greatest_limits.depth depth then None
    else Some (record share { division = division.Folders depth })

-- the share that these two texts ask for, whose number is this: divided by folders, where a depth is named beside a share
abbrev pub divided : Option Text → Option Text → Portion → Option Portion
divided asked None share = Some share
divided None (Some depth) share = None
divided (Some asked) (Some depth) share = option_and_then (at_depth share) (number_of depth)

-- of the share only what begins with these texts, where some are given
abbrev pub with_only : Option (List Text) → Portion → Portion
with_only None share = share
with_only (Some texts) share = record share { only = texts }
