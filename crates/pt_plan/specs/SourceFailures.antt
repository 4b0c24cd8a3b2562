-- Where a source fails that a run asks.
use Rattle.std.specs.Prelude.{◌≡◌, ◌⊎◌, ℕ, true, [], ◌∷◌, Option, IsSome, ⊤}
use Rattle.std.specs.Option.{ForSome}
use Rattle.pt_plan.specs.Store.{pairtree_root, prefix_file}
use Rattle.pt_tree.specs.Failing.{Failing}
use Rattle.pt_tree.specs.Forest.{Forest, dir_at, file_at}
use Rattle.pt_tree.specs.Path.{Path}
use Rattle.pt_tree.specs.Source.{Reading, tree_in}

-- a run asks its source for what is at this path: the top, for entries of it, the file of the prefix, and what is at `pairtree_root` or below
abbrev pub IsAskedFor : Path → Type 0
IsAskedFor [] = ⊤
IsAskedFor (name ∷ path) = (name ≡ pairtree_root) ⊎ ((name ≡ prefix_file) × (path ≡ []))

-- a directory or a file stands there
abbrev pub StandsAt : Forest → Path → Type 0
StandsAt tree p = IsSome (dir_at tree p) ⊎ IsSome (file_at tree p)

-- a source, as far as it can halt a run: what it tells, where it fails, if it tells that, and how often it failed
pub record SourceView : Type 0 where
  pub told : Option Reading
  pub failing : Option Failing
  pub failed : ℕ

-- it fails at a directory or a file that a run asks for, or doesn't tell where it fails
abbrev pub FailsWhereAsked : SourceView → Type 0
FailsWhereAsked s = (p : Path) × IsAskedFor p × ForSome (tree_in s.told) (λ tree. StandsAt tree p)
    × ForSome s.failing (λ f. f.at p ≡ true)

-- it fails at the open file, or doesn't tell where it fails
abbrev pub FailsAtOpen : SourceView → Type 0
FailsAtOpen s = ForSome s.failing (λ f. f.reading ≡ true)

-- its count of failures changed only if it fails at something that a run asks for, or at the file that was open; and if it does so now,
-- it did so before
pub record FailsOnlyWhereAsked (old new : SourceView) : Type 0 where
  pub failed : (new.failed ≡ old.failed) ⊎ (FailsAtOpen old ⊎ FailsWhereAsked old)
  pub still : FailsAtOpen new ⊎ FailsWhereAsked new → FailsAtOpen old ⊎ FailsWhereAsked old
