-- Where a store fails that is read.
use Rattle.std.specs.Prelude.{◌≡◌, ◌⊎◌, true}
use Rattle.std.proofs.Common.{◌∙◌, inl, inr, refl}
use Rattle.std.specs.Option.{ForSome}
use Rattle.pt_plan.specs.SourceFailures.{FailsAtOpen, SourceView, StandsAt}
use Rattle.pt_state.specs.SourceFailures.{source_view}
use Rattle.pt_tree.specs.Path.{Path}
use Rattle.pt_tree.specs.Source.{tree_in}
use Rattle.pt_tree.specs.declared.source.Source.{Ghosts as OfSource}

-- it fails at a directory or a file that stands in it, or doesn't tell where it fails
abbrev pub FailsWhereStands : SourceView → Type 0
FailsWhereStands s = (p : Path) × ForSome (tree_in s.told) (λ tree. StandsAt tree p) × ForSome s.failing (λ f. f.at p ≡ true)

-- its count of failures changed only if it fails at something that stands in it, or at the file that was open; and if it does so now,
-- it did so before
pub record FailsOnlyWhereStands (old new : SourceView) : Type 0 where
  pub failed : (new.failed ≡ old.failed) ⊎ (FailsAtOpen old ⊎ FailsWhereStands old)
  pub still : FailsAtOpen new ⊎ FailsWhereStands new → FailsAtOpen old ⊎ FailsWhereStands old

-- it wasn't called
pub stands_itself : (a : SourceView) → FailsOnlyWhereStands a a
stands_itself a = record { failed = inl refl; still = λ fails. fails }

-- a call is followed by others
pub stands_on : (a b c : SourceView) → FailsOnlyWhereStands a b → FailsOnlyWhereStands b c → FailsOnlyWhereStands a c
stands_on a b c first next = record { failed = by first.failed next.failed; still = λ fails. first.still (next.still fails) }
  where
    by : (b.failed ≡ a.failed) ⊎ (FailsAtOpen a ⊎ FailsWhereStands a) → (c.failed ≡ b.failed) ⊎ (FailsAtOpen b ⊎ FailsWhereStands b)
        → (c.failed ≡ a.failed) ⊎ (FailsAtOpen a ⊎ FailsWhereStands a)
    by one (inr fails) = inr (first.still fails)
    by (inl same) (inl more) = inl (more ∙ same)
    by (inr fails) (inl more) = inr fails

-- it is the same source still, and failed only where it fails at something that stands in it
pub record IsTraced {S : Type 0} (words : OfSource S) (old new : S) : Type 0 where
  pub keeps : words.keeps old new
  pub fails : FailsOnlyWhereStands (source_view words old) (source_view words new)
