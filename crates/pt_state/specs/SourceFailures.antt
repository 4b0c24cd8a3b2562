-- Where the source of a run fails, one call after another.
use Rattle.std.specs.Prelude.{◌≡◌, ◌⊎◌}
use Rattle.std.proofs.Common.{◌∙◌, inl, inr, refl}
use Rattle.pt_plan.specs.SourceFailures.{FailsAtOpen, FailsWhereAsked, FailsOnlyWhereAsked, SourceView}
use Rattle.pt_tree.specs.declared.source.Source.{Ghosts as OfSource}

-- a source, by the words of its trait
abbrev pub source_view : {S : Type 0} → OfSource S → S → SourceView
source_view words source =
    record { told = words.told source; failing = words.failing source; failed = words.failed source }

-- it wasn't called
pub fails_nowhere : (a : SourceView) → FailsOnlyWhereAsked a a
fails_nowhere a = record { failed = inl refl; still = λ fails. fails }

-- a call is followed by others
pub fails_on : (a b c : SourceView) → FailsOnlyWhereAsked a b → FailsOnlyWhereAsked b c → FailsOnlyWhereAsked a c
fails_on a b c first next = record { failed = by first.failed next.failed; still = λ fails. first.still (next.still fails) }
  where
    by : (b.failed ≡ a.failed) ⊎ (FailsAtOpen a ⊎ FailsWhereAsked a) → (c.failed ≡ b.failed) ⊎ (FailsAtOpen b ⊎ FailsWhereAsked b)
        → (c.failed ≡ a.failed) ⊎ (FailsAtOpen a ⊎ FailsWhereAsked a)
    by one (inr fails) = inr (first.still fails)
    by (inl same) (inl more) = inl (more ∙ same)
    by (inr fails) (inl more) = inr fails
