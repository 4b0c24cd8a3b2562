-- A log is blamed only where a piece of it couldn't be put.
use Rattle.std.proofs.Common.{◌≡◌, ◌∙◌, ℕ, List, arith, inl, inr, sym}
use Rattle.std.specs.Prelude.{◌⊎◌, Err, Ok, Option, Result, Some}
use Rattle.std.specs.Result.{result_err}
use Rattle.std.specs.declared.io.Error.{Error}
use Rattle.pt_move.specs.Counting.{Counts}
use Rattle.pt_plan.specs.declared.fault.Fault.{Fault}
use Rattle.pt_plan.specs.declared.fault.Fault.TheVariants as fault
use Rattle.pt_tree.specs.Failures.{HasRisen}
use Rattle.pt_host.specs.Durable.{HasFailedPut, LogFails, LogFailsBy, LogStays, state_of}
use Rattle.pt_host.specs.declared.durable_log.DurableLog.{DurableLog}

-- what is blamed has risen
blamed : {T : Type 0} (before after : ℕ) (ran : Result T Fault) → result_err ran ≡ Some fault.Log → Counts 3 before after ran → HasRisen before after
blamed before after (Ok x) is counts = absurd (cc)
blamed before after (Err fault.Log) is counts = counts
blamed before after (Err why) is counts = absurd (cc)

-- a count that rose from none changed
unchanged : (before after : ℕ) → before ≡ 0 → HasRisen before after → after ≡ before → ⊥
unchanged before after none risen same = omega (arith, none, risen, same)

module _ {W E : Type 0} (writes : W → List ℕ → Result (Unit {0}) Error → W → Type 0) (puts : E → W → Result (Unit {0}) Error → E → Type 0) where
  -- a log whose count rose has a piece that couldn't be put
  pub risen_put : (old new : DurableLog W E) → LogStays writes puts old new → old.failures ≡ 0 → HasRisen old.failures new.failures
      → LogFails writes puts old.file old.writer new.writer
  risen_put old new stays none risen = by stays.failed
    where
      by : (new.failures ≡ old.failures) ⊎ HasFailedPut writes puts (state_of writes puts old) (state_of writes puts new)
          → LogFails writes puts old.file old.writer new.writer
      by (inl same) = absurd (unchanged old.failures new.failures none risen same)
      by (inr it) = (new.file, it)

  -- so has one that is blamed
  pub log_blamed : {T : Type 0} (old new : DurableLog W E) (ran : Result T Fault) (told : Option Fault) → LogStays writes puts old new
      → Counts 3 old.failures new.failures ran → old.failures ≡ 0 → told ≡ result_err ran
      → LogFailsBy writes puts old.file old.writer new.writer told
  log_blamed old new ran told stays counts none same is =
      risen_put old new stays none (blamed old.failures new.failures ran (sym same ∙ is) counts)
