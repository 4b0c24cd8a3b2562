-- A folder of which each call is known.
use Rattle.std.proofs.Common.{◌≡◌, ◌∙◌, ℕ, List, arith, inl, inr, refl}
use Rattle.std.specs.Prelude.{◌⊎◌, Err, MatchResult, None, Ok, OnErr, OnOk, Result}
use Rattle.pt_folder.specs.HostSource.{IsSameFolder}
use Rattle.pt_folder.specs.declared.source.HostSource.{HostSource}
use Rattle.pt_folder.specs.declared.system.Handle.{Ghosts as OfHandle}
use Rattle.pt_folder.specs.declared.system.Input.{Ghosts as OfInput}
use Rattle.pt_folder.specs.declared.system.System.{Ghosts as OfSystem}
use Rattle.pt_tree.specs.Failing.{ListsAs, LooksAs, OpensAs, ReadsAs}
use Rattle.pt_tree.specs.Failures.{HasRisen, IsCounted}
use Rattle.pt_tree.specs.Path.{Path}
use Rattle.pt_tree.specs.declared.faults.TreeFault.{TreeFault}
use Rattle.pt_tree.specs.declared.faults.TreeFault.TheVariants.{Device, Memory}
use Rattle.pt_host.specs.ReadSteps.{HasFailedRead, IsFailedRead, IsStepped, ReadStep, ReadSteps, next, none}
use Rattle.pt_host.specs.ReadSteps.{lists, lists_past, looks, opens, reads}

-- of what doesn't tell where it fails nothing is said
pub lists_untold : {T : Type 0} (p : Path) (result : Result T TreeFault) → ListsAs None None p result
unfolding ListsAs
lists_untold p result = λ f is. absurd (cc)

pub looks_untold : {T : Type 0} (p : Path) (result : Result T TreeFault) → LooksAs None None p result
unfolding LooksAs
looks_untold p result = λ f is. absurd (cc)

pub opens_untold : {T : Type 0} (p : Path) (result : Result T TreeFault) → OpensAs None None p result
unfolding OpensAs
opens_untold p result = λ f is. absurd (cc)

pub reads_untold : {T : Type 0} (block : List ℕ) (result : Result T TreeFault) → ReadsAs None None block result
unfolding ReadsAs
reads_untold block result = λ f is. absurd (cc)

-- both sides of an answer
pub both : {T E : Type 0} (result : Result T E) (P Q : Type 0) → OnOk result P → OnErr result Q → MatchResult result (λ x. P) (λ x. Q)
both (Ok x) P Q ok err = ok
both (Err e) P Q ok err = err

-- a count that changed changed by a failure
counted : {T : Type 0} (old new : ℕ) (result : Result T TreeFault) → IsCounted old new result → (new ≡ old) ⊎ (result ≡ Err Device)
counted old new (Ok x) same = inl same
counted old new (Err Memory) same = inl same
counted old new (Err Device) risen = inr refl

module _ {S F D : Type 0} {sys : OfSystem S F D} {handle : OfHandle F} {file : OfInput F} {dir : OfInput D} where
  -- one call was made
  pub stepped : (old new : HostSource S F D sys handle file dir) → IsSameFolder old new → ReadStep old new → IsStepped old new
  stepped old new same step = record { same = same; steps = next old new none step }

  step_counts : (old new : HostSource S F D sys handle file dir) (step : ReadStep old new) → (new.failures ≡ old.failures) ⊎ IsFailedRead old new step
  step_counts old new (lists p result listed fault call) = counted old.failures new.failures result call.failures
  step_counts old new (lists_past p refused result listed fault call) = counted old.failures new.failures result call.failures
  step_counts old new (looks p result asked call) = counted old.failures new.failures result call.failures
  step_counts old new (opens p result asked call) = counted old.failures new.failures result call.failures
  step_counts old new (reads block result asked call) = counted old.failures new.failures result call.failures

  -- it failed as often as calls of it did
  pub steps_count : (first last : HostSource S F D sys handle file dir) → ReadSteps first last → (last.failures ≡ first.failures) ⊎ HasFailedRead first last
  steps_count first _ none = inl refl
  steps_count first last (next mid _ steps step) = by (steps_count first mid steps) (step_counts mid last step)
    where
      by : (mid.failures ≡ first.failures) ⊎ HasFailedRead first mid → (last.failures ≡ mid.failures) ⊎ IsFailedRead mid last step
          → (last.failures ≡ first.failures) ⊎ HasFailedRead first last
      by (inr failed) now = inr (record {
        old = failed.old;
        new = failed.new;
        before = failed.before;
        step = failed.step;
        failed = failed.failed;
        after = next mid last failed.after step;
      })
      by (inl same) (inl still) = inl (still ∙ same)
      by (inl same) (inr failed) = inr (record { old = mid; new = last; before = steps; step = step; failed = failed; after = none })

  -- where its count rose from none, one of them failed
  pub risen_read : (first last : HostSource S F D sys handle file dir) → IsStepped first last → first.failures ≡ 0
      → HasRisen first.failures last.failures → HasFailedRead first last
  risen_read first last is none_yet risen = by (steps_count first last is.steps)
    where
      by : (last.failures ≡ first.failures) ⊎ HasFailedRead first last → HasFailedRead first last
      by (inl same) = absurd (omega (arith, none_yet, risen, same))
      by (inr failed) = failed
