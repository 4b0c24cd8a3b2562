-- A destination failed as often as steps of it did.
use Rattle.std.proofs.Common.{◌≡◌, ◌∙◌, ℕ, arith, inl, inr, refl, sym, false, true}
use Rattle.std.specs.Prelude.{◌⊎◌, Bool, Err, Ok, Option, Result}
use Rattle.pt_folder.specs.DestLaws.{Kept}
use Rattle.pt_folder.specs.HostDest.{system_of}
use Rattle.pt_folder.specs.Steps.{Step, Steps}
use Rattle.pt_folder.specs.Steps.Steps.{none, next}
use Rattle.pt_folder.specs.Steps.Step.{looks, peeks, makes_dir, makes_file, writes, closes, moves}
use Rattle.pt_folder.specs.declared.dest.HostDest.{HostDest}
use Rattle.pt_folder.specs.declared.system.Handle.{Ghosts as OfHandle}
use Rattle.pt_folder.specs.declared.system.Input.{Ghosts as OfInput}
use Rattle.pt_folder.specs.declared.system.System.{Ghosts as OfSystem}
use Rattle.pt_move.specs.Counting.{Counts}
use Rattle.pt_plan.specs.DeviceStates.{DeviceStates}
use Rattle.pt_plan.specs.declared.fault.Fault.{Fault}
use Rattle.pt_plan.specs.declared.fault.Fault.TheVariants as fault
use Rattle.pt_state.specs.declared.job.Job.{Job}
use Rattle.pt_state.specs.declared.job.Report.{Report}
use Rattle.pt_tree.specs.Dest.{Writing}
use Rattle.pt_tree.specs.Failures.{IsCounted}
use Rattle.pt_tree.specs.declared.faults.TreeFault.{TreeFault}
use Rattle.pt_tree.specs.declared.faults.TreeFault.TheVariants.{Device, Memory}
use Rattle.pt_host.specs.DestFaultLaw.{DestFaultMeansFailedStep, HasFailedStep, IsFailedStep}
use Rattle.pt_host.specs.Machine.{HostIoWords}
use Rattle.pt_host.specs.Made.{IsRun}
use Rattle.pt_host.specs.Served.{IsServed, IsSetUp}

-- a count that changed changed by a failure
pub counted : {T : Type 0} (old new : ℕ) (result : Result T TreeFault) → IsCounted old new result → (new ≡ old) ⊎ (result ≡ Err Device)
counted old new (Ok x) same = inl same
counted old new (Err Memory) same = inl same
counted old new (Err Device) risen = inr refl

module _ {S F D : Type 0} {sys : OfSystem S F D} {handle : OfHandle F} {file : OfInput F} {dir : OfInput D} where
  step_counts : (old new : HostDest S F D sys handle file dir) (step : Step old new) → (new.failures ≡ old.failures) ⊎ IsFailedStep old new step
  step_counts old new (looks p result asked call) = counted old.failures new.failures result call.failures
  step_counts old new (peeks p block result asked call) = counted old.failures new.failures result call.failures
  step_counts old new (makes_dir p result asked call) = counted old.failures new.failures result call.failures
  step_counts old new (makes_file p result asked call) = counted old.failures new.failures result call.failures
  step_counts old new (writes piece result asked call) = counted old.failures new.failures result call.failures
  step_counts old new (closes result asked writing system call) = counted old.failures new.failures result call.failures
  step_counts old new (moves from to result asked stays leaves call) = counted old.failures new.failures result call.failures

  steps_count : (first last : HostDest S F D sys handle file dir) → Steps first last → (last.failures ≡ first.failures) ⊎ HasFailedStep first last
  steps_count first _ none = inl refl
  steps_count first last (next mid _ steps step) = by (steps_count first mid steps) (step_counts mid last step)
    where
      by : (mid.failures ≡ first.failures) ⊎ HasFailedStep first mid → (last.failures ≡ mid.failures) ⊎ IsFailedStep mid last step
          → (last.failures ≡ first.failures) ⊎ HasFailedStep first last
      by (inr failed) now = inr (record {
        old = failed.old;
        new = failed.new;
        before = failed.before;
        step = failed.step;
        failed = failed.failed;
        after = next mid last failed.after step;
      })
      by (inl same) (inl still) = inl (still ∙ same)
      by (inl same) (inr failed) = inr (record { old = mid; new = last; before = steps; step = step; failed = failed; after = none })

-- the destination is blamed exactly where it failed
pub dest_counts : (job : Job) (rehearse : Bool) (was : Option Writing) (old new : DeviceStates) (ran : Result Report Fault)
    → IsRun job rehearse was old new ran → Counts 2 old.failures.dest new.failures.dest ran
dest_counts job true was old new ran run = run.promises.dest
dest_counts job false was old new ran run = run.promises.dest

pub risen : (failed : ℕ) (ran : Result Report Fault) → ran ≡ Err fault.Dest → Counts 2 0 failed ran → failed ≡ 0 → ⊥
risen failed (Ok report) is counts never = absurd (cc)
risen failed (Err fault.Dest) is counts never = omega (arith, counts, never)
risen failed (Err why) is counts never = absurd (cc)

served : {S F D : Type 0} {sys : OfSystem S F D} {handle : OfHandle F} {file : OfInput F} {dir : OfInput D} (rehearse : Bool)
    (first last : HostDest S F D sys handle file dir) → rehearse ≡ false → IsServed rehearse first last → Steps first last
served true first last is by = absurd (cc)
served false first last is by = by

module _ {S D F R W : Type 0} (sys : OfSystem D F R) (handle : OfHandle F) (file : OfInput F) (dir : OfInput R) (words : HostIoWords S D W (Kept F)) where
  pub failed_step : DestFaultMeansFailedStep sys handle file dir words
  failed_step call lent left status real made is = by (steps_count first last (served call.options.rehearse first last real made.8.2.1))
    where
      first : HostDest D F R sys handle file dir
      first = made.8.0

      last : HostDest D F R sys handle file dir
      last = made.8.2.0

      blamed : made.3.dest ≡ 0 → ⊥
      blamed = risen made.3.dest made.4.0 is (dest_counts call.options.job call.options.rehearse _ _ _ made.4.0 made.4.1)

      by : (last.failures ≡ first.failures) ⊎ HasFailedStep first last → (first last : HostDest D F R sys handle file dir)
          × IsSetUp call.options call.folder lent.folder first × HasFailedStep first last × (system_of last ≡ left.folder)
      by (inl same) = absurd (blamed (sym made.8.2.3 ∙ same ∙ made.8.1.unfailed))
      by (inr failed) = (first, last, made.8.1, failed, made.8.2.2)
