-- What a check over a store's folder says of what its system keeps.
use Rattle.std.proofs.Common.{◌≡◌, ◌∙◌, ℕ, List, [], refl, subst}
use Rattle.std.specs.Prelude.{Bool, IfErr, IfOk, None, Option, Result, Ok, Err, Some}
use Rattle.std.specs.Option.{ForSome}
use Rattle.pt_check.specs.Counting.{no_numbers}
use Rattle.pt_check.specs.Faults.{LogFailsAs}
use Rattle.pt_check.specs.Visits.{ChecksShare, CheckState}
use Rattle.pt_check.specs.declared.numbers.Numbers.{Numbers}
use Rattle.pt_check.specs.declared.wants.Wants.{Wants}
use Rattle.pt_name.specs.Share.{Portion}
use Rattle.pt_plan.specs.declared.fault.Fault.{Fault}
use Rattle.pt_plan.specs.declared.fault.Fault.TheVariants as fault
use Rattle.pt_folder.specs.SourceHeld.{failing_of}
use Rattle.pt_folder.specs.declared.reading.FileInReading.{FileInReading}
use Rattle.pt_tree.specs.Failing.{failing_paths}
use Rattle.pt_tree.specs.Failures.{HasRisen}
use Rattle.pt_tree.specs.Forest.{Forest}
use Rattle.pt_tree.specs.Path.{Path}
use Rattle.pt_host.specs.Checking.{CheckCall, ChecksTree, IsFaultOfCheck, says_anything, unbegun, wants_of}

-- a check is one of a call, whatever its tree and how far it is are called
pub checks_as : (ran : Result Numbers Fault) (call : CheckCall) (a b : CheckState) {share : Portion} {wants : Wants} {tree store : Option Forest}
    {failing : Option (Path → Bool)} {was held : Option (List ℕ)} {unmet : List (Option (List ℕ))}
    → share ≡ call.options.share → wants ≡ wants_of call.options → tree ≡ store → a.failing ≡ failing → a.failed ≡ 0 → a.held ≡ was
    → a.numbers ≡ no_numbers → a.unmet ≡ [] → b.held ≡ held → b.unmet ≡ unmet
    → IfOk ran (λ numbers. ForSome tree (λ t. ChecksShare says_anything share wants t numbers a b))
    → IfOk ran (λ numbers. ForSome store (ChecksTree call failing was held unmet numbers))
checks_as (Err why) call a b share_is wants_are same untold unfailed held uncounted none held_is unmet_is checks = tt
checks_as (Ok numbers) call a b {share} {wants} {failing = failing} {was = was} share_is wants_are same untold unfailed held uncounted none held_is unmet_is
    checks =
    let begun : a ≡ unbegun failing was = λ i. record { failing = untold i; failed = unfailed i; held = held i; numbers = uncounted i; unmet = none i } in
    λ t is. (
      b,
      held_is,
      unmet_is,
      subst (λ (s : CheckState). ChecksShare says_anything call.options.share (wants_of call.options) t numbers s b) begun
          (subst (λ (w : Wants). ChecksShare says_anything call.options.share w t numbers a b) wants_are
          (subst (λ (s : Portion). ChecksShare says_anything s wants t numbers a b) share_is (checks t (same ∙ is)))),
    )

-- a source over a folder tells the paths at which its system fails
pub paths_of : {F : Type 0} (fails : Option (F → Bool)) (paths : Option (Path → Bool)) (reading : Option (FileInReading F))
    → failing_paths (failing_of fails paths reading) ≡ paths
paths_of fails None reading = refl
paths_of fails (Some at) reading = refl

-- whichever fault it answers, it is one of a check: a log whose count rose has a piece that couldn't be put
pub answers : {failed : Type 0} (ran : Result Numbers Fault) (old new : ℕ) → LogFailsAs old new ran → (HasRisen old new → failed)
    → IfErr ran (IsFaultOfCheck failed)
answers (Ok numbers) old new fails put = tt
answers (Err fault.Source) old new fails put = absurd fails
answers (Err fault.Dest) old new fails put = absurd fails
answers (Err fault.Log) old new fails put = put fails
answers (Err fault.Memory) old new fails put = tt
answers (Err fault.NotPairtree) old new fails put = absurd fails
answers (Err fault.Prefix) old new fails put = absurd fails
answers (Err fault.StagingLeft) old new fails put = absurd fails
answers (Err fault.Target) old new fails put = absurd fails
answers (Err fault.Changed) old new fails put = absurd fails
answers (Err fault.Turns) old new fails put = absurd fails
answers (Err fault.Ended) old new fails put = absurd fails
