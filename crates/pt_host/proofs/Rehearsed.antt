-- A run that was rehearsed, or made, over a folder as destination.
use Rattle.std.proofs.Common.{◌≡◌, ◌∙◌, ℕ, Bool, true, false, List, refl, ap, sym}
use Rattle.std.specs.Prelude.{Option, None, Some, is_some, Result}
use Rattle.pt_folder.specs.DestLaws.{Kept}
use Rattle.pt_folder.specs.HostDest.{told as told_by}
use Rattle.pt_folder.specs.declared.system.Handle.{Ghosts as OfHandle}
use Rattle.pt_folder.specs.declared.system.Input.{Ghosts as OfInput}
use Rattle.pt_folder.specs.declared.system.System.{Ghosts as OfSystem}
use Rattle.pt_move.specs.Migrates.{Migrates}
use Rattle.pt_plan.specs.declared.fault.Fault.{Fault}
use Rattle.pt_rehearsal.specs.Steps.{Step}
use Rattle.pt_rehearsal.specs.Fitting.{told_over}
use Rattle.pt_rehearsal.specs.Rehearsal.{told}
use Rattle.pt_rehearsal.specs.SameFolder.{SameFolder}
use Rattle.pt_rehearsal.specs.declared.rehearsal.Rehearsal.{Rehearsal}
use Rattle.pt_rehearsal.proofs.Staying.{told_still}
use Rattle.pt_state.specs.Outside.{states}
use Rattle.pt_state.specs.declared.job.Job.{Job}
use Rattle.pt_state.specs.declared.job.Report.{Report}
use Rattle.pt_tree.specs.Dest.{Writing}
use Rattle.pt_tree.specs.Source.{Reading}
use Rattle.pt_host.specs.Made.{IsRun, LeavesKept}

-- what is played over a tree is told where that is
over_told : (o : Option Writing) (steps : List Step) → is_some (told_over o steps) ≡ is_some o
over_told None steps = refl
over_told (Some w) steps = refl

module _ {S F D : Type 0} {sys : OfSystem S F D} {handle : OfHandle F} {file : OfInput F} {dir : OfInput D} where
  -- a rehearsal tells at its end if it told at its start
  pub tells_still : (begun ended : Rehearsal S F D sys handle file dir) → SameFolder begun.dest ended.dest → is_some (told ended) ≡ is_some (told begun)
  tells_still begun ended stays =
      over_told (told_by ended.dest) ended.played.steps ∙ ap is_some (told_still begun.dest ended.dest stays)
      ∙ sym (over_told (told_by begun.dest) begun.played.steps)

-- what is left of a folder is left at the same path
pub leaves_at : {S F : Type 0} (kept : S → List ℕ → Kept F) (rehearse : Bool) (was : Kept F) (system : S) {path path' : List ℕ} → path' ≡ path
    → LeavesKept rehearse was (kept system path') → LeavesKept rehearse was (kept system path)
leaves_at kept rehearse was system same leaves = rw same at leaves

module _ (job : Job) (was : Option Writing) (s s' : Option Reading) (l l' : Option (List ℕ)) (sf sf' lf lf' : ℕ) (ran : Result Report Fault) where
  pub rehearsed : (rehearse : Bool) (begun ended d d' : Option Writing) (df df' begun-df ended-df : ℕ)
      → rehearse ≡ true → begun ≡ was → is_some ended ≡ is_some begun → begun-df ≡ df → ended-df ≡ df'
      → Migrates job (states s begun l sf begun-df lf) (states s' ended l' sf' ended-df lf') ran
      → IsRun job rehearse was (states s d l sf df lf) (states s' d' l' sf' df' lf') ran
  rehearsed false begun ended d d' df df' begun-df ended-df is told tells fails fails' m = absurd (cc)
  rehearsed true begun ended d d' df df' begun-df ended-df is told tells fails fails' m = record {
    plays = ended;
    tells = tells ∙ ap is_some told;
    promises = rw (told, fails, fails') at m;
  }

  pub carried : (rehearse : Bool) (d d' : Option Writing) (df df' : ℕ) → rehearse ≡ false
      → Migrates job (states s d l sf df lf) (states s' d' l' sf' df' lf') ran
      → IsRun job rehearse was (states s d l sf df lf) (states s' d' l' sf' df' lf') ran
  carried true d d' df df' is m = absurd (cc)
  carried false d d' df df' is m = record { plays = was; tells = refl; promises = m }
