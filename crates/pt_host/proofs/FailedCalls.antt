-- A rehearsal failed as often as calls of it did.
use Rattle.std.proofs.Common.{◌≡◌, ◌∙◌, ℕ, ap, inl, inr, refl, sym, false, true}
use Rattle.std.specs.Prelude.{◌⊎◌, Bool}
use Rattle.pt_folder.specs.DestLaws.{Kept}
use Rattle.pt_folder.specs.HostDest.{failures_of, system_of}
use Rattle.pt_folder.specs.declared.dest.HostDest.{HostDest}
use Rattle.pt_folder.specs.declared.system.Handle.{Ghosts as OfHandle}
use Rattle.pt_folder.specs.declared.system.Input.{Ghosts as OfInput}
use Rattle.pt_folder.specs.declared.system.System.{Ghosts as OfSystem}
use Rattle.pt_rehearsal.specs.Calls.{Call, Calls, dest_of}
use Rattle.pt_rehearsal.specs.Calls.Calls.{none, next}
use Rattle.pt_rehearsal.specs.Calls.Call.{looks, peeks, makes_dir, makes_file, writes, closes, moves}
use Rattle.pt_rehearsal.specs.declared.rehearsal.Rehearsal.{Rehearsal}
use Rattle.pt_host.proofs.FailedSteps.{counted, dest_counts, risen}
use Rattle.pt_host.specs.Machine.{HostIoWords}
use Rattle.pt_host.specs.RehearsalFaultLaw.{HasFailedCall, IsFailedCall, RehearsalFaultMeansFailedCall}
use Rattle.pt_host.specs.Served.{BeginsOver, IsRehearsed, IsServed, IsSetUp}

module _ {S F D : Type 0} {sys : OfSystem S F D} {handle : OfHandle F} {file : OfInput F} {dir : OfInput D} where
  -- how often the destination failed that a rehearsal looks at
  abbrev count : Rehearsal S F D sys handle file dir → ℕ
  count r = r.dest.failures

  call_counts : (old new : Rehearsal S F D sys handle file dir) (call : Call old new) → (count new ≡ count old) ⊎ IsFailedCall old new call
  call_counts old new (looks p result asked still call) = counted (count old) (count new) result call.failures
  call_counts old new (peeks p block result asked still call) = counted (count old) (count new) result call.failures
  call_counts old new (makes_dir p result asked refused remembered call) = counted (count old) (count new) result call.failures
  call_counts old new (makes_file p result unasked refused remembered call) = counted (count old) (count new) result call.failures
  call_counts old new (writes piece same still) = inl (ap failures_of same)
  call_counts old new (closes same still) = inl (ap failures_of same)
  call_counts old new (moves from to result unasked refused remembered call) = counted (count old) (count new) result call.failures

  calls_count : (first last : Rehearsal S F D sys handle file dir) → Calls first last → (count last ≡ count first) ⊎ HasFailedCall first last
  calls_count first _ none = inl refl
  calls_count first last (next mid _ calls call) = by (calls_count first mid calls) (call_counts mid last call)
    where
      by : (count mid ≡ count first) ⊎ HasFailedCall first mid → (count last ≡ count mid) ⊎ IsFailedCall mid last call
          → (count last ≡ count first) ⊎ HasFailedCall first last
      by (inr failed) now = inr (record {
        old = failed.old;
        new = failed.new;
        before = failed.before;
        call = failed.call;
        failed = failed.failed;
        after = next mid last failed.after call;
      })
      by (inl same) (inl still) = inl (still ∙ same)
      by (inl same) (inr failed) = inr (record { old = mid; new = last; before = calls; call = call; failed = failed; after = none })

  served : (rehearse : Bool) (old new : HostDest S F D sys handle file dir) → rehearse ≡ true → IsServed rehearse old new → IsRehearsed old new
  served true old new is by = by
  served false old new is by = absurd (cc)

module _ {S D F R W : Type 0} (sys : OfSystem D F R) (handle : OfHandle F) (file : OfInput F) (dir : OfInput R) (words : HostIoWords S D W (Kept F)) where
  pub failed_call : RehearsalFaultMeansFailedCall sys handle file dir words
  failed_call call lent left end rehearsed made is = by (calls_count first last calls)
    where
      dest : HostDest D F R sys handle file dir
      dest = made.8.0

      new : HostDest D F R sys handle file dir
      new = made.8.2.0

      all : IsRehearsed dest new
      all = served call.options.rehearse dest new rehearsed made.8.2.1

      first : Rehearsal D F R sys handle file dir
      first = all.0

      last : Rehearsal D F R sys handle file dir
      last = all.1

      calls : Calls first last
      calls = all.3

      blamed : made.3.dest ≡ 0 → ⊥
      blamed = risen made.3.dest made.4.0 is (dest_counts call.options.job call.options.rehearse _ _ _ made.4.0 made.4.1)

      none_yet : count first ≡ 0
      none_yet = ap (λ t. t.3) all.2.still ∙ made.8.1.unfailed

      by : (count last ≡ count first) ⊎ HasFailedCall first last → (dest : HostDest D F R sys handle file dir)
          × IsSetUp call.options call.folder lent.folder dest × (first last : Rehearsal D F R sys handle file dir) × BeginsOver dest first
          × HasFailedCall first last × (system_of (dest_of last) ≡ left.folder)
      by (inl same) = absurd (blamed (sym made.8.2.3 ∙ ap failures_of all.4 ∙ same ∙ none_yet))
      by (inr failed) = (dest, made.8.1, first, last, all.2, failed, ap system_of (sym all.4) ∙ made.8.2.2)
