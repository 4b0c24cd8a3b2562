-- What a rehearsal that is halted for its destination asked of it.
use Rattle.std.specs.Prelude.{◌≡◌, true, Err}
use Rattle.pt_folder.specs.DestLaws.{Kept}
use Rattle.pt_folder.specs.HostDest.{system_of}
use Rattle.pt_folder.specs.declared.dest.HostDest.{HostDest}
use Rattle.pt_folder.specs.declared.system.Handle.{Ghosts as OfHandle}
use Rattle.pt_folder.specs.declared.system.Input.{Ghosts as OfInput}
use Rattle.pt_folder.specs.declared.system.System.{Ghosts as OfSystem}
use Rattle.pt_plan.specs.declared.fault.Fault.TheVariants as fault
use Rattle.pt_rehearsal.specs.Calls.{Call, Calls, dest_of}
use Rattle.pt_rehearsal.specs.Calls.Call.{looks, peeks, makes_dir, makes_file, writes, closes, moves}
use Rattle.pt_rehearsal.specs.declared.rehearsal.Rehearsal.{Rehearsal}
use Rattle.pt_tree.specs.declared.faults.TreeFault.TheVariants.{Device}
use Rattle.pt_host.specs.Machine.{HostIoWords}
use Rattle.pt_host.specs.Made.{RunCall, RunsOver}
use Rattle.pt_host.specs.Served.{BeginsOver, IsSetUp, Serves}
use Rattle.pt_host.specs.declared.host.HostIo.{HostIo}
use Rattle.pt_host.specs.declared.operation.Conclusion.{Conclusion}

module _ {S F D : Type 0} {sys : OfSystem S F D} {handle : OfHandle F} {file : OfInput F}
    {dir : OfInput D} where
  -- this call failed: a call of the system that it made did, or it was refused, as the call says; what changes nothing of the system and
  -- needs no memory fails never
  abbrev pub IsFailedCall : (old new : Rehearsal S F D sys handle file dir) → Call old new → Type 0
  IsFailedCall old new (looks p result asked still call) = result ≡ Err Device
  IsFailedCall old new (peeks p block result asked still call) = result ≡ Err Device
  IsFailedCall old new (makes_dir p result asked refused remembered call) = result ≡ Err Device
  IsFailedCall old new (makes_file p result unasked refused remembered call) = result ≡ Err Device
  IsFailedCall old new (writes piece same still) = ⊥
  IsFailedCall old new (closes same still) = ⊥
  IsFailedCall old new (moves from to result unasked refused remembered call) = result ≡ Err Device

  -- of the calls from one rehearsal to another this one failed
  pub record HasFailedCall (first last : Rehearsal S F D sys handle file dir) : Type 0 where
    pub old : Rehearsal S F D sys handle file dir
    pub new : Rehearsal S F D sys handle file dir
    pub before : Calls first old
    pub call : Call old new
    pub failed : IsFailedCall old new call
    pub after : Calls new last

module _ {S D F R W : Type 0} (sys : OfSystem D F R) (handle : OfHandle F) (file : OfInput F) (dir : OfInput R)
    (words : HostIoWords S D W (Kept F)) where
  -- where a rehearsal was made over what was lent, and its answer is the fault of the destination, a call of it failed, of all those
  -- from the one that remembers nothing, over a destination that was set up as the options say, to the one that left its system so
  abbrev pub RehearsalFaultMeansFailedCall : Type 0
  RehearsalFaultMeansFailedCall =
      (call : RunCall) (lent left : HostIo S D W) (end : Conclusion) → call.options.rehearse ≡ true
      → (made : RunsOver words call lent (Serves sys handle file dir call.options call.folder lent.folder left.folder) left end)
      → made.4.0 ≡ Err fault.Dest
      → (dest : HostDest D F R sys handle file dir) × IsSetUp call.options call.folder lent.folder dest
      × (first last : Rehearsal D F R sys handle file dir) × BeginsOver dest first
      × HasFailedCall first last × (system_of (dest_of last) ≡ left.folder)
