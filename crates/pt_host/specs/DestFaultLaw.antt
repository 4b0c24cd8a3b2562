-- What a run that is halted for its destination asked of it.
use Rattle.std.specs.Prelude.{◌≡◌, false, Err}
use Rattle.pt_folder.specs.DestLaws.{Kept}
use Rattle.pt_folder.specs.HostDest.{system_of}
use Rattle.pt_folder.specs.Steps.{Step, Steps}
use Rattle.pt_folder.specs.Steps.Step.{looks, peeks, makes_dir, makes_file, writes, closes, moves}
use Rattle.pt_folder.specs.declared.dest.HostDest.{HostDest}
use Rattle.pt_folder.specs.declared.system.Handle.{Ghosts as OfHandle}
use Rattle.pt_folder.specs.declared.system.Input.{Ghosts as OfInput}
use Rattle.pt_folder.specs.declared.system.System.{Ghosts as OfSystem}
use Rattle.pt_plan.specs.declared.fault.Fault.TheVariants as fault
use Rattle.pt_tree.specs.declared.faults.TreeFault.TheVariants.{Device}
use Rattle.pt_host.specs.Machine.{HostIoWords}
use Rattle.pt_host.specs.Made.{RunCall, RunsOver}
use Rattle.pt_host.specs.Served.{IsSetUp, Serves}
use Rattle.pt_host.specs.declared.host.HostIo.{HostIo}
use Rattle.pt_host.specs.declared.operation.Conclusion.{Conclusion}

module _ {S F D : Type 0} {sys : OfSystem S F D} {handle : OfHandle F} {file : OfInput F}
    {dir : OfInput D} where
  -- this step failed: a call of the system that it made did, or the step was refused, as the step says
  abbrev pub IsFailedStep : (old new : HostDest S F D sys handle file dir) → Step old new → Type 0
  IsFailedStep old new (looks p result asked call) = result ≡ Err Device
  IsFailedStep old new (peeks p block result asked call) = result ≡ Err Device
  IsFailedStep old new (makes_dir p result asked call) = result ≡ Err Device
  IsFailedStep old new (makes_file p result asked call) = result ≡ Err Device
  IsFailedStep old new (writes piece result asked call) = result ≡ Err Device
  IsFailedStep old new (closes result asked writing system call) = result ≡ Err Device
  IsFailedStep old new (moves from to result asked stays leaves call) = result ≡ Err Device

  -- of the steps from one destination to another this one failed
  pub record HasFailedStep (first last : HostDest S F D sys handle file dir) : Type 0 where
    pub old : HostDest S F D sys handle file dir
    pub new : HostDest S F D sys handle file dir
    pub before : Steps first old
    pub step : Step old new
    pub failed : IsFailedStep old new step
    pub after : Steps new last

module _ {S D F R W : Type 0} (sys : OfSystem D F R) (handle : OfHandle F) (file : OfInput F) (dir : OfInput R)
    (words : HostIoWords S D W (Kept F)) where
  -- where a run, and no rehearsal, was made over what was lent, and its answer is the fault of the destination, a step of that failed, of
  -- all those from the one that was set up as the options say to the one that left its system so
  abbrev pub DestFaultMeansFailedStep : Type 0
  DestFaultMeansFailedStep =
      (call : RunCall) (lent left : HostIo S D W) (end : Conclusion) → call.options.rehearse ≡ false
      → (made : RunsOver words call lent (Serves sys handle file dir call.options call.folder lent.folder left.folder) left end)
      → made.4.0 ≡ Err fault.Dest
      → (first last : HostDest D F R sys handle file dir) × IsSetUp call.options call.folder lent.folder first
      × HasFailedStep first last × (system_of last ≡ left.folder)
