-- What a run over its devices comes to.
use Rattle.std.specs.Prelude.{◌≡◌, ℕ, List, Option, Result}
use Rattle.std.specs.declared.io.Error.{Error}
use Rattle.pt_folder.specs.DestLaws.{Kept}
use Rattle.pt_folder.specs.HostDest.{failures_of, folder_path as dest_path, kept_by, synced_of, told as dest_told}
use Rattle.pt_folder.specs.HostSource.{failing, folder_path as store_path, told as source_told}
use Rattle.pt_folder.specs.declared.system.Handle.{Ghosts as OfHandle}
use Rattle.pt_folder.specs.declared.system.Input.{Ghosts as OfInput}
use Rattle.pt_folder.specs.declared.system.System.{Ghosts as OfSystem}
use Rattle.pt_host.specs.Devices.{seen_without}
use Rattle.pt_host.specs.Durable.{IsLogged, LogFailsBy}
use Rattle.pt_host.specs.Machine.{HostIoWords}
use Rattle.pt_host.specs.Made.{RunsFrom, Start}
use Rattle.pt_host.specs.Served.{ServesTo}
use Rattle.pt_host.specs.declared.devices.RunDevices.{RunDevices}
use Rattle.pt_host.specs.declared.host.HostIo.{HostIo}
use Rattle.pt_host.specs.declared.operation.Conclusion.{Conclusion}
use Rattle.pt_host.specs.declared.options.RunOptions.{RunOptions}
use Rattle.pt_state.specs.Outside.{states}

module _ {S D W E S-File S-Dir D-File D-Dir : Type 0} {of_store : OfSystem S S-File S-Dir} {store_handle : OfHandle S-File}
    {store_file : OfInput S-File} {store_dir : OfInput S-Dir} {of_folder : OfSystem D D-File D-Dir} {handle : OfHandle D-File}
    {file : OfInput D-File} {dir : OfInput D-Dir} where
  -- where a run starts over these devices, whose output holds what this says of it, without the entries of the store of these names
  abbrev pub start_over : (W → Option (List ℕ)) → List (List ℕ)
      → RunDevices S D W E S-File S-Dir D-File D-Dir of_store store_handle store_file store_dir of_folder handle file dir
      → Start D-File
  start_over contents ignored devices = record {
    at = record {
      store = store_path devices.source;
      folder = dest_path devices.dest;
      ignored = ignored;
      synced = synced_of devices.dest;
    };
    states = seen_without ignored (states (source_told devices.source) (dest_told devices.dest) (contents devices.log.writer)
        devices.source.failures (failures_of devices.dest) devices.log.failures);
    failing = failing devices.source;
    kept = kept_by devices.dest;
  }

  -- a run was made over these devices, to this of the systems and the output, and this end: from where they stood, with what serving it
  -- left of the destination's system; and if the log hadn't failed before, all that the output then holds was put onto the disk, where it
  -- has a file and no fault ended the run, and the log is blamed only where a piece of it couldn't be put
  pub record RunsOn (words : HostIoWords S D W (Kept D-File)) (writes : W → List ℕ → Result (Unit {0}) Error → W → Type 0)
      (puts : E → W → Result (Unit {0}) Error → E → Type 0) (options : RunOptions)
      (devices : RunDevices S D W E S-File S-Dir D-File D-Dir of_store store_handle store_file store_dir of_folder handle file dir)
      (end : HostIo S D W × Conclusion) : Type 0 where
    pub runs : RunsFrom words options (start_over words.output options.ignored devices)
        (ServesTo options.rehearse devices.dest end.0.folder) end.0 end.1
    pub logged : devices.log.failures ≡ 0
        → IsLogged puts devices.log.file devices.log.writer end.0.output end.1.status
    pub log_fails : devices.log.failures ≡ 0
        → LogFailsBy writes puts devices.log.file devices.log.writer end.0.output end.1.outcome.fault
