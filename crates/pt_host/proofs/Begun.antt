-- A run over devices that were just made.
use Rattle.std.proofs.Common.{◌≡◌, ℕ, Bool, List, Option, None}
use Rattle.pt_folder.specs.DestHeld.{told_with as dest_told}
use Rattle.pt_folder.specs.DestLaws.{Kept}
use Rattle.pt_folder.specs.Reading.{unread_open}
use Rattle.pt_folder.specs.SourceHeld.{failing_of, told_of as source_told}
use Rattle.pt_folder.specs.declared.reading.FileInReading.{FileInReading}
use Rattle.pt_folder.specs.declared.unsynced_change.UnsyncedChange.{UnsyncedChange}
use Rattle.pt_folder.specs.declared.writing.FileInWriting.{FileInWriting as Open}
use Rattle.pt_tree.specs.Ignoring.{told_without}
use Rattle.pt_host.specs.Machine.{HostIoWords}
use Rattle.pt_host.specs.Made.{RunCall, RunsFrom, RunsOver}
use Rattle.pt_host.specs.declared.host.HostIo.{HostIo}
use Rattle.pt_host.specs.declared.operation.Conclusion.{Conclusion}
use Rattle.pt_state.specs.Outside.{states}

pub begun : {S D W E F : Type 0} (words : HostIoWords S D W (Kept F)) (bytes : E → Option (List ℕ)) (fails : Option (E → Bool)) (call : RunCall)
    (host_io : HostIo S D W) (s : S) (s-at : List ℕ) (r : Option (FileInReading E)) (s-fails : ℕ) (d : D) (d-at : List ℕ)
    (synced : Bool) (unsynced : Option UnsyncedChange) (w : Option (Open F)) (d-fails : ℕ) (o : W) (l-fails : ℕ)
    → (s ≡ host_io.store) × (s-at ≡ call.store) → (r ≡ None) × (s-fails ≡ 0) → (d ≡ host_io.folder) × (d-at ≡ call.folder) → (w ≡ None) × (d-fails ≡ 0)
    → (synced ≡ call.options.sync) × (unsynced ≡ None) → (o ≡ host_io.output) × (l-fails ≡ 0)
    → (served serves : ℕ → Type 0) → ((failed : ℕ) → served failed → serves failed) → (after : HostIo S D W) (end : Conclusion)
    → RunsFrom words call.options (record {
      at = record { store = s-at; folder = d-at; ignored = call.options.ignored; synced = synced };
      states = states (told_without call.options.ignored (source_told (words.store s s-at) (unread_open bytes r))) (dest_told (words.folder d d-at) unsynced w)
          (words.output o) s-fails d-fails l-fails;
      failing = failing_of fails (words.store_fails s s-at) r;
      kept = words.folder d d-at;
    }) served after end
    → RunsOver words call host_io serves after end
begun words bytes fails call host_io s s-at r s-fails d d-at synced unsynced w d-fails o l-fails (s-is, s-at-is) (r-is, s-none) (d-is, d-at-is) (w-is, d-none)
    (synced-is, unsynced-is) (o-is, l-none) served serves leads after end run =
    let from = rw (s-is, s-at-is, r-is, s-none, d-is, d-at-is, unsynced-is, w-is, d-none, synced-is, o-is, l-none) at run in
    (from.0, from.1, from.2, from.3, from.4, from.5, from.6, from.7, leads from.3.dest from.8)
