-- What a write leaves that adds nothing.
use Rattle.std.proofs.Common.{◌≡◌, ℕ, List, refl, sym, ◌∙◌}
use Rattle.std.specs.Prelude.{Err}
use Rattle.std.specs.declared.io.Error.{Error}
use Rattle.pt_tree.proofs.AtPaths.{added-nil}
use Rattle.pt_memory.specs.MemDest.{dest_tree}
use Rattle.pt_memory_system.specs.System.{SameFolders, Writes}
use Rattle.pt_memory_system.specs.declared.file.MemFile.{MemFile}
use Rattle.pt_memory_system.specs.declared.system.MemorySystem.{MemorySystem}

pub as_before : (s : MemorySystem) → SameFolders s s
as_before s = record { read = refl; source = refl; written = refl }

module _ (old new : MemorySystem) (stays : SameFolders old new) where
  pub nothing_added : (file after : MemFile) (piece : List ℕ) (e : Error) → after.path ≡ file.path
      → dest_tree new.dest ≡ dest_tree old.dest → Writes old file piece (Err e) new after
  nothing_added file after piece e stay same = record {
    stays = stays;
    path = stay;
    added = λ q here. (0, same ∙ sym (added-nil (dest_tree old.dest) q));
  }
