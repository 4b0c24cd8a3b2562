-- The words of systems that are seen by lengths, by those of the systems within.
use Rattle.std.specs.Prelude.{ℕ, List, Option}
use Rattle.pt_folder.specs.Untold.{no_fails, no_kept, no_paths}
use Rattle.pt_folder.specs.declared.system.Handle.{Ghosts as OfHandle}
use Rattle.pt_folder.specs.declared.system.Input.{Ghosts as OfInput}
use Rattle.pt_folder.specs.declared.system.System.{Ghosts as OfSystem}
use Rattle.pt_host.specs.Machine.{HostIoWords}
use Rattle.pt_host.specs.ReadSteps.{FailsBetween}
use Rattle.pt_quick.specs.ByLengths.{Asks, IsSame, LeadsToOwn, Measures, Opens, Renames, Writes, forest_by}
use Rattle.pt_quick.specs.SeenFile.{bytes_seen, goes_seen, left_seen, reads_seen, syncs_seen}
use Rattle.pt_quick.specs.declared.by_lengths.ByLengths.{ByLengths}
use Rattle.pt_quick.specs.declared.seen_file.SeenFile.{SeenFile}
use Rattle.pt_tree.specs.Forest.{Forest}

-- those of its calls
abbrev pub system_seen : {S F D : Type 0} → OfSystem S F D → OfSystem (ByLengths S) (SeenFile F) D
system_seen sys = record {
  forest = forest_by sys.forest;
  failing = λ _ _. no_paths;
  kept = λ _ _. no_kept;
  looks = Asks sys.looks IsSame;
  measures = Measures sys.measures;
  opens = Opens sys.measures sys.opens;
  makes_file = Asks sys.makes_file LeadsToOwn;
  opens_dir = Asks sys.opens_dir IsSame;
  makes_dir = Asks sys.makes_dir IsSame;
  renames = Renames sys.renames;
  writes = Writes sys.writes;
}

-- those of its open files, as they are read
abbrev pub input_seen : {F : Type 0} → OfInput F → OfInput (SeenFile F)
input_seen file = record { bytes = bytes_seen file.bytes; left = left_seen file.left; reads = reads_seen file.reads }

-- and beside that
abbrev pub handle_seen : {F : Type 0} → OfHandle F → OfHandle (SeenFile F)
handle_seen handle = record { goes = goes_seen handle.goes; syncs = syncs_seen handle.syncs; fails = no_fails }

-- a call failed that read a folder so
abbrev pub FailsSeen : {S F D : Type 0} → OfSystem S F D → OfHandle F → OfInput F → OfInput D → List ℕ → (old new : ByLengths S) → Type 0
FailsSeen sys handle file dir = FailsBetween (system_seen sys) (handle_seen handle) (input_seen file) dir

-- what is kept, as it is seen so: where the store's system fails isn't told
abbrev pub words_seen : {S D W : Type 0} → HostIoWords S D W (Option Forest) → HostIoWords (ByLengths S) (ByLengths D) W (Option Forest)
words_seen words = record {
  store = forest_by words.store;
  store_fails = λ _ _. no_paths;
  folder = forest_by words.folder;
  output = words.output;
}
