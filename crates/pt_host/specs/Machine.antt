-- What a machine's calls may answer and leave, and what it lends.
use Rattle.std.specs.Prelude.{ℕ, Bool, List, Option, Result}
use Rattle.std.specs.declared.io.Error.{Error}
use Rattle.pt_folder.specs.DestLaws.{Kept}
use Rattle.pt_guard.specs.PlaceCall.{PlaceCall}
use Rattle.pt_tree.specs.Forest.{Forest}
use Rattle.pt_tree.specs.Path.{Path}
use Rattle.pt_host.specs.HostCall.{HostCall}
use Rattle.pt_host.specs.declared.host.HostIo.{HostIo}
use Rattle.pt_host.specs.declared.options.RunOptions.{RunOptions}
use Rattle.pt_quick.specs.declared.by_lengths.ByLengths.{ByLengths}

-- of what a machine lends: what its two systems keep at a path, where they tell it, and what the output holds; and at which paths below it
-- the store's system fails, where it tells that
pub record HostIoWords (S D W K : Type 0) : Type 0 where
  pub store : S → List ℕ → Option Forest
  pub store_fails : S → List ℕ → Option (Path → Bool)
  pub folder : D → List ℕ → K
  pub output : W → Option (List ℕ)

-- these four as one
abbrev pub host_io_words : {S D W K : Type 0} → (S → List ℕ → Option Forest)
    → (S → List ℕ → Option (Path → Bool)) → (D → List ℕ → K) → (W → Option (List ℕ)) → HostIoWords S D W K
host_io_words store fails folder output =
    record { store = store; store_fails = fails; folder = folder; output = output }

-- a machine by its words: what its calls on places and its own may come to; the syncing of the output's file alone; the
-- writing of the output, and that syncing behind it. And those of what it lends, as a run writes and as an audit reads it,
-- with what serving a run leaves of the destination's system, and how many calls failed then; and where a call failed that
-- read a folder there. And where one did that read it seen by lengths
pub record MachineWords (H : Type 0) : Type 1 where
  pub Lock : Type 0
  pub Store : Type 0
  pub Dest : Type 0
  pub DestFile : Type 0
  pub Output : Type 0
  pub OutputFile : Type 0
  pub places : H → PlaceCall Lock → H → Type 0
  pub host : H → HostCall OutputFile (HostIo Store Dest Output) → H → Type 0
  pub syncs : OutputFile → Result (Unit {0}) Error → OutputFile → Type 0
  pub writes : Output → List ℕ → Result (Unit {0}) Error → Output → Type 0
  pub puts : OutputFile → Output → Result (Unit {0}) Error → OutputFile → Type 0
  pub written : HostIoWords Store Dest Output (Kept DestFile)
  pub read : HostIoWords Store Dest Output (Option Forest)
  pub serves : RunOptions → List ℕ → Dest → Dest → ℕ → Type 0
  pub fails : List ℕ → Dest → Dest → Type 0
  pub fails_seen : List ℕ → ByLengths Dest → ByLengths Dest → Type 0

-- what a machine lends
abbrev pub HostIoOf : {H : Type 0} → MachineWords H → Type 0
HostIoOf words = HostIo words.Store words.Dest words.Output
