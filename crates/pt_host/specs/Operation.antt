-- A run, an audit or a check on a machine: guarded, recorded and held against a list alike.
use Rattle.std.specs.Prelude.{ℕ, List, Option}
use Rattle.pt_guard.specs.declared.places.Claim.{Claim}
use Rattle.pt_host.specs.Events.{EventHead, IsRecorded, event_head}
use Rattle.pt_host.specs.Machine.{MachineWords}
use Rattle.pt_host.specs.Made.{GuardsRecord, OfList}
use Rattle.pt_host.specs.declared.operation.Conclusion.{Conclusion}
use Rattle.pt_host.specs.declared.operation.Operation.{Ghosts as OfOperation}

-- what is asked for: the folders of a store and a destination, and what is made between them
abbrev pub Asked : Type 0 → Type 0
Asked A = (List ℕ × List ℕ) × A

module _ {H A : Type 0} (words : MachineWords H) (asks : Option (List ℕ) → Type 0) (op : OfOperation A) where
  -- it is made, with a list or without one, and a fault is told: from the machine before it to the one after it, which are a pair
  abbrev pub Makes : Asked A → H × H → Conclusion → Type 0
  Makes (folders, asked) hosts =
      OfList words (op.list_of asked) (λ old new. op.makes words asks folders asked (old, new)) hosts.0 hosts.1

  -- what its event begins with
  abbrev pub head_of : Asked A → EventHead
  head_of call = event_head (op.word_of call.1) call.0 op.with_dest (op.options_of call.1)

  -- what is asked for, recorded where a file is named for its event
  abbrev pub MakesRecorded : Asked A → H × H → ℕ → Type 0
  MakesRecorded call hosts =
      IsRecorded words (head_of call) (op.feedback_of call.1).event (λ old new. Makes call (old, new)) hosts.0 hosts.1

  -- the guard, with this lock, what is asked for, recorded where a file is named for its event, and the lock
  abbrev pub MakesGuarded : Claim × Asked A → H × H → ℕ → Type 0
  MakesGuarded (claim, call) hosts =
      GuardsRecord words claim (head_of call) (op.feedback_of call.1).event (λ old new. Makes call (old, new)) hosts.0 hosts.1
