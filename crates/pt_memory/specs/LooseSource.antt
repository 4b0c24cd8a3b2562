-- A source in memory that changes.
use Rattle.std.specs.Prelude.{◌≡◌, ℕ, true, ◌-◌, ◌==◌, cond, nat_le, List, Option, None, Some}
use Rattle.std.specs.Option.{option_map, option_map_or}
use Rattle.pt_memory.specs.declared.loose_source.LooseSource.{LooseSource}
use Rattle.pt_memory.specs.declared.loose_source.SwapFault.{SwapFault}
use Rattle.pt_memory.specs.declared.loose_source.SwapFault.TheVariants as swap
use Rattle.pt_tree.specs.Forest.{Forest, file_at, is_proper}
use Rattle.pt_memory.specs.MemSource.{SourceState, source_state, source_called, swapped}
use Rattle.pt_tree.specs.Path.{Path}
use Rattle.pt_tree.specs.Source.{Reading}

-- after so many more calls the file at the path holds these bytes
pub record Swapping : Type 0 where
  pub left : ℕ
  pub path : Path
  pub bytes : List ℕ

-- the tree in memory, and the swap that is still to come
pub record LooseState : Type 0 where
  pub source : SourceState
  pub swap : Option Swapping

-- what a source that changes holds: a source, and the swap that is still to come
abbrev pub loose_state : LooseSource → LooseState
loose_state l = record {
  source = source_state l.source;
  swap = option_map (λ s. record { left = s.left; path = s.path; bytes = s.bytes.items }) l.swap;
}

-- a call is over: the swap comes a call nearer, or acts and is gone
abbrev pub ticked : LooseState → LooseState
ticked s = by s.swap
  where
    by : Option Swapping → LooseState
    by None = s
    by (Some w) = cond (nat_le w.left 1)
        (record { source = swapped w.path w.bytes s.source; swap = None })
        (record { source = s.source; swap = Some (record w { left = w.left - 1 }) })

-- a call of the tree in memory, and then the swap's turn
pub record Then (gives : SourceState → Type 0) (old new : LooseState) : Type 0 where
  pub between : SourceState
  pub given : gives between
  pub ticks : new ≡ ticked (record { source = between; swap = old.swap })

-- no file is there
abbrev pub swap_refusal : Forest → Path → Option SwapFault
swap_refusal tree p = option_map_or (λ _. None) (file_at tree p) (Some swap.Absent)

-- the swap is the one that is still to come, or acts at once
abbrev pub after_swap : ℕ → Path → List ℕ → LooseState → LooseState
after_swap calls p bytes s =
    cond (calls == 0) (record { source = swapped p bytes s.source; swap = None })
    (record { source = s.source; swap = Some (record { left = calls; path = p; bytes = bytes }) })

-- the number of a refusal
abbrev pub swap_number : SwapFault → ℕ
swap_number swap.Absent = 1
swap_number swap.Memory = 2

-- how often it failed
abbrev pub loose_failures : LooseSource → ℕ
loose_failures l = l.source.fuse.failures

-- how often it was called
abbrev pub loose_called : LooseSource → ℕ → Type 0
loose_called l n = source_called l.source n

-- it tells nothing
pub untold : (source : LooseSource) (state : Reading) → None ≡ Some state → is_proper state.tree ≡ true
untold source state is = absurd (cc)
