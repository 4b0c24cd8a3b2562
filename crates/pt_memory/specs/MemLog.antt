-- What a log in memory holds.
use Rattle.std.specs.Prelude.{◌≡◌, ℕ, Bool, true, false, ◌-◌, ◌++◌, nat_le, take, length, List, Option, Some, Result, Ok, Err, MatchResult}
use Rattle.std.specs.Option.{option_map, option_map_or, unwrap_or}
use Rattle.pt_tree.specs.declared.faults.TreeFault.{TreeFault}
use Rattle.pt_tree.specs.declared.faults.TreeFault.TheVariants.{Device, Memory}
use Rattle.pt_memory.specs.declared.mem_log.MemLog.{MemLog}
use Rattle.pt_memory.specs.Fuse.{one_more}

-- the bytes, how many more it takes if it has a fuse, and the count of failures
pub record LogState : Type 0 where
  pub bytes : List ℕ
  pub left : Option ℕ
  pub failures : ℕ

-- what it holds: its bytes, how many more it takes, and its failures
abbrev pub log_state : MemLog → LogState
log_state l = record { bytes = l.bytes.items; left = l.left; failures = l.failures }

-- a piece of this length fits
abbrev pub fits : Option ℕ → ℕ → Bool
fits left count = option_map_or (λ k. nat_le count k) left true

-- the whole piece was taken
abbrev pub after_put : List ℕ → LogState → LogState
after_put piece s =
    record {
      bytes = s.bytes ++ piece;
      left = option_map (λ k. k - length piece) s.left;
      failures = s.failures;
    }

-- what fits was taken, and no more does
abbrev pub after_refused_put : List ℕ → LogState → LogState
after_refused_put piece s =
    record {
      bytes = s.bytes ++ take (unwrap_or s.left 0) piece;
      left = Some 0;
      failures = one_more s.failures;
    }

-- A put: the piece where it fits, else what fits and a failure; unless memory runs out, and then nothing is changed.
abbrev pub Puts : Bool → LogState → LogState → Result (Unit {0}) TreeFault → List ℕ → Type 0
Puts true old new result piece =
    MatchResult result (λ _. new ≡ after_put piece old) (λ e. (e ≡ Memory) × (new ≡ old))
Puts false old new (Ok u) piece = ⊥
Puts false old new (Err Device) piece = new ≡ after_refused_put piece old
Puts false old new (Err Memory) piece = new ≡ old
