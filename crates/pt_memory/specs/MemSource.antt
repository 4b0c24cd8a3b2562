-- What a source in memory holds.
use Rattle.std.specs.Prelude.{◌≡◌, ℕ, Bool, true, false, ◌+◌, ◌%◌, ◌^◌, cond, take, drop, length, List, Option, None, Some, Result, Ok, Err, MatchResult}
use Rattle.std.specs.Option.{option_map, option_and_then}
use Rattle.pt_memory.specs.declared.mem_source.MemSource.{MemSource}
use Rattle.pt_memory.specs.declared.fuse.Fuse.{Fuse}
use Rattle.pt_memory.specs.Entries.{forest_of, open_of}
use Rattle.pt_tree.specs.declared.faults.TreeFault.{TreeFault}
use Rattle.pt_tree.specs.declared.faults.TreeFault.TheVariants.{Device, Memory}
use Rattle.pt_tree.specs.declared.kind.Kind.{Kind}
use Rattle.pt_tree.specs.Forest.{Forest, none, changed, file_at, kind_at, listing_at, rewritten}
use Rattle.pt_tree.specs.Listing.{Item}
use Rattle.pt_memory.specs.Opening.{moved_on}
use Rattle.pt_memory.specs.Fuse.{after_call, after_failure, is_blown, with_fuse}
use Rattle.pt_tree.specs.Path.{Path, last_name, parent}
use Rattle.pt_tree.specs.Source.{Reading}
use Rattle.pt_tree.specs.Tree.{Entry, tree_of, put}

-- the tree, the open file's path and place, the fuse with the failures, and the number of calls modulo 2^64
pub record SourceState : Type 0 where
  pub tree : Forest
  pub reading : Option (Path × ℕ)
  pub fuse : Fuse
  pub calls : ℕ

-- what it holds: its tree, which file is open, its fuse, and its calls
abbrev pub source_state : MemSource → SourceState
source_state s =
    record { tree = forest_of s.entries; reading = open_of s.entries; fuse = s.fuse; calls = s.calls }

-- the tree that it holds
abbrev pub source_tree : MemSource → Forest
source_tree s = forest_of s.entries

-- what a new one holds: nothing
abbrev pub new_state : SourceState
new_state = record { tree = none; reading = None; fuse = record { left = None; failures = 0 }; calls = 0 }

-- the bytes of the open file from its place on
abbrev pub unread_of : SourceState → Option (List ℕ)
unread_of s = option_and_then (λ o. option_map (drop o.1) (file_at s.tree o.0)) s.reading

-- what it tells
abbrev pub reading_of : SourceState → Reading
reading_of s = record { tree = s.tree; unread = unread_of s }

-- a call was counted, and used the fuse
abbrev pub after_source_call : SourceState → SourceState
after_source_call s = record s { fuse = after_call s.fuse; calls = (s.calls + 1) % 2 ^ 64 }

-- this stands at the path now, and all else is as before
pub record IsPlanted (entry : Entry) (p : Path) (old new : SourceState) : Type 0 where
  pub planted : tree_of new.tree ≡ put (tree_of old.tree) p entry
  pub others : new ≡ record old { tree = new.tree }

-- with another fuse
abbrev pub fused : Option ℕ → SourceState → SourceState
fused left s = record s { fuse = with_fuse left s.fuse }

-- a call that was counted failed beside that
abbrev pub after_source_failure : SourceState → SourceState
after_source_failure s = record (after_source_call s) { fuse = after_failure (after_call s.fuse) }

-- a call was counted, and failed by the fuse, or though the fuse let it pass
abbrev pub after_refusal : SourceState → SourceState
after_refusal s = cond (is_blown s.fuse) (after_source_call s) (after_source_failure s)

-- A call: it fails by the fuse, or because what it needs isn't there; else P says what it gives.
abbrev pub CallGives : {T X : Type 0} → Bool → SourceState → SourceState → Option X
    → Result T TreeFault → (X → Type 0) → Type 0
CallGives true old new needed result P = (result ≡ Err Device) × (new ≡ after_source_call old)
CallGives false old new None result P = (result ≡ Err Device) × (new ≡ after_source_failure old)
CallGives false old new (Some x) result P = P x

-- `list` gives the directory's names and kinds, unless memory runs out
abbrev pub ListGives : SourceState → SourceState → Path → Result (List Item) TreeFault → Type 0
ListGives old new p result =
    CallGives (is_blown old.fuse) old new (listing_at old.tree p) result
    (λ items. (new ≡ after_source_call old)
    × MatchResult result (λ listing. listing ≡ items) (λ e. e ≡ Memory))

-- `kind` gives the kind of what stands there, wherever that is
pub record KindGives (old new : SourceState) (p : Path) (result : Result (Option Kind) TreeFault) : Type 0 where
  pub state : new ≡ after_source_call old
  pub answer : result ≡ cond (is_blown old.fuse) (Err Device) (Ok (kind_at old.tree p))

-- `open` opens the file at its start
abbrev pub OpenGives : SourceState → SourceState → Path → Result (Unit {0}) TreeFault → Type 0
OpenGives old new p result =
    CallGives (is_blown old.fuse) old new (file_at old.tree p) result (λ bytes. (result ≡ Ok tt)
    × (new ≡ record (after_source_call old) { reading = Some (p, 0) }))

-- `next` gives the next bytes and moves on behind them
abbrev pub NextGives : SourceState → SourceState → List ℕ → Result (Unit {0}) TreeFault → Type 0
NextGives old new block result =
    CallGives (is_blown old.fuse) old new (unread_of old) result (λ bytes. (result ≡ Ok tt)
    × (block ≡ take 8192 bytes)
    × (new ≡ record (after_source_call old) { reading = moved_on old.reading (length block) }))

-- it was called so many times, as its counter that wraps tells
abbrev pub source_called : MemSource → ℕ → Type 0
source_called s n = n % 2 ^ 64 ≡ s.calls

-- the file at a path holds other bytes
abbrev pub swapped : Path → List ℕ → SourceState → SourceState
swapped p bytes s = record s { tree = changed (rewritten (λ _. bytes) (last_name p)) s.tree (parent p) }
