-- What a destination in memory holds.
use Rattle.std.specs.Prelude.{◌≡◌, ℕ, Bool, true, false, ◌/◌, take, length, List, [], Option, None, Some, Result, Err, MatchResult}
use Rattle.pt_memory.specs.declared.mem_dest.MemDest.{MemDest}
use Rattle.pt_memory.specs.declared.mem_dest.TakeFault.{TakeFault}
use Rattle.pt_memory.specs.declared.mem_dest.TakeFault.TheVariants as take
use Rattle.pt_memory.specs.declared.fuse.Fuse.{Fuse}
use Rattle.pt_tree.specs.declared.faults.TreeFault.{TreeFault}
use Rattle.pt_tree.specs.declared.faults.TreeFault.TheVariants.{Device, Memory}
use Rattle.pt_tree.specs.Dest.{Writing, after_append, open_unless_below}
use Rattle.pt_memory.specs.Entries.{forest_of}
use Rattle.pt_tree.specs.Forest.{none}
use Rattle.pt_memory.specs.Fuse.{after_call, with_fuse}
use Rattle.pt_tree.specs.Path.{Path}
use Rattle.pt_tree.specs.Tree.{Tree, Entry, tree_of, put, without}

-- what it tells, and the fuse with the failures
pub record DestState : Type 0 where
  pub told : Writing
  pub fuse : Fuse

-- the tree that it holds
abbrev pub dest_tree : MemDest → Tree
dest_tree d = tree_of (forest_of d.entries)

-- what it holds: its tree, which file is open, and its fuse
abbrev pub dest_state : MemDest → DestState
dest_state d = record { told = record { tree = dest_tree d; writing = d.writing }; fuse = d.fuse }

-- it always tells
abbrev pub dest_told : MemDest → Option Writing
dest_told d = Some (dest_state d).told

-- what a new one holds: nothing
abbrev pub new_dest : DestState
new_dest = record
    { told = record { tree = tree_of none; writing = None }; fuse = record { left = None; failures = 0 } }

-- a call was made, and left this
abbrev pub after_dest_call : DestState → Writing → DestState
after_dest_call s left = record { told = left; fuse = after_call s.fuse }

-- A call: it fails by the fuse and leaves this, or else P says what it gives.
abbrev pub Passes : {T : Type 0} → Bool → DestState → DestState → Result T TreeFault → Type 0 → Type 0
Passes true old new result P = (result ≡ Err Device) × (new ≡ after_dest_call old old.told)
Passes false old new result P = P

-- A change is made, or memory runs out and nothing is changed.
abbrev pub Makes : DestState → DestState → Result (Unit {0}) TreeFault → Writing → Type 0
Makes old new result made =
    MatchResult result (λ _. new ≡ after_dest_call old made) (λ e. (e ≡ Memory)
    × (new ≡ after_dest_call old old.told))

-- A piece is added to the open file; where the fuse fails, half of it, rounded down.
abbrev pub Appends : Bool → DestState → DestState → Result (Unit {0}) TreeFault → List ℕ → Type 0
Appends false old new result piece = Makes old new result (after_append piece old.told)
Appends true old new result piece = MatchResult result (λ _. ⊥)
    (λ e. MatchFault e (new
    ≡ after_dest_call old (after_append (take (length piece / 2) piece) old.told)) (new ≡ old))
  where
    MatchFault : TreeFault → Type 0 → Type 0 → Type 0
    MatchFault Device P Q = P
    MatchFault Memory P Q = Q

-- this stands at the path now, and all else is as before
abbrev pub after_plant : Path → Entry → DestState → DestState
after_plant p e s =
    record { told = record { tree = put s.told.tree p e; writing = s.told.writing }; fuse = s.fuse }

-- why nothing can be taken away: nothing is there, or it is the top
abbrev pub take_refusal : Tree → Path → Option TakeFault
take_refusal t [] = Some take.Absent
take_refusal t p = absent (t p)
  where
    absent : Option Entry → Option TakeFault
    absent None = Some take.Absent
    absent (Some e) = None

-- all at and below the path is gone, and a file that was open there is closed
abbrev pub after_take : Path → DestState → DestState
after_take p s =
    record {
      told = record { tree = without s.told.tree p; writing = open_unless_below p s.told.writing };
      fuse = s.fuse;
    }

-- another tree, and all else is as before
abbrev pub with_tree : Tree → DestState → DestState
with_tree t s = record { told = record { tree = t; writing = s.told.writing }; fuse = s.fuse }

-- with another fuse
abbrev pub dest_fused : Option ℕ → DestState → DestState
dest_fused left s = record { told = s.told; fuse = with_fuse left s.fuse }

-- the number of a refusal
abbrev pub take_number : TakeFault → ℕ
take_number take.Absent = 1
