-- What holds of a run in progress where the destination tells, whatever the source and the log do, holds after each turn that goes on.
use Rattle.std.specs.Prelude.{ℕ, List, Some, Ok}
use Rattle.pt_name.specs.Tuples.{IsLayout}
use Rattle.pt_tree.specs.Dest.{Writing}
use Rattle.pt_tree.specs.Tree.{Tree}
use Rattle.pt_plan.specs.Job.{Job}
use Rattle.pt_plan.specs.Run.{Counts, Held}
use Rattle.pt_plan.specs.TurnMake.{MakeStep}
use Rattle.pt_plan.specs.TurnPlace.{PlaceStep}
use Rattle.pt_plan.specs.TurnScan.{ScanStep}
use Rattle.pt_plan.specs.TurnStart.{StartStep}
use Rattle.pt_plan.specs.TurnWalk.{WalkStep}
use Rattle.pt_plan.specs.DeviceStates.{Calls, Changes}
use Rattle.pt_plan.specs.declared.phase.Phase.{Phase}
use Rattle.pt_invariant.specs.DestInvariant.{DestPart}
use Rattle.pt_invariant.specs.HeldInvariant.{HeldAt}
use Rattle.pt_invariant.specs.History.{History, history_after}

-- the turns of the start, with one of the layouts that there are
abbrev pub StartingKeepsDest : Type 0
StartingKeepsDest =
    (job : Job) (past : History) (start : Tree) (old new : Writing) (prefix read : List ℕ)
    (here next : Phase) (held : Held) (calls : Calls) → IsLayout job.tuples
    → StartStep job here prefix read calls (Ok next)
    → Changes calls.change (Some old) (Some new) → HeldAt job past here held
    → DestPart job past here held start old
    → DestPart job (history_after here next held past) next held start new

-- the turns of the walk
abbrev pub WalkingKeepsDest : Type 0
WalkingKeepsDest =
    (job : Job) (past : History) (start : Tree) (old new : Writing) (prefix : List ℕ)
    (here next : Phase) (held after : Held) (calls : Calls)
    → WalkStep job prefix here held after calls (Ok next)
    → Changes calls.change (Some old) (Some new) → HeldAt job past here held
    → DestPart job past here held start old
    → DestPart job (history_after here next held past) next after start new

-- the turns of the scan of an object
abbrev pub ScanningKeepsDest : Type 0
ScanningKeepsDest =
    (job : Job) (past : History) (start : Tree) (old new : Writing) (here next : Phase)
    (held after : Held) (calls : Calls) → ScanStep job here held after calls (Ok next)
    → Changes calls.change (Some old) (Some new) → HeldAt job past here held
    → DestPart job past here held start old
    → DestPart job (history_after here next held past) next after start new

-- the turns that make an object
abbrev pub MakingKeepsDest : Type 0
MakingKeepsDest =
    (job : Job) (past : History) (start : Tree) (old new : Writing) (here : Phase) (held after : Held)
    (calls : Calls) (next : Phase) → MakeStep job here held after calls (Ok next)
    → Changes calls.change (Some old) (Some new) → HeldAt job past here held
    → DestPart job past here held start old
    → DestPart job (history_after here next held past) next after start new

-- the turns that bring an object to its place, and that tell of it and of the end
abbrev pub PlacingKeepsDest : Type 0
PlacingKeepsDest =
    (job : Job) (counts : Counts) (past : History) (start : Tree) (old new : Writing)
    (here next : Phase) (held after : Held) (calls : Calls)
    → PlaceStep job counts here held after calls (Ok next)
    → Changes calls.change (Some old) (Some new) → HeldAt job past here held
    → DestPart job past here held start old
    → DestPart job (history_after here next held past) next after start new
