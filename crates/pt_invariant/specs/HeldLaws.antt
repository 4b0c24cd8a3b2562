-- What holds of what a run in progress holds, whatever its devices tell, holds after each turn that goes on.
use Rattle.std.specs.Prelude.{ℕ, List, Option, Ok}
use Rattle.pt_tree.specs.Source.{Reading}
use Rattle.pt_plan.specs.Job.{Job}
use Rattle.pt_plan.specs.Run.{Counts, Held}
use Rattle.pt_plan.specs.TurnMake.{MakeStep}
use Rattle.pt_plan.specs.TurnPlace.{PlaceStep}
use Rattle.pt_plan.specs.TurnScan.{ScanStep}
use Rattle.pt_plan.specs.TurnStart.{StartStep}
use Rattle.pt_plan.specs.TurnWalk.{WalkStep}
use Rattle.pt_plan.specs.DeviceStates.{Answers, Calls}
use Rattle.pt_plan.specs.declared.phase.Phase.{Phase}
use Rattle.pt_invariant.specs.HeldInvariant.{HeldAt}
use Rattle.pt_invariant.specs.History.{History, history_after}

-- the turns of the start
abbrev pub StartingKeepsHeld : Type 0
StartingKeepsHeld =
    (job : Job) (past : History) (prefix read : List ℕ) (here next : Phase) (held : Held)
    (calls : Calls) → StartStep job here prefix read calls (Ok next)
    → HeldAt job past here held → HeldAt job (history_after here next held past) next held

-- the turns of the walk
abbrev pub WalkingKeepsHeld : Type 0
WalkingKeepsHeld =
    (job : Job) (past : History) (old new : Option Reading) (prefix : List ℕ) (here next : Phase)
    (held after : Held) (calls : Calls) → WalkStep job prefix here held after calls (Ok next)
    → Answers calls.asked old new → HeldAt job past here held
    → HeldAt job (history_after here next held past) next after

-- the turns of the scan of an object
abbrev pub ScanningKeepsHeld : Type 0
ScanningKeepsHeld =
    (job : Job) (past : History) (old new : Option Reading) (here next : Phase) (held after : Held)
    (calls : Calls) → ScanStep job here held after calls (Ok next)
    → Answers calls.asked old new → HeldAt job past here held
    → HeldAt job (history_after here next held past) next after

-- the turns that make an object
abbrev pub MakingKeepsHeld : Type 0
MakingKeepsHeld =
    (job : Job) (past : History) (here : Phase) (held after : Held) (calls : Calls) (next : Phase)
    → MakeStep job here held after calls (Ok next)
    → HeldAt job past here held → HeldAt job (history_after here next held past) next after

-- the turns that bring an object to its place, and that tell of it and of the end
abbrev pub PlacingKeepsHeld : Type 0
PlacingKeepsHeld =
    (job : Job) (counts : Counts) (past : History) (here next : Phase) (held after : Held)
    (calls : Calls) → PlaceStep job counts here held after calls (Ok next)
    → HeldAt job past here held → HeldAt job (history_after here next held past) next after
