-- What holds of a run in progress where the source tells, whatever the destination and the log do, holds after each turn that goes on.
use Rattle.std.specs.Prelude.{ℕ, List, Some, Ok}
use Rattle.pt_tree.specs.Source.{Reading}
use Rattle.pt_plan.specs.Job.{Job}
use Rattle.pt_plan.specs.Run.{Counts, Held}
use Rattle.pt_plan.specs.TurnMake.{MakeStep}
use Rattle.pt_plan.specs.TurnPlace.{PlaceStep}
use Rattle.pt_plan.specs.TurnScan.{ScanStep}
use Rattle.pt_plan.specs.TurnStart.{StartStep}
use Rattle.pt_plan.specs.TurnWalk.{WalkStep}
use Rattle.pt_plan.specs.DeviceStates.{Answers, Calls}
use Rattle.pt_plan.specs.declared.phase.Phase.{Phase}
use Rattle.pt_invariant.specs.HeldInvariant.{HeldAt}
use Rattle.pt_invariant.specs.SourceInvariant.{SourcePart}
use Rattle.pt_invariant.specs.History.{History, history_after}

-- the turns of the start, which may read the prefix
abbrev pub StartingKeepsSource : Type 0
StartingKeepsSource =
    (job : Job) (past : History) (s new : Reading) (prefix read : List ℕ) (here next : Phase)
    (held : Held) (calls : Calls) → StartStep job here prefix read calls (Ok next)
    → Answers calls.asked (Some s) (Some new) → HeldAt job past here held
    → SourcePart job past here prefix held s
    → SourcePart job (history_after here next held past) next read held new

-- the turns of the walk
abbrev pub WalkingKeepsSource : Type 0
WalkingKeepsSource =
    (job : Job) (past : History) (s new : Reading) (prefix : List ℕ) (here next : Phase)
    (held after : Held) (calls : Calls) → WalkStep job prefix here held after calls (Ok next)
    → Answers calls.asked (Some s) (Some new) → HeldAt job past here held
    → SourcePart job past here prefix held s
    → SourcePart job (history_after here next held past) next prefix after new

-- the turns of the scan of an object
abbrev pub ScanningKeepsSource : Type 0
ScanningKeepsSource =
    (job : Job) (past : History) (s new : Reading) (prefix : List ℕ) (here next : Phase)
    (held after : Held) (calls : Calls) → ScanStep job here held after calls (Ok next)
    → Answers calls.asked (Some s) (Some new) → HeldAt job past here held
    → SourcePart job past here prefix held s
    → SourcePart job (history_after here next held past) next prefix after new

-- the turns that make an object
abbrev pub MakingKeepsSource : Type 0
MakingKeepsSource =
    (job : Job) (past : History) (s new : Reading) (prefix : List ℕ) (here : Phase) (held after : Held)
    (calls : Calls) (next : Phase) → MakeStep job here held after calls (Ok next)
    → Answers calls.asked (Some s) (Some new) → HeldAt job past here held
    → SourcePart job past here prefix held s
    → SourcePart job (history_after here next held past) next prefix after new

-- the turns that bring an object to its place, and that tell of it and of the end
abbrev pub PlacingKeepsSource : Type 0
PlacingKeepsSource =
    (job : Job) (counts : Counts) (past : History) (s new : Reading) (prefix : List ℕ)
    (here next : Phase) (held after : Held) (calls : Calls)
    → PlaceStep job counts here held after calls (Ok next)
    → Answers calls.asked (Some s) (Some new) → HeldAt job past here held
    → SourcePart job past here prefix held s
    → SourcePart job (history_after here next held past) next prefix after new
