-- What holds of the items that are done in a run in progress, where source and destination tell, holds after each turn that goes on.
-- So does what holds of the log, where it tells too.
use Rattle.std.specs.Prelude.{ℕ, List, Some, Ok}
use Rattle.pt_tree.specs.Dest.{Writing}
use Rattle.pt_tree.specs.Source.{Reading}
use Rattle.pt_tree.specs.Tree.{Tree}
use Rattle.pt_plan.specs.Job.{Job}
use Rattle.pt_plan.specs.Roots.{root_in}
use Rattle.pt_plan.specs.Run.{Counts, Held}
use Rattle.pt_plan.specs.Turn.{counted}
use Rattle.pt_plan.specs.TurnMake.{MakeStep}
use Rattle.pt_plan.specs.TurnPlace.{PlaceStep}
use Rattle.pt_plan.specs.TurnScan.{ScanStep}
use Rattle.pt_plan.specs.TurnStart.{StartStep}
use Rattle.pt_plan.specs.TurnWalk.{WalkStep}
use Rattle.pt_plan.specs.DeviceStates.{Answers, Calls, Changes, Puts}
use Rattle.pt_plan.specs.declared.phase.Phase.{Phase}
use Rattle.pt_invariant.specs.RunInvariant.{HasTold, ItemsPart}
use Rattle.pt_invariant.specs.DestInvariant.{DestPart}
use Rattle.pt_invariant.specs.HeldInvariant.{HeldAt}
use Rattle.pt_invariant.specs.SourceInvariant.{SourcePart}
use Rattle.pt_invariant.specs.History.{History, history_after}

-- all that is known before a turn of the items that are done: from what is held, from the source, from the destination and from both
pub record KnowsItems (job : Job) (past : History) (here : Phase) (prefix : List ℕ) (held : Held)
    (counts : Counts) (s : Reading) (start : Tree) (now : Writing) : Type 0 where
  pub held_at : HeldAt job past here held
  pub source : SourcePart job past here prefix held s
  pub dest : DestPart job past here held start now
  pub items : ItemsPart job past here counts s.tree (root_in start)

-- after a turn the items are those that are done then
abbrev pub KeepsItems : Job → History → Phase → Held → Counts → Reading → Tree → Calls → Phase → Type 0
KeepsItems job past here held counts s start calls next =
    ItemsPart job (history_after here next held past) next (counted calls.line counts) s.tree
    (root_in start)

-- and the log has got their lines
abbrev pub KeepsLog : Job → History → Phase → Held → Reading → Tree → Calls → Phase → Type 0
KeepsLog job past here held s start calls next =
    (log old new : List ℕ) → HasTold job s.tree (root_in start) past here log old
    → Puts calls.line (Some old) (Some new)
    → HasTold job s.tree (root_in start) (history_after here next held past) next log new

-- the turns of the start
abbrev pub StartingKeepsItems : Type 0
StartingKeepsItems =
    (job : Job) (past : History) (s : Reading) (prefix read : List ℕ) (start : Tree) (now : Writing)
    (here next : Phase) (held : Held) (counts : Counts) (calls : Calls)
    → StartStep job here prefix read calls (Ok next)
    → KnowsItems job past here prefix held counts s start now
    → KeepsItems job past here held counts s start calls next
    × KeepsLog job past here held s start calls next

-- the turns of the walk
abbrev pub WalkingKeepsItems : Type 0
WalkingKeepsItems =
    (job : Job) (past : History) (s : Reading) (prefix : List ℕ) (start : Tree) (now new : Writing)
    (here next : Phase) (held after : Held) (counts : Counts) (calls : Calls)
    → WalkStep job prefix here held after calls (Ok next) → Changes calls.change (Some now) (Some new)
    → KnowsItems job past here prefix held counts s start now
    → KeepsItems job past here held counts s start calls next
    × KeepsLog job past here held s start calls next

-- the turns of the scan of an object
abbrev pub ScanningKeepsItems : Type 0
ScanningKeepsItems =
    (job : Job) (past : History) (s new : Reading) (prefix : List ℕ) (start : Tree) (now : Writing)
    (here next : Phase) (held after : Held) (counts : Counts) (calls : Calls)
    → ScanStep job here held after calls (Ok next) → Answers calls.asked (Some s) (Some new)
    → KnowsItems job past here prefix held counts s start now
    → KeepsItems job past here held counts s start calls next
    × KeepsLog job past here held s start calls next

-- the turns that make an object
abbrev pub MakingKeepsItems : Type 0
MakingKeepsItems =
    (job : Job) (past : History) (s : Reading) (prefix : List ℕ) (start : Tree) (now : Writing)
    (here : Phase) (held after : Held) (counts : Counts) (calls : Calls) (next : Phase)
    → MakeStep job here held after calls (Ok next)
    → KnowsItems job past here prefix held counts s start now
    → KeepsItems job past here held counts s start calls next
    × KeepsLog job past here held s start calls next

-- the turns that bring an object to its place, and that tell of it and of the end
abbrev pub PlacingKeepsItems : Type 0
PlacingKeepsItems =
    (job : Job) (past : History) (s : Reading) (prefix : List ℕ) (start : Tree) (now : Writing)
    (here next : Phase) (held after : Held) (counts : Counts) (calls : Calls)
    → PlaceStep job counts here held after calls (Ok next)
    → KnowsItems job past here prefix held counts s start now
    → KeepsItems job past here held counts s start calls next
    × KeepsLog job past here held s start calls next
