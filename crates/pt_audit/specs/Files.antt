-- The files of an object that a survey scans: which one is read, and what a step reads of it.
use Rattle.std.specs.Prelude.{◌≡◌, ℕ, zero, Bool, true, false, List, Option, Ok}
use Rattle.std.specs.Bool.{MatchBool, OnTrue}
use Rattle.pt_move.specs.Running.{Running}
use Rattle.pt_plan.specs.Object.{names_before}
use Rattle.pt_plan.specs.TurnScan.{ScanStep}
use Rattle.pt_plan.specs.DeviceStates.{Answers, Calls}
use Rattle.pt_plan.specs.declared.phase.Phase.{Phase}
use Rattle.pt_plan.specs.declared.phase.Phase.TheVariants as phase
use Rattle.pt_plan.specs.declared.phase.Stage.TheVariants as stage
use Rattle.pt_scan.specs.Blocks.{IsNextBlock, is_reading}
use Rattle.pt_state.specs.States.{held_of, job_of}
use Rattle.pt_state.specs.declared.state.State.{State}
use Rattle.pt_audit.specs.Surveying.{Steps, passed, sight_at}
use Rattle.pt_audit.specs.declared.survey.OpenedFile.{OpenedFile}
use Rattle.pt_audit.specs.declared.survey.SurveyEvent.{SurveyEvent}
use Rattle.pt_tree.specs.Source.{Reading, tree_in}
use Rattle.pt_walk.specs.Trail.{names_to}

-- an object is opened, its entries are looked at, or a file of it is read
abbrev pub is_scanning : Phase → Bool
is_scanning (phase.Carrying object stage.Open) = true
is_scanning (phase.Carrying object stage.Scan) = true
is_scanning (phase.Carrying object (stage.Read bytes)) = true
is_scanning _ = false

-- a turn of a scan was made, with these answers of the source; where a file is read on, the block that is held is its next one
pub record Scanned (told told' : Option Reading) (before after : Running) : Type 0 where
  pub fed : List ℕ
  pub later : List ℕ
  pub next : Phase
  pub calls : Calls
  pub scans : ScanStep (job_of before.state.job) before.phase (held_of before.state fed)
      (held_of after.state later) calls (Ok next)
  pub answers : Answers calls.asked told told'
  pub here : after.phase ≡ passed next
  pub block : OnTrue (is_reading before.phase) (IsNextBlock told after.state.block.items next)

-- something is held of an object that is scanned, or was
abbrev pub is_of_object : Phase → Bool
is_of_object (phase.Carrying object stage.Scan) = true
is_of_object (phase.Carrying object (stage.Read bytes)) = true
is_of_object (phase.Carrying object stage.Line) = true
is_of_object _ = false

-- so it is with a step in an object; and no other step leads into one
abbrev pub ScansOn : Option Reading → Option Reading → Running → Running → Type 0
ScansOn told told' before after =
    MatchBool (is_scanning before.phase) (Scanned told told' before after)
    (is_of_object after.phase ≡ false)

-- what a step does: it keeps to the measures of a survey, and in an object it makes a turn of a scan
pub record MakesStep (told told' : Option Reading) (before after : Running) : Type 0 where
  pub steps : Steps (tree_in told) before after
  pub scans : ScansOn told told' before after

-- such a step came to this
pub record ComesTo (told told' : Option Reading) (before after : Running) (what : SurveyEvent) : Type 0 where
  pub saw : what ≡ sight_at after.phase
  pub made : MakesStep told told' before after

-- it is the file that was just opened
abbrev pub IsOpenedAt : Phase → State → OpenedFile → Type 0
IsOpenedAt (phase.Carrying object (stage.Read zero)) s file =
    (file.place.now ≡ object.place) × (file.path ≡ names_to s.trail) × (file.before ≡ names_before object)
IsOpenedAt _ s file = ⊥

-- this file of the object was just opened
abbrev pub IsOpened : Running → OpenedFile → Type 0
IsOpened r file = IsOpenedAt r.phase r.state file
