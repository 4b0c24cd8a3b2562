-- The log is blamed only where lines may be told.
use Rattle.std.proofs.Common.{◌≡◌, ℕ, List, true, refl}
use Rattle.std.specs.Prelude.{Option, None, Some, Ok, Err, ⊤}
use Rattle.pt_invariant.specs.LogLaws.{may_tell}
use Rattle.pt_state.proofs.Words.{
  Answer,
  Job,
  Line,
  Counts,
  Held,
  Kept,
  FailsAtFirst,
  FailsLater,
  Next,
  GoesOn,
  IsRefused,
  FailsPartway,
  Make,
  Place,
  Scan,
  Start,
  FailsUnchanged,
  Turn,
  Walk,
  Calls,
  DeviceStates,
  Fault,
  Phase,
}
use Rattle.pt_state.proofs.Words.fault
use Rattle.pt_plan.specs.TurnMake as make
use Rattle.pt_plan.specs.TurnPlace as place
use Rattle.pt_plan.specs.TurnScan as scan
use Rattle.pt_plan.specs.TurnStart as start
use Rattle.pt_plan.specs.TurnWalk as walk
use Rattle.pt_plan.specs.Turn.{IsNotOfLog, MayBlame}
use Rattle.pt_move.proofs.Changes.{IsRefusal, follows_refuse}

-- the answer blames the log only where lines may be told
abbrev pub BlamesLogLate : Phase → Answer → Type 0
BlamesLogLate here (Ok next) = ⊤
BlamesLogLate here (Err fault.Log) = may_tell here ≡ true
BlamesLogLate here (Err why) = ⊤

-- a turn that tells a line is made where lines may be told
told_late : {job : Job} {counts : Counts} {here : Phase} {prefix read : List ℕ} {held new : Held} {calls : Calls} {answer : Answer} {line : Line}
    → Next job counts here prefix held read new calls answer → calls.line ≡ Some line → may_tell here ≡ true
told_late (Start (start.IsStore _ _)) tells = absurd (cc)
told_late (Start _) tells = absurd (cc)
told_late (Walk (walk.OpensRoot _ _)) _ = refl
told_late (Scan (scan.StartsInSite _ _ _)) _ = refl
told_late (Make (make.MakesStaging _ _)) tells = absurd (cc)
told_late (Make _) tells = absurd (cc)
told_late (Place (place.MakesTuple _ _ _)) tells = absurd (cc)
told_late (Place (place.FindsTuple _ _ _)) tells = absurd (cc)
told_late (Place (place.IsInTheWay _ _ _ _ _)) tells = absurd (cc)
told_late (Place (place.RenamesObject _ _)) tells = absurd (cc)
told_late _ _ = refl

-- a refusal isn't of the log
refusal_not_log : (why : Fault) → IsRefusal why → IsNotOfLog why
refusal_not_log fault.Log is = absurd is
refusal_not_log _ is = tt

other_late : (here : Phase) (why : Fault) → IsNotOfLog why → BlamesLogLate here (Err why)
other_late here fault.Log other = absurd other
other_late here _ other = tt

there_late : (here : Phase) (why : Fault) → may_tell here ≡ true → BlamesLogLate here (Err why)
there_late here fault.Log tells = tells
there_late here _ tells = tt

by_line : (here : Phase) (line : Option Line) (why : Fault) → ((told : Line) → line ≡ Some told → may_tell here ≡ true) → MayBlame line why
    → BlamesLogLate here (Err why)
by_line here None why tells blames = other_late here why blames
by_line here (Some line) why tells blames = there_late here why (tells line refl)

pub turn_late : {job : Job} {here : Phase} {before after : Kept} {old new : DeviceStates} {answer : Answer} → Turn job here before after old new answer
    → BlamesLogLate here answer
unfolding FailsUnchanged FailsPartway
turn_late (GoesOn _ _ _ _ _) = tt
turn_late {here} (IsRefused _ _ _ why follows _ _) = other_late here why (refusal_not_log why (follows_refuse follows).0)
turn_late {here} (FailsAtFirst why stays _) = other_late here why stays.4
turn_late {here} (FailsLater _ _ calls _ _ why follows left _ _) = by_line here calls.line why (λ told is. told_late follows is) left.2
