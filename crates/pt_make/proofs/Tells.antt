-- The turns that tell of an object and of the end, from what the log got.
use Rattle.std.proofs.Common.{◌≡◌, [], refl, ap, length, arith, subst}
use Rattle.std.specs.Prelude.{Ok, IsErrAnd}
use Rattle.std.specs.String.{string_bytes}
use Rattle.pt_state.proofs.Words.{
  Line,
  sought,
  Answer,
  Done,
  End,
  Did,
  FailsPartway,
  Place,
  bytes_in_rows,
  DeviceStates,
  tells,
  Fault,
  Object,
  KeepsAll,
  counts_of,
  Turned,
}
use Rattle.pt_state.proofs.Words.phase
use Rattle.pt_state.proofs.Words.stage
use Rattle.pt_state.specs.declared.state.State.{State}
use Rattle.pt_plan.specs.TurnMake.{path_of_source}
use Rattle.pt_plan.specs.TurnPlace.{TellsDone, TellsEnd}
use Rattle.pt_state.proofs.Turns.{keeps_same, left_some, turned_on}
use Rattle.pt_state.specs.Lines.{with_done}
use Rattle.pt_state.specs.Telling.{IsCarried}
use Rattle.pt_plan.specs.ToldLines.{done_of}
use Rattle.pt_plan.specs.declared.lines.ToldObject.{ToldObject}
use Rattle.pt_make.specs.Making.{CanTellDone}

-- ---- lines

-- what is told of an object, as the definitions have it
done_is : (s : State) (object : Object) (told : ToldObject) → CanTellDone s → IsCarried object s told
    → done_of told ≡ Done (path_of_source object s.trail) (bytes_in_rows s.rows) object.empty (length s.rows) object.id object.place
done_is s object told can it = λ i. Done (it.at i) (bytes i) (it.empty i) (it.files i) (it.id i) (it.to i)
  where
    bytes : told.bytes ≡ bytes_in_rows s.rows
    bytes = let sum = it.bytes in let small = can.small in omega (arith, sum, small)

pub told_done : (s s' : State) (object : Object) (told : ToldObject) (a b : DeviceStates) → CanTellDone s → IsCarried object s told
    → Did (tells (done_of told)) a b
    → s'.trail ≡ sought 0 s.trail → s'.rows ≡ [] → s'.contents ≡ [] → s'.counts ≡ with_done s.counts → string_bytes s'.prefix ≡ string_bytes s.prefix
    → s'.hasher ≡ s.hasher → s'.job ≡ s.job → Turned (phase.Carrying object stage.Line) s s' a b (Ok phase.Walk)
told_done s s' object told a b can it did trail rows contents counts prefix hasher job =
    turned_on s s' a b (λ fed. Place (TellsDone _ object)) (subst (λ (l : Line). Did (tells l) a b) (done_is s object told can it) did) trail rows contents
    (ap counts_of counts) prefix hasher job

pub told_front : (s s' : State) (object : Object) (told : ToldObject) (a b : DeviceStates) (f : Fault) (result : Answer) → CanTellDone s
    → IsCarried object s told → IsErrAnd result (λ h. h ≡ f) → FailsPartway (tells (done_of told)) f a b → KeepsAll s s'
    → Turned (phase.Carrying object stage.Line) s s' a b result
told_front s s' object told a b f result can it is front keeps =
    left_some a b f result is (λ fed. Place (TellsDone _ object)) (subst (λ (l : Line). FailsPartway (tells l) f a b) (done_is s object told can it) front)
    keeps

pub told_end : (s : State) (a b : DeviceStates) → Did (tells (End s.counts.done s.counts.present s.counts.skipped)) a b
    → Turned phase.End s s a b (Ok phase.Ended)
told_end s a b did =
    turned_on s s a b (λ fed. Place (TellsEnd _)) did refl refl refl refl refl refl refl

pub end_front : (s : State) (a b : DeviceStates) (f : Fault) (result : Answer) → IsErrAnd result (λ h. h ≡ f)
    → FailsPartway (tells (End s.counts.done s.counts.present s.counts.skipped)) f a b → Turned phase.End s s a b result
end_front s a b f result is front =
    left_some a b f result is (λ fed. Place (TellsEnd _)) front keeps_same

pub ruleset telling = (told_done, told_front, told_end, end_front)
