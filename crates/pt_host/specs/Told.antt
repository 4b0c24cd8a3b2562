-- What standard error is told of how something ended: a fault, a refusal, why there is no event, and each identifier of a list that is unmet.
use Rattle.std.specs.Prelude.{◌≡◌, ◌⊎◌, ◌++◌, ℕ, zero, suc, IfOk, List, [], ◌∷◌, Option, None, Some, Result, Ok, Err, codes}
use Rattle.std.specs.Result.{result_err}
use Rattle.pt_guard.specs.declared.file.FileFault.TheVariants as place
use Rattle.pt_guard.specs.declared.guard.GuardFault.{GuardFault}
use Rattle.pt_guard.specs.declared.guard.GuardFault.TheVariants as guard
use Rattle.pt_messages.specs.Counts.{HasTotals, with_totals}
use Rattle.pt_messages.specs.Escaped.{escaped}
use Rattle.pt_messages.specs.FaultLines.{fault_line}
use Rattle.pt_messages.specs.declared.counted.LineCounts.{LineCounts}
use Rattle.pt_messages.specs.declared.counted.Totals.{Totals}
use Rattle.pt_messages.specs.declared.event.Outcome.{Outcome}
use Rattle.pt_messages.specs.declared.watch.Words.{Words}
use Rattle.pt_messages.specs.declared.watch.Words.TheVariants.{Run}
use Rattle.pt_plan.specs.declared.fault.Fault.{Fault}
use Rattle.pt_plan.specs.declared.fault.Fault.TheVariants.{Memory}
use Rattle.pt_host.specs.HostCall.{Tell}
use Rattle.pt_host.specs.Machine.{MachineWords}
use Rattle.pt_host.specs.declared.event.EventFault.{EventFault}
use Rattle.pt_host.specs.declared.event.EventFault.TheVariants as event
use Rattle.pt_host.specs.declared.operation.Conclusion.{Conclusion}

-- it ended so, with a log of these words: by this fault, or with counts that have what it says itself of the lines
abbrev pub CameTo : Words → Result Totals Fault → Outcome → Type 0
CameTo kind ended outcome = (outcome.words ≡ kind) × (outcome.fault ≡ result_err ended)
    × IfOk ended (λ totals. HasTotals totals outcome.counts)

-- the counts of a log's lines as something ended with them: with what it says itself of the lines, unless a fault ended it
abbrev pub counts_at : Result Totals Fault → LineCounts → LineCounts
counts_at (Ok totals) counted = with_totals totals counted
counts_at (Err fault) counted = counted

-- the line of a fault, by its own text
abbrev pub own_line : Fault → List ℕ
own_line = fault_line Run

-- the line of what may not begin
abbrev pub refusal_line : GuardFault → List ℕ
refusal_line guard.Overlap = codes "pairtree2ocfl: SOURCE and DEST lie in one another\n"
refusal_line guard.Hidden = codes "pairtree2ocfl: the system cannot tell where SOURCE and DEST lie\n"
refusal_line guard.Root = codes "pairtree2ocfl: DEST is a storage root itself: name the folder that holds it\n"
refusal_line guard.Taken = codes "pairtree2ocfl: another run has the destination\n"
refusal_line guard.Memory = own_line Memory

-- the text of why an event can't be recorded; behind it the path and the reason may stand
abbrev pub event_text : EventFault → List ℕ
event_text (event.Place place.Inside) = codes "FILE of --event lies in SOURCE, DEST/ocfl or DEST/staging"
event_text (event.Place place.Hidden) = codes "the system cannot tell where FILE of --event lies"
event_text (event.Place place.Memory) = codes "out of memory"
event_text (event.Stands path) = codes "FILE of --event stands already, or FILE.part does"
event_text (event.Unseen error) = codes "FILE.part of --event cannot be looked at"
event_text (event.Unwritten path error) = codes "cannot write FILE of --event"
event_text event.Memory = codes "out of memory"

-- the line of an identifier of which no object was met, with what is shown of it
abbrev pub unmet_line : List ℕ → List ℕ
unmet_line shown = codes "pairtree2ocfl: no object was met: " ++ shown ++ codes "\n"

-- a line is that of this identifier: it is shown escaped; or, where there is no memory for that, the line says so
abbrev pub IsUnmetLine : List ℕ → List ℕ → Type 0
IsUnmetLine id line = (line ≡ unmet_line (escaped id))
    ⊎ (line ≡ unmet_line (codes "an identifier that there is no memory to show"))

-- of calls that tell a text
module _ {H : Type 0} (tells : List ℕ → H → H → Type 0) where
  -- an identifier of which no object was met is told by its line
  abbrev pub TellsOne : List ℕ → H → H → Type 0
  TellsOne id old new = (line : List ℕ) × IsUnmetLine id line × tells line old new

  -- each of these that is unmet is told, in their order, and nothing else is
  abbrev pub TellsUnmet : List (Option (List ℕ)) → H → H → Type 0
  TellsUnmet [] old new = new ≡ old
  TellsUnmet (None ∷ more) old new = TellsUnmet more old new
  TellsUnmet (Some id ∷ more) old new = (told : H) × TellsOne id old told × TellsUnmet more told new

  -- with this status, which is more than 1 where a fault ended it or a check told what stops a run, and then nothing is told
  abbrev pub TellsUnlessFault : ℕ → List (Option (List ℕ)) → H → H → Type 0
  TellsUnlessFault zero unmet old new = TellsUnmet unmet old new
  TellsUnlessFault (suc zero) unmet old new = TellsUnmet unmet old new
  TellsUnlessFault (suc (suc more)) unmet old new = new ≡ old

  -- the same where there is a list; else nothing is told
  abbrev pub TellsList : Option (List (List ℕ)) → Conclusion → H → H → Type 0
  TellsList None plain old new = new ≡ old
  TellsList (Some ids) plain old new = TellsUnlessFault plain.status plain.unmet old new

module _ {H : Type 0} (words : MachineWords H) where
  -- a text is told, and nothing else is asked
  abbrev pub Tells : List ℕ → H → H → Type 0
  Tells text old new = words.host old (Tell text) new

  -- a fault that ended something is told by its own line, of a log with these words; where none did nothing is told
  abbrev pub TellsFault : Words → Option Fault → H → H → Type 0
  TellsFault kind None old new = new ≡ old
  TellsFault kind (Some fault) old new = Tells (fault_line kind fault) old new

  -- and of what came to this
  abbrev pub TellsEnd : Outcome → H → H → Type 0
  TellsEnd outcome = TellsFault outcome.words outcome.fault

  -- a text is told behind another and before more; or, where there is no memory for more, the two one after the other
  abbrev pub TellsLong : List ℕ → List ℕ → H → H → Type 0
  TellsLong front text old new = ((rest : List ℕ) × Tells (front ++ text ++ rest) old new)
      ⊎ ((begun : H) × (told : H) × Tells front old begun × Tells text begun told × Tells (codes "\n") told new)

  -- why an event can't be recorded is told, by its own text behind this one; want of memory is a fault
  abbrev pub TellsEvent : List ℕ → EventFault → H → H → Type 0
  TellsEvent front event.Memory = Tells (own_line Memory)
  TellsEvent front (event.Place place.Memory) = Tells (own_line Memory)
  TellsEvent front why = TellsLong front (event_text why)
