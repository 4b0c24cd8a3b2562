-- The members of an event: as what it records begins, and with how that ended.
use Rattle.std.specs.Prelude.{◌≡◌, ℕ, List, Option, None, Some, codes}
use Rattle.serde_json.specs.Data.{object, put, no_members}
use Rattle.pt_plan.specs.RunFaults.{fault_number}
use Rattle.pt_plan.specs.declared.fault.Fault.{Fault}
use Rattle.pt_messages.specs.Counts.{put_count, put_line_counts}
use Rattle.pt_messages.specs.FaultLines.{fault_text}
use Rattle.pt_messages.specs.Members.{JsonMembers, PutsWhy, members_of, put_if, put_text}
use Rattle.pt_messages.specs.declared.event.Event.{Event}
use Rattle.pt_messages.specs.declared.event.Outcome.{Outcome}
use Rattle.pt_messages.specs.declared.watch.Words.{Words}

-- the members that an event has so far, in the order of their keys
abbrev pub event_members : Event → JsonMembers
event_members event = members_of event.members

-- some text is put at a key, or none
abbrev pub PutsIf : List ℕ → JsonMembers → JsonMembers → Type 0
PutsIf key old new = (text : Option (List ℕ)) × (new ≡ put_if key text old)

-- what is done under this word with these options begins: with these two members, and with what is known of the program and its machine
abbrev pub BeginsAs : List ℕ → JsonMembers → JsonMembers → Type 0
BeginsAs word options new = (known : JsonMembers)
    × (new ≡ put (codes "options") (object options) (put_text (codes "as") word known))

-- a folder is put at a key: its path as it was given, and maybe where that leads
abbrev pub PutsFolder : List ℕ → List ℕ → JsonMembers → JsonMembers → Type 0
PutsFolder key path old new = (folder : JsonMembers) × PutsIf (codes "resolved") no_members folder
    × (new ≡ put key (object (put_text (codes "given") path folder)) old)

-- members of a fault with its number and its own text
abbrev pub fault_members : Words → Fault → JsonMembers → JsonMembers
fault_members words fault members =
    put_text (codes "text") (fault_text words fault) (put_count (codes "number") (fault_number fault) members)

-- a fault is put, if there is one: its number and its text, and why it came, if that is known
abbrev pub PutsFaultOf : Words → Option Fault → JsonMembers → JsonMembers → Type 0
PutsFaultOf words None old new = new ≡ old
PutsFaultOf words (Some fault) old new = (why : JsonMembers) × PutsWhy no_members why
    × (new ≡ put (codes "fault") (object (fault_members words fault why)) old)

-- and the one that ended what came to this
abbrev pub PutsFault : Outcome → JsonMembers → JsonMembers → Type 0
PutsFault outcome = PutsFaultOf outcome.words outcome.fault

-- an event ends with a status and with what it came to: the status, the counts of the lines, and the fault, if one ended it, and maybe the moment
-- are put, and nothing else
abbrev pub EndsSo : ℕ × Outcome → JsonMembers → JsonMembers → Type 0
EndsSo (status, outcome) old new = (at : JsonMembers) × PutsIf (codes "end") old at
    × PutsFault outcome (put_line_counts outcome.words outcome.counts (put_count (codes "status") status at)) new
