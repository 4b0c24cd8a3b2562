-- The file in which a run, an audit or a check is recorded: which calls are made on it, and which status it leaves.
use Rattle.std.specs.Prelude.{◌≡◌, ◌⊎◌, ◌++◌, ℕ, Bool, true, false, List, Option, Some, None, Result, Ok, Err, codes, if◌then◌else◌}
use Rattle.std.specs.IoError.{error_kind}
use Rattle.std.specs.declared.io.Error.{Error}
use Rattle.std.specs.declared.io.ErrorKind.{ErrorKind}
use Rattle.std.specs.declared.io.ErrorKind.TheVariants.{AlreadyExists, NotADirectory, NotFound, OutOfMemory}
use Rattle.pt_guard.specs.FilePlace.{JudgesFile}
use Rattle.pt_guard.specs.PlaceCall.{Look}
use Rattle.pt_guard.specs.declared.file.FileFault.{FileFault}
use Rattle.pt_guard.specs.declared.file.FileFault.TheVariants as place
use Rattle.pt_messages.specs.EventMembers.{BeginsAs, EndsSo, PutsFolder, event_members}
use Rattle.pt_messages.specs.Members.{JsonMembers, line_of}
use Rattle.pt_host.specs.HostCall.{MakeFile, MoveFile}
use Rattle.pt_host.specs.Machine.{MachineWords}
use Rattle.pt_host.specs.RecordedOptions.{AreRecorded}
use Rattle.pt_host.specs.Told.{TellsEvent}
use Rattle.pt_host.specs.declared.event.EventFault.{EventFault}
use Rattle.pt_host.specs.declared.event.EventFault.TheVariants as fault
use Rattle.pt_host.specs.declared.event.EventFile.{EventFile}
use Rattle.pt_host.specs.declared.event.EventPath.{EventPath}
use Rattle.pt_host.specs.declared.event.EventPath.TheVariants as which
use Rattle.pt_host.specs.declared.operation.Conclusion.{Conclusion}

-- the paths of a file and of what is to replace it
abbrev pub paths_of : List ℕ → List ℕ × List ℕ
paths_of path = (path, path ++ codes ".part")

-- an event's file that is to be made: the path, that of what is to replace it, and the text
pub record EventText : Type 0 where
  pub file : List ℕ
  pub part : List ℕ
  pub text : List ℕ

-- of an event with these members, at these paths
abbrev pub event_text_at : List ℕ × List ℕ → JsonMembers → EventText
event_text_at paths members = record { file = paths.0; part = paths.1; text = line_of members }

-- why a file can't be made or replaced at one of these paths, by an error of this kind
abbrev pub fault_by : EventPath → ErrorKind → Error → EventFault
fault_by path OutOfMemory error = fault.Memory
fault_by path AlreadyExists error = fault.Stands path
fault_by path _ error = fault.Unwritten path error

-- and by an error
abbrev pub fault_of : EventPath → Error → EventFault
fault_of path error = fault_by path (error_kind error) error

-- what is answered where a call on one of these paths came to this
abbrev pub answer_of : EventPath → Result (Unit {0}) Error → Result (Unit {0}) EventFault
answer_of path (Ok done) = Ok done
answer_of path (Err error) = Err (fault_of path error)

-- the status where an event can't begin: 2 where its file may not be there, or something stands, or may, else 3
abbrev pub event_status : EventFault → ℕ
event_status (fault.Place place.Inside) = 2
event_status (fault.Place place.Hidden) = 2
event_status (fault.Place place.Memory) = 3
event_status (fault.Stands path) = 2
event_status (fault.Unseen error) = 2
event_status (fault.Unwritten path error) = 3
event_status fault.Memory = 3

-- the status of what ended with this one: where the end can't be recorded, 3
abbrev pub recorded_status : ℕ → Result (Unit {0}) EventFault → ℕ
recorded_status ran (Ok done) = ran
recorded_status ran (Err fault) = 3

-- nothing more is asked, and this is why
abbrev pub Stops : {H : Type 0} → EventFault → H → H → Result (Unit {0}) EventFault → Type 0
Stops why mid new result = (result ≡ Err why) × (new ≡ mid)

-- what is made over which two folders: in a word, and whether the second is its destination, else both are its store; and what is recorded of its
-- options, whose list, if they have one, has a file of some name
pub record EventHead : Type 0 where
  pub word : List ℕ
  pub at : List ℕ × List ℕ
  pub has_dest : Bool
  pub options : List ℕ → JsonMembers

-- the folders beside which its file is judged: its store, and its destination, if it has one
abbrev pub judged_beside : EventHead → List ℕ × Option (List ℕ)
judged_beside head = (head.at.0, if head.has_dest then Some head.at.1 else None)

-- this under a word, over these folders, with these options
abbrev pub event_head : List ℕ → List ℕ × List ℕ → Bool → (List ℕ → JsonMembers) → EventHead
event_head word at has_dest options = record { word = word; at = at; has_dest = has_dest; options = options }

-- a destination is put, if there is one
abbrev pub PutsDest : Bool → List ℕ → JsonMembers → JsonMembers → Type 0
PutsDest false path old new = new ≡ old
PutsDest true path old new = PutsFolder (codes "dest") path old new

-- an event begins with what is made, in a word, its options, its folders, and what is known of the program and its machine
abbrev pub BeginsWith : EventHead → JsonMembers → Type 0
BeginsWith head begun = (options : JsonMembers) × (first : JsonMembers) × (second : JsonMembers) × AreRecorded head.options options
    × BeginsAs head.word options first × PutsFolder (codes "source") head.at.0 first second
    × PutsDest head.has_dest head.at.1 second begun

-- a text is that of an event that began with these members and ended so: with the status, the counts and the fault of what it records
abbrev pub IsEndText : JsonMembers → Conclusion → List ℕ → Type 0
IsEndText begun ran text =
    (ended : JsonMembers) × EndsSo (ran.status, ran.outcome) begun ended × (text ≡ line_of ended)

module _ {H : Type 0} (words : MachineWords H) where
  -- a file is made at one of these paths, where nothing stands, with this text
  abbrev pub MakesNew : EventPath → List ℕ × List ℕ → H → H → Result (Unit {0}) EventFault → Type 0
  MakesNew path (at, text) old new result = (made : Result (Unit {0}) Error)
      × words.host old (MakeFile at text made) new × (result ≡ answer_of path made)

  -- what is to replace a file is renamed to it
  abbrev pub MovesOver : List ℕ × List ℕ → H → H → Result (Unit {0}) EventFault → Type 0
  MovesOver paths old new result = (moved : Result (Unit {0}) Error)
      × words.host old (MoveFile paths.1 paths.0 moved) new × (result ≡ answer_of which.File moved)

  -- the file is made where an error of this kind says that nothing stands at the path of what is to replace it
  abbrev pub MakesByKind : List ℕ × List ℕ → ErrorKind → Error → H → H → Result (Unit {0}) EventFault → Type 0
  MakesByKind file NotFound error mid new result = MakesNew which.File file mid new result
  MakesByKind file NotADirectory error mid new result = MakesNew which.File file mid new result
  MakesByKind file OutOfMemory error mid new result = Stops fault.Memory mid new result
  MakesByKind file _ error mid new result = Stops (fault.Unseen error) mid new result

  -- and where this says so
  abbrev pub MakesBy : List ℕ × List ℕ → Result (Unit {0}) Error → H → H → Result (Unit {0}) EventFault → Type 0
  MakesBy file (Ok stands) mid new result = Stops (fault.Stands which.Part) mid new result
  MakesBy file (Err error) mid new result = MakesByKind file (error_kind error) error mid new result

  -- what stands at the path of what is to replace the file is looked for, and by that it is made
  abbrev pub MakesUnlessLeft : EventText → H → H → Result (Unit {0}) EventFault → Type 0
  MakesUnlessLeft event old new result = (looked : Result (Unit {0}) Error) × (mid : H)
      × words.places old (Look event.part looked) mid × MakesBy (event.file, event.text) looked mid new result

  -- it is made where it may lie there, by this answer
  abbrev pub MakesWhere : EventText → Result (Unit {0}) FileFault → H → H
      → Result (Unit {0}) EventFault → Type 0
  MakesWhere event (Err why) mid new result = Stops (fault.Place why) mid new result
  MakesWhere event (Ok done) mid new result = MakesUnlessLeft event mid new result

  -- where it may lie, beside a store and a destination, if there is one, is asked first
  abbrev pub MakesEvent : List ℕ × Option (List ℕ) → EventText → H → H → Result (Unit {0}) EventFault → Type 0
  MakesEvent at event old new result = (judged : Result (Unit {0}) FileFault) × (mid : H)
      × JudgesFile words.places at event.file old mid judged × MakesWhere event judged mid new result

  -- an event begins with these members: its file is made, with them; or memory was wanting for a text, before anything was asked
  abbrev pub BeginsFile : EventHead → List ℕ → JsonMembers → H → H → Result (Unit {0}) EventFault → Type 0
  BeginsFile head path begun old new result = Stops fault.Memory old new result
      ⊎ (BeginsWith head begun × MakesEvent (judged_beside head) (event_text_at (paths_of path) begun) old new result)

  -- the same where a file is named for it, and what is kept of that; else nothing is asked
  abbrev pub BeginsEvent : EventHead → Option (List ℕ) → H → H
      → Result (Option EventFile) EventFault → Type 0
  BeginsEvent head None old new result = (result ≡ Ok None) × (new ≡ old)
  BeginsEvent head (Some path) old new (Ok None) = ⊥
  BeginsEvent head (Some path) old new (Ok (Some file)) =
      ((file.path, file.part) ≡ paths_of path) × BeginsFile head path (event_members file.event) old new (Ok tt)
  BeginsEvent head (Some path) old new (Err why) = (begun : JsonMembers) × BeginsFile head path begun old new (Err why)

  -- what is to replace the file was made or not, and is renamed to it
  abbrev pub MovesMade : List ℕ × List ℕ → Result (Unit {0}) EventFault → H → H
      → Result (Unit {0}) EventFault → Type 0
  MovesMade paths (Err why) mid new result = Stops why mid new result
  MovesMade paths (Ok done) mid new result = MovesOver paths mid new result

  -- the file is replaced: by one with this text, which is made beside it first
  abbrev pub Replaces : EventText → H → H → Result (Unit {0}) EventFault → Type 0
  Replaces event old new result = (made : Result (Unit {0}) EventFault) × (mid : H)
      × MakesNew which.Part (event.part, event.text) old mid made × MovesMade (event.file, event.part) made mid new result

  -- an event ends: its file is replaced, by one with such a text; or memory was wanting for that, before anything was asked
  abbrev pub EndsFile : List ℕ × List ℕ → (List ℕ → Type 0) → H → H → Result (Unit {0}) EventFault → Type 0
  EndsFile paths says old new result = Stops fault.Memory old new result
      ⊎ ((text : List ℕ) × says text × Replaces (record { file = paths.0; part = paths.1; text = text }) old new result)

  -- why the end of an event can't be recorded is told, if it can't be
  abbrev pub TellsUnended : Result (Unit {0}) EventFault → H → H → Type 0
  TellsUnended (Ok done) mid new = new ≡ mid
  TellsUnended (Err why) mid new = TellsEvent words (codes "pairtree2ocfl: the event has no end: ") why mid new

  -- the same of an event that began with these members, by how what it records ended, with the status that it leaves of that
  abbrev pub EndsRecord : List ℕ × List ℕ → JsonMembers → Conclusion → H → H → ℕ → Type 0
  EndsRecord paths begun ran old new status = (result : Result (Unit {0}) EventFault) × (mid : H)
      × EndsFile paths (IsEndText begun ran) old mid result × TellsUnended result mid new
      × (status ≡ recorded_status ran.status result)

  -- the same of an event that was begun, if one was
  abbrev pub EndsEvent : Option EventFile → Conclusion → H → H → ℕ → Type 0
  EndsEvent None ran old new status = (status ≡ ran.status) × (new ≡ old)
  EndsEvent (Some file) ran old new status = EndsRecord (file.path, file.part) (event_members file.event) ran old new status

  -- where an event was begun with these members what it records is made, and then it ends; else nothing is made, and why is told
  abbrev pub GoesOnRecorded : List ℕ × JsonMembers → (H → H → Conclusion → Type 0) → Result (Unit {0}) EventFault → H → H → ℕ
      → Type 0
  GoesOnRecorded event makes (Err why) mid new status =
      (status ≡ event_status why) × TellsEvent words (codes "pairtree2ocfl: ") why mid new
  GoesOnRecorded event makes (Ok done) mid new status = (ran : Conclusion) × (after : H) × makes mid after ran
      × EndsRecord (paths_of event.0) event.1 ran after new status

  -- what is made is recorded, where a file is named for it; else it is made alone, and no further call
  abbrev pub IsRecorded : EventHead → Option (List ℕ) → (H → H → Conclusion → Type 0) → H → H → ℕ → Type 0
  IsRecorded head None makes old new status = (ran : Conclusion) × makes old new ran × (status ≡ ran.status)
  IsRecorded head (Some path) makes old new status = (begun : JsonMembers) × (result : Result (Unit {0}) EventFault) × (mid : H)
      × BeginsFile head path begun old mid result × GoesOnRecorded (path, begun) makes result mid new status
