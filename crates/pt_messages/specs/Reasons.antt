-- Why a fault came: a path, and a reason.
use Rattle.std.specs.Prelude.{◌≡◌, ◌≢◌, ◌⊎◌, ⊤, ◌++◌, ℕ, IsSomeAnd, List, Option, None, Some, Result, Ok, Err, codes, string_bytes}
use Rattle.std.specs.Option.{option_map}
use Rattle.std.specs.IoError.{error_kind}
use Rattle.std.specs.declared.alloc.AllocError.{AllocError}
use Rattle.std.specs.declared.io.Error.{Error}
use Rattle.std.specs.declared.io.ErrorKind.TheVariants.{NotFound}
use Rattle.pt_folder.specs.declared.failure.Failure.{Failure}
use Rattle.pt_messages.specs.Escaped.{escaped}
use Rattle.pt_messages.specs.declared.reason.Explanation.{Explanation}
use Rattle.pt_messages.specs.declared.reason.Explanation.TheVariants.{Known, NoMemory, Nothing}
use Rattle.pt_messages.specs.declared.reason.FaultReason.{FaultReason}
use Rattle.pt_messages.specs.declared.reason.LastCalls.{LastCalls}
use Rattle.pt_plan.specs.declared.fault.Fault.{Fault}
use Rattle.pt_plan.specs.declared.fault.Fault.TheVariants as fault

-- this reason at this path is found
abbrev pub IsAt : List ℕ → List ℕ → Option FaultReason → Type 0
IsAt path text found = IsSomeAnd found (λ why. (string_bytes why.path ≡ path) × (string_bytes why.reason ≡ text))

-- the line by which a reason is told, without LF
abbrev pub reason_line : FaultReason → List ℕ
reason_line why = codes "pairtree2ocfl: " ++ (escaped (string_bytes why.path) ++ (codes ": " ++ string_bytes why.reason))

-- a destination that isn't there isn't told of; one that can't be locked is told with the reason that the system gives, without LF
abbrev pub IsUnlockedLine : List ℕ → Error → Option (List ℕ) → Type 0
IsUnlockedLine dest error None = error_kind error ≡ NotFound
IsUnlockedLine dest error (Some line) = (error_kind error ≢ NotFound)
    × ((reason : List ℕ) × (line ≡ codes "pairtree2ocfl: " ++ (escaped dest ++ (codes ": it is not locked: " ++ reason))))

-- of a call that failed its path is told, with the system's text or the folder's; where none did, nothing
abbrev pub IsOfFailure : Option Failure → Option FaultReason → Type 0
IsOfFailure None found = found ≡ None
IsOfFailure (Some failure) found = (text : List ℕ) × IsAt (string_bytes failure.path) text found

-- of a folder that is no store it is told what it lacks, or of which store it is a part
abbrev pub IsOfNoStore : List ℕ → Option FaultReason → Type 0
IsOfNoStore store found = IsAt store (codes "it holds no file pairtree_version0_1 or no directory pairtree_root") found
    ⊎ ((above : List ℕ) × IsAt store (codes "it is the pairtree_root of a store: name " ++ escaped above) found)

-- why a run, an audit or a check ended with a fault, where that has a path: that of the last call on its source or its destination that failed, that of
-- its store, that which its destination looked at last, or that of a file
abbrev pub IsOfFault : Fault → List ℕ → Option Failure → LastCalls → Option FaultReason → Type 0
IsOfFault fault.Source store failure dest found = IsOfFailure failure found
IsOfFault fault.Dest store failure dest found = IsOfFailure (option_map (λ f. f.now) dest.failure) found
IsOfFault fault.NotPairtree store failure dest found = IsOfNoStore store found
IsOfFault fault.Prefix store failure dest found =
    IsAt store (codes "pairtree_prefix in it is no file, has more than 1024 bytes, or is not UTF-8") found
IsOfFault fault.StagingLeft store failure dest found = IsAt dest.looked_path.now (codes "it stands there already") found
IsOfFault fault.Target store failure dest found =
    IsAt dest.looked_path.now (codes "it is not what this program makes there with these tuples") found
IsOfFault fault.Changed store failure dest found = (path : List ℕ) × IsAt path (codes "it was not the same at its second reading") found
IsOfFault _ store failure dest found = found ≡ None

-- what such an answer explains
abbrev pub explanation_of : Result (Option FaultReason) AllocError → Explanation
explanation_of (Ok None) = Nothing
explanation_of (Ok (Some why)) = Known why
explanation_of (Err _) = NoMemory

-- what is explained is this, unless there was no memory for it
abbrev pub Explains : (Option FaultReason → Type 0) → Explanation → Type 0
Explains P Nothing = P None
Explains P (Known why) = P (Some why)
Explains P NoMemory = ⊤
