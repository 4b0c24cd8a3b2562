-- The open file of a folder that is written.
use Rattle.std.specs.Prelude.{◌≡◌, ℕ, Bool, true, false, cond, is_some, List, [], Option, Some, None, Result, Ok, Err, MatchResult}
use Rattle.std.specs.declared.io.Error.{Error}
use Rattle.pt_tree.specs.Path.{Path, rest_below}
use Rattle.pt_tree.specs.declared.faults.TreeFault.{TreeFault}
use Rattle.pt_tree.specs.declared.faults.TreeFault.TheVariants.{Device}
use Rattle.pt_folder.specs.declared.writing.FileInWriting.{FileInWriting}
use Rattle.pt_folder.specs.Calls.{Change, IsSyncAnswer, fault_of}
use Rattle.pt_folder.specs.Failure.{IsAt, IsOfCall}
use Rattle.pt_folder.specs.Folder.{entry_text}
use Rattle.pt_folder.specs.declared.failure.Failure.{Failure}
use Rattle.pt_folder.specs.declared.failure.FailureReason.TheVariants as cause
use Rattle.pt_folder.specs.Runs.{FailsToWrite, WritesAll, on_pairs}

-- the file at this path is the open one
abbrev pub IsMadeAt : {F : Type 0} → Path → Option (FileInWriting F) → Type 0
IsMadeAt p None = ⊥
IsMadeAt p (Some w) = w.path ≡ p

-- the open file, by the system's reply: it is the new one, or after a fault the one that was
abbrev pub MakesAt : {F : Type 0} → Path → Option (FileInWriting F) → Option (FileInWriting F) → Result F Error
    → Result (Unit {0}) TreeFault → Type 0
MakesAt p old new (Ok file) result = (result ≡ Ok tt) × (new ≡ Some (record { file = file; path = p }))
MakesAt p old new (Err e) result = (result ≡ Err (fault_of e)) × (new ≡ old)

-- the open file, unless it is at or below a path
abbrev pub open_unless_within : {F : Type 0} → Path → Option (FileInWriting F) → Option (FileInWriting F)
open_unless_within p None = None
open_unless_within p (Some w) = cond (is_some (rest_below p w.path)) None (Some w)

-- which writes the open file is asked for, and why adding to it fails: one of them did, or no file is open
abbrev pub WritesTo : {S F : Type 0} → (S → F → List ℕ → Result ℕ Error → S → F → Type 0) → Change S
    → Option (FileInWriting F) → Option (FileInWriting F) → List ℕ → Result (Unit {0}) TreeFault → Type 0
WritesTo writes system None new piece result =
    (result ≡ Err Device) × (new ≡ None) × (system.new ≡ system.old)
WritesTo writes system (Some old) None piece result = ⊥
WritesTo writes system (Some old) (Some new) piece result = (new.path ≡ old.path)
    × MatchResult result
    (λ _. WritesAll (on_pairs writes) piece (system.old, old.file) (system.new, new.file))
    (λ fault. (e : Error)
    × FailsToWrite (on_pairs writes) piece (system.old, old.file) e (system.new, new.file)
    × (fault ≡ fault_of e))

-- writes of a piece to a file ended with this error
abbrev pub FailsToAdd : {S F : Type 0} → (S → F → List ℕ → Result ℕ Error → S → F → Type 0) → List ℕ
    → S → F → Error → Type 0
FailsToAdd {S} {F} writes piece s file e = (after : S × F)
    × FailsToWrite (on_pairs writes) piece (s, file) e after

-- how the open file is closed: at once, or put onto the disk before, and so it was answered
abbrev pub FinishesBy : {F : Type 0} → (F → Result (Unit {0}) Error → F → Type 0) → Bool → F
    → Result (Unit {0}) TreeFault → Type 0
FinishesBy syncs false file result = result ≡ Ok tt
FinishesBy {F} syncs true file result = (answer : Result (Unit {0}) Error) × (after : F)
    × syncs file answer after × IsSyncAnswer answer result

-- the same of the open file, if there is one; closing none is a failure
abbrev pub ClosesBy : {F : Type 0} → (F → Result (Unit {0}) Error → F → Type 0) → Bool
    → Option (FileInWriting F) → Result (Unit {0}) TreeFault → Type 0
ClosesBy syncs synced None result = result ≡ Err Device
ClosesBy syncs synced (Some w) result = FinishesBy syncs synced w.file result

-- a failure of a call on the open file, at its path; or no file is open
abbrev pub IsOfWriting : {F : Type 0} → List ℕ → (F → Error → Type 0) → Option (FileInWriting F) → Failure → Type 0
IsOfWriting folder P None f = IsAt [] cause.Closed f
IsOfWriting folder P (Some w) f = IsOfCall (entry_text folder w.path) (P w.file) f
