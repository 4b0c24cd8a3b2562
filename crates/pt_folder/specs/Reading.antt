-- The open file of a folder that is read.
use Rattle.std.specs.Prelude.{
  ◌≡◌,
  ◌⊎◌,
  ◌<◌,
  ◌≤◌,
  ℕ,
  ◌==◌,
  ◌+◌,
  ◌-◌,
  ◌^◌,
  not,
  true,
  false,
  length,
  take,
  drop,
  List,
  [],
  Option,
  Some,
  None,
  Result,
  Ok,
  Err,
  MatchBool,
}
use Rattle.std.specs.IoError.{error_kind}
use Rattle.std.specs.Option.{option_map, option_and_then, ForSome}
use Rattle.std.specs.declared.io.Error.{Error}
use Rattle.std.specs.declared.io.ErrorKind.TheVariants.{FileTooLarge}
use Rattle.pt_tree.specs.declared.faults.TreeFault.{TreeFault}
use Rattle.pt_tree.specs.declared.faults.TreeFault.TheVariants.{Device}
use Rattle.pt_folder.specs.declared.reading.FileInReading.{FileInReading}
use Rattle.pt_folder.specs.Calls.{fault_of}
use Rattle.pt_folder.specs.Failure.{IsAt, IsOfCall}
use Rattle.pt_folder.specs.declared.failure.Failure.{Failure}
use Rattle.pt_folder.specs.declared.failure.FailureReason.TheVariants as cause
use Rattle.pt_folder.specs.Runs.{FailsToRead, ReadsBlock}

-- what of a file isn't read yet, where its bytes are known
abbrev pub unread_of : {F : Type 0} → (F → Option (List ℕ)) → FileInReading F → Option (List ℕ)
unread_of bytes r = option_map (drop r.place) (bytes r.file)

-- the same of the open file, if there is one
abbrev pub unread_open : {F : Type 0} → (F → Option (List ℕ)) → Option (FileInReading F) → Option (List ℕ)
unread_open bytes reading = option_and_then (unread_of bytes) reading

-- where the bytes of a file are known, it stands at its place unless it is lost, and that is one in it; and nothing is left once its end
-- was met
pub record Stands {F : Type 0} (bytes left : F → Option (List ℕ)) (r : FileInReading F) : Type 0 where
  pub at_place : r.lost ≡ false → ForSome (bytes r.file) (λ xs. left r.file ≡ Some (drop r.place xs))
  pub at_end : r.ended ≡ true → ForSome (bytes r.file) (λ xs. drop r.place xs ≡ [])
  pub within : ForSome (bytes r.file) (λ xs. r.place ≤ length xs)

-- where a file is open, it stands where its place is counted
abbrev pub StandsOpen : {F : Type 0} → (F → Option (List ℕ)) → (F → Option (List ℕ))
    → Option (FileInReading F) → Type 0
StandsOpen bytes left reading = ForSome reading (Stands bytes left)

-- the block is the next bytes, as many as it holds
abbrev pub IsNext : Option (List ℕ) → List ℕ → Type 0
IsNext unread block = ForSome unread (λ xs. block ≡ take 8192 xs)

-- the open file, by the system's reply: it is the open one from its start, or after a fault the one that was
abbrev pub OpensAt : {F : Type 0} → Option (FileInReading F) → Option (FileInReading F) → Result F Error
    → Result (Unit {0}) TreeFault → Type 0
OpensAt old new (Ok file) result = (result ≡ Ok tt)
    × (new ≡ Some (record { file = file; place = 0; ended = false; lost = false }))
OpensAt old new (Err e) result = (result ≡ Err (fault_of e)) × (new ≡ old)

-- a file that may stand elsewhere was asked to go to its place, and did; another is as it was
abbrev pub GoesFirst : {F : Type 0} → (F → ℕ → Result ℕ Error → F → Type 0) → FileInReading F → F → Type 0
GoesFirst goes old mid = MatchBool old.lost ((at : ℕ) × goes old.file old.place (Ok at) mid) (mid ≡ old.file)

-- Behind the end the block is empty and nothing changes. Before it the file goes to its place, if it may stand elsewhere;
-- then the block is what its reads gave, one after another; the place moves on behind it, and the end was met where the
-- block isn't full.
abbrev pub ReadsNext : {F : Type 0} → (F → List ℕ → Result ℕ Error → F → Type 0)
    → (F → ℕ → Result ℕ Error → F → Type 0) → FileInReading F → FileInReading F → List ℕ → Type 0
ReadsNext {F} reads goes old new block = MatchBool old.ended ((block ≡ []) × (new ≡ old))
    ((mid : F) × GoesFirst goes old mid × ReadsBlock reads 8192 mid block new.file
    × (new.place ≡ old.place + length block) × (new.ended ≡ not (length block == 8192))
    × (new.lost ≡ false))

-- a file stays open and is read on
abbrev pub ReadsOn : {F : Type 0} → (F → List ℕ → Result ℕ Error → F → Type 0)
    → (F → ℕ → Result ℕ Error → F → Type 0) → Option (FileInReading F) → Option (FileInReading F) → List ℕ
    → Type 0
ReadsOn reads goes None new block = ⊥
ReadsOn reads goes (Some old) None block = ⊥
ReadsOn reads goes (Some old) (Some new) block = ReadsNext reads goes old new block

-- the file was asked to go to its place, and answered so; it may still stand elsewhere
abbrev pub FailsToGoBack : {F : Type 0} → (F → ℕ → Result ℕ Error → F → Type 0) → FileInReading F → Error
    → FileInReading F → Type 0
FailsToGoBack goes old e new = (old.lost ≡ true) × goes old.file old.place (Err e) new.file
    × (new.lost ≡ true)

-- the file went to its place, if it may have stood elsewhere; after some reads or none, one answered so
abbrev pub FailsAtRead : {F : Type 0} → (F → List ℕ → Result ℕ Error → F → Type 0)
    → (F → ℕ → Result ℕ Error → F → Type 0) → FileInReading F → Error → FileInReading F → Type 0
FailsAtRead {F} reads goes old e new = (mid : F) × GoesFirst goes old mid
    × FailsToRead reads 8192 mid e new.file × (new.lost ≡ true)

-- no place behind the next block can be counted, so nothing is asked
abbrev pub IsTooFar : {F : Type 0} → FileInReading F → Error → FileInReading F → Type 0
IsTooFar old e new = (2 ^ 64 - 1 - 8192 < old.place) × (error_kind e ≡ FileTooLarge) × (new ≡ old)

-- Before the end, why reading on fails. The place and whether the end was met stay; the file stays open, and where one of
-- its calls failed it may stand elsewhere.
pub record FailsToReadOn {F : Type 0} (reads : F → List ℕ → Result ℕ Error → F → Type 0)
    (goes : F → ℕ → Result ℕ Error → F → Type 0) (old : FileInReading F) (e : Error)
    (new : FileInReading F) : Type 0 where
  pub place : new.place ≡ old.place
  pub before : old.ended ≡ false
  pub ended : new.ended ≡ false
  pub failed : IsTooFar old e new ⊎ (FailsToGoBack goes old e new ⊎ FailsAtRead reads goes old e new)

-- the open file stays open, and this is why it isn't read on; or none is open
abbrev pub FailsOn : {F : Type 0} → (F → List ℕ → Result ℕ Error → F → Type 0)
    → (F → ℕ → Result ℕ Error → F → Type 0) → Option (FileInReading F) → Option (FileInReading F) → TreeFault
    → Type 0
FailsOn reads goes None new fault = (fault ≡ Device) × (new ≡ None)
FailsOn reads goes (Some old) None fault = ⊥
FailsOn reads goes (Some old) (Some new) fault = (e : Error) × FailsToReadOn reads goes old e new
    × (fault ≡ fault_of e)

-- reading on went well so, or failed so
abbrev pub ReadsBy : {F : Type 0} → (F → List ℕ → Result ℕ Error → F → Type 0)
    → (F → ℕ → Result ℕ Error → F → Type 0) → Option (FileInReading F) → Option (FileInReading F) → List ℕ
    → Result (Unit {0}) TreeFault → Type 0
ReadsBy reads goes old new block (Ok done) = ReadsOn reads goes old new block
ReadsBy reads goes old new block (Err fault) = FailsOn reads goes old new fault

-- a failed `next`, at the open file's path: no file is open, or it isn't read on
abbrev pub IsOfReading : {F : Type 0} → (F → List ℕ → Result ℕ Error → F → Type 0)
    → (F → ℕ → Result ℕ Error → F → Type 0) → List ℕ → Option (FileInReading F) → Failure → Type 0
IsOfReading reads goes path None f = IsAt path cause.Closed f
IsOfReading {F} reads goes path (Some old) f =
    IsOfCall path (λ e. (after : FileInReading F) × FailsToReadOn reads goes old e after) f
