-- What an answer to the question for a lock says.
use Rattle.std.specs.Prelude.{◌≡◌, ◌⊎◌, ⊤, ℕ, Bool, true, false, List, Option, Result, Ok, Err, MatchResult}
use Rattle.std.specs.IoError.{error_kind}
use Rattle.std.specs.declared.fs.locks.TryLockError.{TryLockError}
use Rattle.std.specs.declared.fs.locks.TryLockError.TheVariants as refused
use Rattle.std.specs.declared.io.Error.{Error}
use Rattle.std.specs.declared.io.ErrorKind.TheVariants.{NotADirectory}
use Rattle.pt_guard.specs.Declaration.{TellsDeclared}
use Rattle.pt_guard.specs.PlaceCall.{PlaceCall, Hold}
use Rattle.pt_guard.specs.Wanting.{IsWanting}
use Rattle.pt_guard.specs.declared.places.Claim.{Claim}
use Rattle.pt_guard.specs.declared.places.LockAttempt.{LockAttempt}
use Rattle.pt_guard.specs.declared.places.LockAttempt.TheVariants as hold

-- what a question for a lock is answered
abbrev pub LockAnswer : Type 0
LockAnswer = Result (Unit {0}) TryLockError

-- the lock of what was asked is held, another holds it, or it can't be asked for
abbrev pub hold_of : {F : Type 0} → F → LockAnswer → LockAttempt F
hold_of file (Ok _) = hold.Held file
hold_of file (Err refused.WouldBlock) = hold.Taken
hold_of file (Err (refused.Error error)) = hold.Unknown error

-- what the calls may answer by which a system's folders are looked at and opened, each by its path: whether it is a folder, its names, and what it is
-- opened as; the bytes that names have left, where they tell them; and what asking for a lock as a claim says may be answered
pub record FolderWords (D F : Type 0) : Type 1 where
  pub kinds : List ℕ → Result Bool Error → Type 0
  pub names : List ℕ → Result D Error → Type 0
  pub opens : List ℕ → Result F Error → Type 0
  pub remaining : D → Option (List ℕ)
  pub answers : Claim → F → LockAnswer → Type 0

module _ {D F : Type 0} (words : FolderWords D F) where
  -- of a folder that was opened the lock is asked for as the claim says, and that is what is answered; or nothing could be opened
  abbrev pub AsksOpened : Claim → Result F Error → LockAttempt F → Type 0
  AsksOpened claim opened came = MatchResult opened
      (λ file. (answer : LockAnswer) × words.answers claim file answer × (came ≡ hold_of file answer))
      (λ error. came ≡ hold.Unknown error)

  -- the folder at this path is opened for that
  abbrev pub AsksLock : Claim → List ℕ → LockAttempt F → Type 0
  AsksLock claim path came = (opened : Result F Error) × words.opens path opened × AsksOpened claim opened came

  -- it is a root or an object itself by this answer, and isn't held; memory was wanting for that, and is told; or the lock is asked for
  abbrev pub HoldsBy : Claim → List ℕ → Result Bool Error → LockAttempt F → Type 0
  HoldsBy claim path (Ok true) came = came ≡ hold.Root
  HoldsBy claim path (Ok false) came = AsksLock claim path came
  HoldsBy claim path (Err error) came = (IsWanting error × (came ≡ hold.Unknown error))
      ⊎ ((¬ IsWanting error) × AsksLock claim path came)

  -- the names of the folder at this path are read, and whether one is a declaration's is answered so
  abbrev pub TellsNames : List ℕ → Result Bool Error → Type 0
  TellsNames path answer = (named : Result D Error) × words.names path named
      × MatchResult named (λ dir. TellsDeclared words.remaining dir answer) (λ error. answer ≡ Err error)

  -- of a folder, by this answer, the names are asked for; where one is a declaration's it is a root or an object itself, and else its lock is asked for,
  -- also where they can't be read. What is no folder can't be locked, nor what can't be told
  abbrev pub HoldsKind : Claim → List ℕ → Result Bool Error → LockAttempt F → Type 0
  HoldsKind claim path (Ok true) came = (declared : Result Bool Error) × TellsNames path declared × HoldsBy claim path declared came
  HoldsKind claim path (Ok false) came = (error : Error) × (error_kind error ≡ NotADirectory) × (came ≡ hold.Unknown error)
  HoldsKind claim path (Err error) came = came ≡ hold.Unknown error

  -- whether the path leads to a folder is asked first
  abbrev pub AsksFolder : Claim → List ℕ → LockAttempt F → Type 0
  AsksFolder claim path came = (is_folder : Result Bool Error) × words.kinds path is_folder × HoldsKind claim path is_folder came

-- of a call on a system's folders: what asking for the lock of the one at a path comes to is by what is there, its names and the answer to asking; of the
-- other calls nothing is said
abbrev pub SaysOfLocks : {S D F : Type 0} → (S → FolderWords D F) → S → PlaceCall F → S → Type 0
SaysOfLocks words old (Hold claim path came) new = AsksFolder (words old) claim path came
SaysOfLocks words old _ new = ⊤
