-- Whether a run may begin.
use Rattle.std.specs.Prelude.{◌≡◌, ◌⊎◌, ℕ, List, Result, Ok, Err}
use Rattle.std.specs.declared.io.Error.{Error}
use Rattle.pt_guard.specs.PlaceCall.{PlaceCall, Hold}
use Rattle.pt_guard.specs.Apart.{Overlaps}
use Rattle.pt_guard.specs.Wanting.{IsWanting}
use Rattle.pt_guard.specs.declared.apart.Nesting.{Nesting}
use Rattle.pt_guard.specs.declared.apart.Nesting.TheVariants.{Apart, Inside, Unknown, Wanting}
use Rattle.pt_guard.specs.declared.guard.FolderLock.{FolderLock}
use Rattle.pt_guard.specs.declared.guard.FolderLock.TheVariants as lock
use Rattle.pt_guard.specs.declared.guard.GuardFault.{GuardFault}
use Rattle.pt_guard.specs.declared.guard.GuardFault.TheVariants as fault
use Rattle.pt_guard.specs.declared.places.Claim.{Claim}
use Rattle.pt_guard.specs.declared.places.LockAttempt.{LockAttempt}
use Rattle.pt_guard.specs.declared.places.LockAttempt.TheVariants as attempt

module _ {S L : Type 0} (does : S → PlaceCall L → S → Type 0) (claim : Claim) (folders : List ℕ × List ℕ) where
  -- the two folders, a store and a destination, lie to one another so
  abbrev pub Lies : Nesting → S → S → Type 0
  Lies nesting old new = Overlaps does folders.0 folders.1 old new nesting

  -- they lie apart, and asking for the destination's lock came to this
  abbrev pub LockComesTo : LockAttempt L → S → S → Type 0
  LockComesTo came old new = (mid : S) × Lies Apart old mid × does mid (Hold claim folders.1 came) new

  -- memory was wanting: for a text before anything was asked, or for an answer of the system, by which all ends
  abbrev pub Wants : S → S → Type 0
  Wants old new = (new ≡ old) ⊎ (Lies Wanting old new
      ⊎ ((error : Error) × IsWanting error × LockComesTo (attempt.Unknown error) old new))

  -- the folders lie in one another, or that isn't known, and nothing more is asked; or they lie apart, and what asking for the lock comes to decides
  abbrev pub Begins : S → S → Result (FolderLock L) GuardFault → Type 0
  Begins old new (Err fault.Overlap) = Lies Inside old new
  Begins old new (Err fault.Hidden) = Lies Unknown old new
  Begins old new (Err fault.Taken) = LockComesTo attempt.Taken old new
  Begins old new (Err fault.Root) = LockComesTo attempt.Root old new
  Begins old new (Err fault.Memory) = Wants old new
  Begins old new (Ok (lock.Held held)) = LockComesTo (attempt.Held held) old new
  Begins old new (Ok (lock.Unheld error)) = (¬ (IsWanting error)) × LockComesTo (attempt.Unknown error) old new
