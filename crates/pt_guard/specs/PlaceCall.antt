-- The calls on a system whose folders are somewhere and can be locked.
use Rattle.std.specs.Prelude.{ℕ, List, Result}
use Rattle.std.specs.declared.io.Error.{Error}
use Rattle.pt_guard.specs.Paths.{Place}
use Rattle.pt_guard.specs.declared.places.Claim.{Claim}
use Rattle.pt_guard.specs.declared.places.FileId.{FileId}
use Rattle.pt_guard.specs.declared.places.LockAttempt.{LockAttempt}

-- a call of `Places`, whose locks are these, with what it is asked and what it comes to
pub data PlaceCall (L : Type 0) : Type 0 where
  -- where a path leads, from the top, links resolved
  Resolve : (path : List ℕ) → (place : Result Place Error) → PlaceCall L
  -- what a path leads to, links followed
  Identify : (path : List ℕ) → (id : Result FileId Error) → PlaceCall L
  -- what stands at a path, a link not followed
  Look : (path : List ℕ) → (stands : Result (Unit {0}) Error) → PlaceCall L
  -- the lock of the folder at a path, asked for in this way
  Hold : (claim : Claim) → (path : List ℕ) → (came : LockAttempt L) → PlaceCall L
  -- a lock is given back
  Release : (lock : L) → PlaceCall L
