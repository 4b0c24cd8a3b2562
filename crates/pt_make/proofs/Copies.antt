-- The turns that copy a file, from their calls.
use Rattle.std.proofs.Common.{◌≡◌, ◌<◌, ◌≤◌, ◌-◌, ◌==◌, ℕ, true, false, List, [], ◌∷◌, ◌++◌, length, refl, sym, arith, ◌&&◌}
use Rattle.std.specs.Prelude.{Some, Ok, Err, IsErrAnd, slice_get}
use Rattle.std.specs.Str.{bytes_eq}
use Rattle.std.proofs.lemmas.Bool.{le-ltb, lt-ltb}
use Rattle.pt_state.proofs.Words.{
  digest_of,
  HasBeenFed,
  Algorithm,
  Content,
  Hasher,
  Row,
  Answer,
  Did,
  FailsPartway,
  Make,
  content_at,
  Adds,
  Finishes,
  Reads,
  DeviceStates,
  asks,
  does,
  Fault,
  Object,
  Part,
  Position,
  Turned,
  KeepsAll,
}
use Rattle.pt_state.proofs.Words.fault
use Rattle.pt_state.proofs.Words.phase
use Rattle.pt_state.proofs.Words.stage
use Rattle.pt_state.specs.declared.state.State.{State}
use Rattle.pt_plan.specs.TurnMake.{CopiesOn, EndsCopy, ReadsMore, ReadsOther, behind_stored}
use Rattle.pt_state.proofs.Together.{asked_then, can_write_asked, then_did, then_leaves}
use Rattle.pt_state.proofs.Turns.{left_some, refused, turned_read, went}
use Rattle.pt_make.specs.Making.{IsAsRead, IsOther}

-- ---- a block was read

-- an empty block is the end
pub read_nothing : (block : List ℕ) (w w' : DeviceStates) → Did (asks (Reads block)) w w' → true ≡ (length block == 0) → Did (asks (Reads [])) w w'
read_nothing [] w w' did is = did
read_nothing (byte ∷ block) w w' did is = absurd (grind (arith, is))

pub read_something : (block : List ℕ) → false ≡ (length block == 0) → 0 < length block
read_something [] is = absurd (cc)
read_something (byte ∷ block) is = omega (arith)

pub ruleset reading = (turned_read, read_nothing, read_something, can_write_asked)

-- ---- the end of a file

pub is_read_as : (rows : List Row) (contents : List Content) (position : Position) (left : ℕ) (digest : List ℕ) (row : Row) (next : Part)
    → Some row ≡ slice_get rows position.row → true ≡ ((left == 0) && bytes_eq digest row.digest)
    → next ≡ content_at rows (behind_stored contents position row.path) → IsAsRead rows contents position left digest next
unfolding IsAsRead
is_read_as rows contents position left digest row next at same then = (row, (sym at, sym same, then))

pub is_other : (rows : List Row) (position : Position) (left : ℕ) (digest : List ℕ) (row : Row) → Some row ≡ slice_get rows position.row
    → false ≡ ((left == 0) && bytes_eq digest row.digest) → IsOther rows position left digest
unfolding IsOther
is_other rows position left digest row at differs = (row, (sym at, sym differs))

pub ruleset comparing = (is_read_as, is_other)

-- the digest of what the hasher was fed
digest_fed : (s : State) (hasher : Hasher) (digest fed : List ℕ) → hasher ≡ s.hasher
    → ((algorithm : Algorithm) (fed : List ℕ) → HasBeenFed algorithm hasher fed → digest ≡ digest_of algorithm fed) → HasBeenFed s.job.algorithm s.hasher fed
    → digest ≡ digest_of s.job.algorithm fed
digest_fed s hasher digest fed same ends was = ends s.job.algorithm fed (rw same was)

-- ---- turns

module _ (s s' : State) (a b : DeviceStates) (object : Object) (position : Position) (left : ℕ) (keeps : KeepsAll s s') where
  pub reads_more : (block : List ℕ) → Did (asks (Reads block)) a b → 0 < length block → left < length block
      → Turned (phase.Carrying object (stage.Copy position left)) s s' a b (Err fault.Changed)
  reads_more [] read some more = absurd (omega (arith, some))
  reads_more (byte ∷ block) read some more = refused a b (λ fed was. Make
      (ReadsMore _ object position left byte block (lt-ltb left (length (byte ∷ block)) more))) read keeps

  -- a block that is within what is left is added and fed
  pub copies_on : (c : DeviceStates) (block : List ℕ) → Did (asks (Reads block)) a b → Did (does (Adds block)) b c → 0 < length block → length block ≤ left
      → ((algorithm : Algorithm) (fed : List ℕ) → HasBeenFed algorithm s.hasher fed → HasBeenFed algorithm s'.hasher (fed ++ block))
      → Turned (phase.Carrying object (stage.Copy position left)) s s' a c (Ok (phase.Carrying object (stage.Copy position (left - length block))))
  copies_on c [] read added some most feeds = absurd (omega (arith, some))
  copies_on c (byte ∷ block) read added some most feeds =
      went a c (λ fed. fed ++ byte ∷ block) (λ fed _. Make (CopiesOn _ object position left byte block (le-ltb left (length (byte ∷ block)) most)))
      (then_did _ _ a b c read added) refl (feeds s.job.algorithm) keeps

  -- a part of the block was added
  pub copies_part : (c : DeviceStates) (block : List ℕ) (f : Fault) (result : Answer) → IsErrAnd result (λ h. h ≡ f) → Did (asks (Reads block)) a b
      → FailsPartway (does (Adds block)) f b c → 0 < length block → length block ≤ left
      → Turned (phase.Carrying object (stage.Copy position left)) s s' a c result
  copies_part c [] f result is read part some most = absurd (omega (arith, some))
  copies_part c (byte ∷ block) f result is read part some most =
      left_some a c f result is (λ fed. Make (CopiesOn _ object position left byte block (le-ltb left (length (byte ∷ block)) most)))
      (then_leaves _ _ f a b c read part) keeps

  -- an empty block ends the file
  module _ (hasher : Hasher) (digest : List ℕ) (read : Did (asks (Reads [])) a b) (same : hasher ≡ s.hasher) (ends : (algorithm : Algorithm) (fed : List ℕ)
      → HasBeenFed algorithm hasher fed → digest ≡ digest_of algorithm fed) where
    pub reads_other : IsOther s.rows position left digest → Turned (phase.Carrying object (stage.Copy position left)) s s' a b (Err fault.Changed)
    unfolding IsOther
    reads_other (row, (at, differs)) =
        refused a b
        (λ fed was. Make (ReadsOther _ object position row left at (rw (digest_fed s hasher digest fed same ends was) at differs)))
        read keeps

    pub copy_ended : (c : DeviceStates) (next : Part) → Did (does Finishes) b c → IsAsRead s.rows s.contents position left digest next
        → HasBeenFed s.job.algorithm s'.hasher [] → Turned (phase.Carrying object (stage.Copy position left)) s s' a c
        (Ok (phase.Carrying object (stage.Make next)))
    unfolding IsAsRead
    copy_ended c next finished (row, (at, is, then)) started =
        rw then
        (went a c (λ _. [])
        (λ fed was. Make (EndsCopy _ object position row left at (rw (digest_fed s hasher digest fed same ends was) at is)))
        (then_did _ _ a b c read finished) refl (λ _ _. started) keeps)

pub ruleset copying = (reads_more, copies_on, copies_part, reads_other, asked_then, copy_ended)
