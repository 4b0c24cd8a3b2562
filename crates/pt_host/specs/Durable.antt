-- A log whose output is put onto its disk.
use Rattle.std.specs.Prelude.{◌≡◌, ◌≢◌, ◌⊎◌, ⊤, ℕ, Err, IfSome, IsSome, List, Ok, Option, None, Result, Some, refl}
use Rattle.std.proofs.Common.{◌∙◌, inl, inr, subst, sym}
use Rattle.std.specs.declared.io.Error.{Error}
use Rattle.pt_plan.specs.declared.fault.Fault.{Fault}
use Rattle.pt_plan.specs.declared.fault.Fault.TheVariants.{Log}
use Rattle.pt_host.specs.declared.durable_log.DurableLog.{DurableLog}

-- all that a writer has written was put onto the disk there, and this left the file so
abbrev pub IsOnDisk : {W E : Type 0} → (E → W → Result (Unit {0}) Error → E → Type 0) → W → E → Type 0
IsOnDisk {W} {E} puts writer file = (before : E) × puts before writer (Ok tt) file

-- the same of this file, where there is one, and what it is after that
abbrev pub IsPutBehind : {W E : Type 0} → (E → W → Result (Unit {0}) Error → E → Type 0) → W
    → Option E → Option E → Type 0
IsPutBehind puts writer None new = new ≡ None
IsPutBehind {W} {E} puts writer (Some file) new =
    (after : E) × (new ≡ Some after) × puts file writer (Ok tt) after

-- all that a writer has written was to be put onto the disk of this file, where there is one, and so it was answered
abbrev pub IsSyncedBy : {W E : Type 0} → (E → W → Result (Unit {0}) Error → E → Type 0) → W
    → Option E → Option E → Result (Unit {0}) Error → Type 0
IsSyncedBy puts writer None new answer = (new ≡ None) × (answer ≡ Ok tt)
IsSyncedBy {W} {E} puts writer (Some file) new answer =
    (after : E) × (new ≡ Some after) × puts file writer answer after

-- a piece was to be put by a writer and its file, and so it was answered: it wasn't written, or it was and then the file put it onto its disk,
-- where there is one, or did not
pub data Put {W E : Type 0} (writes : W → List ℕ → Result (Unit {0}) Error → W → Type 0)
    (puts : E → W → Result (Unit {0}) Error → E → Type 0) (old new : W × Option E) (answer : Result (Unit {0}) Error)
    : Type 0 where
  unwritten : (piece : List ℕ) (why : Error) → writes old.0 piece (Err why) new.0 → new.1 ≡ old.1 → answer ≡ Err why
      → Put writes puts old new answer
  written : (piece : List ℕ) → writes old.0 piece (Ok tt) new.0 → IsSyncedBy puts new.0 old.1 new.1 answer
      → Put writes puts old new answer

module _ {W E : Type 0} (writes : W → List ℕ → Result (Unit {0}) Error → W → Type 0)
    (puts : E → W → Result (Unit {0}) Error → E → Type 0) where
  -- pieces were put, one after another
  pub data Puts (first : W × Option E) : W × Option E → Type 0 where
    none : Puts first first
    next : (mid last : W × Option E) (answer : Result (Unit {0}) Error) → Puts first mid
        → Put writes puts mid last answer → Puts first last

  -- and those after them
  pub puts_on : (a b c : W × Option E) → Puts a b → Puts b c → Puts a c
  puts_on a b _ p none = p
  puts_on a b c p (next mid _ answer q last) = next mid c answer (puts_on a b mid p q) last

  -- of the pieces that were put from one state to another this one couldn't be
  pub record HasFailedPut (first last : W × Option E) : Type 0 where
    pub old : W × Option E
    pub new : W × Option E
    pub why : Error
    pub before : Puts first old
    pub put : Put writes puts old new (Err why)
    pub after : Puts new last

  -- the writer and the file of a log
  abbrev pub state_of : DurableLog W E → W × Option E
  state_of log = (log.writer, log.file)

  -- what no call changes of a log: it has its file still; unless it failed nothing was put, or all that its writer has
  -- written is on the disk; and its count of failures changed only where a piece couldn't be put
  pub record LogStays (old new : DurableLog W E) : Type 0 where
    pub file : IsSome old.file → IsSome new.file
    pub failures : new.failures ≡ 0 → old.failures ≡ 0
    pub there : new.failures ≡ 0 → (new ≡ old) ⊎ IfSome new.file (IsOnDisk puts new.writer)
    pub pieces : Puts (state_of old) (state_of new)
    pub failed : (new.failures ≡ old.failures) ⊎ HasFailedPut (state_of old) (state_of new)

  -- a log stays as it is where nothing is called
  pub stays_itself : (log : DurableLog W E) → LogStays log log
  stays_itself log = record { file = λ is. is; failures = λ is. is; there = λ is. inl refl; pieces = none; failed = inl refl }

  -- and so it goes on from call to call
  pub stays_on : (a b c : DurableLog W E) → LogStays a b → LogStays b c → LogStays a c
  stays_on a b c p q = record {
    file = λ is. q.file (p.file is);
    failures = λ is. p.failures (q.failures is);
    there = λ is. by (q.there is) (p.there (q.failures is));
    pieces = puts_on (state_of a) (state_of b) (state_of c) p.pieces q.pieces;
    failed = any p.failed q.failed;
  }
    where
      There : DurableLog W E → Type 0
      There log = IfSome log.file (IsOnDisk puts log.writer)

      by : (c ≡ b) ⊎ There c → (b ≡ a) ⊎ There b → (c ≡ a) ⊎ There c
      by (inr there) before = inr there
      by (inl same) (inl first) = inl (same ∙ first)
      by (inl same) (inr there) = inr (subst There (sym same) there)

      any : (b.failures ≡ a.failures) ⊎ HasFailedPut (state_of a) (state_of b)
          → (c.failures ≡ b.failures) ⊎ HasFailedPut (state_of b) (state_of c)
          → (c.failures ≡ a.failures) ⊎ HasFailedPut (state_of a) (state_of c)
      any (inl first) (inl later) = inl (later ∙ first)
      any (inr it) later = inr (record {
        old = it.old;
        new = it.new;
        why = it.why;
        before = it.before;
        put = it.put;
        after = puts_on it.new (state_of b) (state_of c) it.after q.pieces;
      })
      any (inl first) (inr it) = inr (record {
        old = it.old;
        new = it.new;
        why = it.why;
        before = puts_on (state_of a) (state_of b) it.old p.pieces it.before;
        put = it.put;
        after = it.after;
      })

-- a piece of a log couldn't be put, of those that led from this output to that, with a file that was this at first
abbrev pub LogFails : {W E : Type 0} → (W → List ℕ → Result (Unit {0}) Error → W → Type 0)
    → (E → W → Result (Unit {0}) Error → E → Type 0) → Option E → W → W → Type 0
LogFails {W} {E} writes puts file old new = (after : Option E) × HasFailedPut writes puts (old, file) (new, after)

-- where the fault that ended something is the log's, a piece of that couldn't be put
abbrev pub LogFailsBy : {W E : Type 0} → (W → List ℕ → Result (Unit {0}) Error → W → Type 0)
    → (E → W → Result (Unit {0}) Error → E → Type 0) → Option E → W → W → Option Fault → Type 0
LogFailsBy writes puts file old new fault = fault ≡ Some Log → LogFails writes puts file old new

-- the log's file, at the end of a run: where no fault ended that, nothing was written, or all that the output holds was put
-- onto the disk
abbrev pub IsLogged : {W E : Type 0} → (E → W → Result (Unit {0}) Error → E → Type 0) → Option E
    → W → W → ℕ → Type 0
IsLogged puts None old new status = ⊤
IsLogged {W} {E} puts (Some file) old new status =
    status ≢ 3 → (new ≡ old) ⊎ ((after : E) × IsOnDisk puts new after)
