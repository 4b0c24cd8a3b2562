-- What a log stays after a piece.
use Rattle.std.proofs.Common.{◌≡◌, ◌∙◌, ℕ, List, arith, inl, inr, subst, sym}
use Rattle.std.specs.Prelude.{Err, IfSome, IsSome, None, Ok, OnErr, Option, Result, Some}
use Rattle.std.specs.declared.io.Error.{Error}
use Rattle.pt_tree.specs.Failures.{HasRisen}
use Rattle.pt_host.specs.Durable.{IsOnDisk, IsPutBehind, LogStays, Put, none, next, state_of}
use Rattle.pt_host.specs.declared.durable_log.DurableLog.{DurableLog}

-- what holds however it was answered holds where that was an error
pub after_error : {T E A : Type 0} (answer : Result T E) → A → OnErr answer A
after_error (Ok x) it = tt
after_error (Err e) it = it

module _ {W E : Type 0} (writes : W → List ℕ → Result (Unit {0}) Error → W → Type 0) (puts : E → W → Result (Unit {0}) Error → E → Type 0) where
  -- what was put behind it is on the disk
  on_disk : (writer : W) (old new : Option E) → IsPutBehind puts writer old new → IfSome new (IsOnDisk puts writer)
  on_disk writer None new is = subst (λ (o : Option E). IfSome o (IsOnDisk puts writer)) (sym is) tt
  on_disk writer (Some file) new (after, is, put) = subst (λ (o : Option E). IfSome o (IsOnDisk puts writer)) (sym is) (file, put)

  -- it was put
  pub stays_put : (old new : DurableLog W E) → new.failures ≡ old.failures → (IsSome old.file → IsSome new.file)
      → IsPutBehind puts new.writer old.file new.file → Put writes puts (state_of writes puts old) (state_of writes puts new) (Ok tt)
      → LogStays writes puts old new
  stays_put old new same still behind put = record {
    file = still;
    failures = λ zero. sym same ∙ zero;
    there = λ zero. inr (on_disk new.writer old.file new.file behind);
    pieces = next (state_of writes puts old) (state_of writes puts new) (Ok tt) none put;
    failed = inl same;
  }

  -- it couldn't be, and that was counted
  pub stays_failed : (old new : DurableLog W E) (writer : W) (file : Option E) (why : Error) → new.writer ≡ writer → new.file ≡ file
      → HasRisen old.failures new.failures → (IsSome old.file → IsSome file)
      → Put writes puts (state_of writes puts old) (writer, file) (Err why) → LogStays writes puts old new
  stays_failed old new writer file why writer_is file_is risen still put =
      let here : (W × Option E) = (writer, file) in
      let same : here ≡ state_of writes puts new = λ i. (sym writer_is i, sym file_is i) in
      let it : Put writes puts (state_of writes puts old) (state_of writes puts new) (Err why) =
      subst (λ (s : W × Option E). Put writes puts (state_of writes puts old) s (Err why)) same put in record {
        file = λ some. subst (λ (o : Option E). IsSome o) (sym file_is) (still some);
        failures = λ zero. absurd (omega (arith, risen, zero));
        there = λ zero. absurd (omega (arith, risen, zero));
        pieces = next (state_of writes puts old) (state_of writes puts new) (Err why) none it;
        failed = inr (record {
          old = state_of writes puts old;
          new = state_of writes puts new;
          why = why;
          before = none;
          put = it;
          after = none;
        });
      }
