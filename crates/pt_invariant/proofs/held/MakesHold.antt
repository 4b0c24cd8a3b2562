-- Each turn that makes an object and goes on keeps what holds of what is held.
use Rattle.std.proofs.Common.{◌≡◌, ◌<◌, ℕ, ◌==◌, Bool, true, false, List, [], refl, ap, sym, ◌∙◌, arith, cond, length}
use Rattle.std.specs.Prelude.{Ok, Some, slice_get}
use Rattle.std.proofs.lemmas.Bool.{and_parts, eqb-false, ltb-false}
use Rattle.pt_object.proofs.Ways.{same_name}
use Rattle.pt_object.specs.Algorithm.{digest_of}
use Rattle.pt_object.specs.declared.rows.Row.{Row}
use Rattle.pt_tree.specs.Path.{Path}
use Rattle.pt_plan.specs.Job.{Job}
use Rattle.pt_plan.specs.Run.{Held, with_fed}
use Rattle.pt_plan.specs.TurnMake.{
  MakeStep,
  MakesVersion,
  PassesRow,
  MakesFolder,
  OpensCopy,
  CopiesOn,
  EndsCopy,
  MakesVersionInventory,
  MakesVersionSidecar,
  MakesInventory,
  MakesSidecar,
  behind,
  is_as_read,
  is_stored,
}
use Rattle.pt_plan.specs.DeviceStates.{Calls}
use Rattle.pt_plan.specs.declared.object.Object.{Object}
use Rattle.pt_plan.specs.declared.phase.Phase.{Phase}
use Rattle.pt_plan.specs.declared.phase.Part.TheVariants as part
use Rattle.pt_plan.specs.declared.phase.Phase.TheVariants as phase
use Rattle.pt_plan.specs.declared.phase.Stage.TheVariants as stage
use Rattle.pt_plan.specs.declared.phase.Position.{Position}
use Rattle.pt_invariant.specs.HeldInvariant.{AreRows, HeldAt, NumbersAt}
use Rattle.pt_invariant.specs.HeldLaws.{MakingKeepsHeld}
use Rattle.pt_invariant.specs.PartsMade.{IsAtRow, IsAtStoredRow}
use Rattle.pt_invariant.specs.History.{History, bytes_after, with_bytes_of}
use Rattle.pt_invariant.proofs.held.EitherPhase.{after_sidecar}
use Rattle.pt_invariant.proofs.held.Feeding.{makes_feed}
use Rattle.pt_invariant.proofs.held.HeldKeeps.{RestAt, with_rest}
use Rattle.pt_invariant.proofs.source.InPairtree.{some_same}
use Rattle.pt_invariant.proofs.held.Positions.{at_first, at_folder, at_passed, at_stored}
use Rattle.pt_invariant.proofs.held.ScansHold.{fed_rows}
use Rattle.pt_invariant.proofs.held.TrailKeeps as trail
use Rattle.pt_invariant.proofs.held.WithBytes.{rows_again}

-- ---- a file is copied

rows_copied : (job : Job) (bytes : Path → List ℕ) (held : Held) (n left : ℕ) (row : Row) → slice_get held.rows n ≡ Some row
    → is_as_read job row left held.fed ≡ true → AreRows job bytes held
    → AreRows job (with_bytes_of (slice_get held.rows n) held.fed bytes) (with_fed held [])
rows_copied job bytes held n left row is same rows =
    let digest = same_name _ _ (and_parts _ _ same).1 in
    record {
      order = rows.order;
      digests = rows_again (λ b r. digest_of job.algorithm b ≡ r.digest) bytes held.fed held.rows n _ is rows.order digest
          rows.digests;
      contents = rows.contents;
    }

-- ---- from part to part

numbers_at : (job : Job) (object : Object) (held : Held) (position : Position) (more : Bool) → (more ≡ true → IsAtRow held.rows position)
    → NumbersAt job (phase.Carrying object (stage.Make (cond more (part.Content position) part.VersionInventory))) held
numbers_at job object held position true at = at refl
numbers_at job object held position false at = tt

above_none : (n : ℕ) → (n == 0) ≡ false → 0 < n
above_none n some = let apart = eqb-false n 0 some in omega (arith, apart)

-- the row that is copied is the next content
pub its_next : {held : Held} {position : Position} (row : Row) → slice_get held.rows position.row ≡ Some row → IsAtStoredRow held position
    → is_stored held.contents position.stored row.path ≡ true
its_next {held} {position} row is at =
    let same : at.row ≡ row = some_same at.row row (sym at.is_row ∙ is) in
    ap (λ (r : Row). is_stored held.contents position.stored r.path) (sym same) ∙ at.next

makes_rest : {job : Job} {past : History} {here : Phase} {held after : Held} {calls : Calls} {next : Phase} → MakeStep job here held after calls (Ok next)
    → HeldAt job past here held
    → RestAt job (bytes_after here next held past.bytes) next after
makes_rest {job} (MakesVersion was object) at = record {
  ends = at.ends;
  rows = at.rows;
  behind = tt;
  numbers = numbers_at job object was _ _ (λ some. at_first was.rows some);
}
makes_rest {job} (PassesRow was object position row is other) at = record {
  ends = at.ends;
  rows = at.rows;
  behind = tt;
  numbers = numbers_at job object was (behind position) _ (λ more. at_passed was.rows was.contents position row at.rows.contents at.rows.order is other more
      at.numbers);
}
makes_rest (MakesFolder was object position row is stored more) at = record
    { ends = at.ends; rows = at.rows; behind = tt; numbers = at_folder position at.numbers }
makes_rest {job} {past} (OpensCopy was object position row is stored all) at = record {
  ends = at.ends;
  rows = fed_rows job past.bytes was [] at.rows;
  behind = tt;
  numbers = record { at = at.numbers; row = row; is_row = is; next = stored; stand = ltb-false position.directories (length row.path) all };
}
makes_rest {job} {past} (CopiesOn was object position left byte block fits) at = record {
  ends = at.ends;
  rows = fed_rows job past.bytes was _ at.rows;
  behind = tt;
  numbers = record { at = at.numbers.at; row = at.numbers.row; is_row = at.numbers.is_row; next = at.numbers.next; stand = at.numbers.stand };
}
makes_rest {job} {past} (EndsCopy was object position row left is same) at = record {
  ends = at.ends;
  rows = rows_copied job past.bytes was position.row left row is same at.rows;
  behind = tt;
  numbers = numbers_at job object (with_fed was []) _ _ (λ more. at_stored was.rows was.contents position row at.rows.contents at.rows.order is
      (its_next row is at.numbers) more at.numbers.at);
}
makes_rest {job} {past} (MakesVersionInventory was object) at = record
    { ends = at.ends; rows = fed_rows job past.bytes was _ at.rows; behind = tt; numbers = tt }
makes_rest {job} {past} (MakesVersionSidecar was object) at = record { ends = at.ends; rows = fed_rows job past.bytes was _ at.rows; behind = tt; numbers = tt }
makes_rest {job} {past} (MakesInventory was object) at = record { ends = at.ends; rows = fed_rows job past.bytes was _ at.rows; behind = tt; numbers = tt }
makes_rest {job} {past} {after} (MakesSidecar was object) at =
    let rows = fed_rows job past.bytes was [] at.rows in
    after_sidecar (λ p. RestAt job past.bytes p after) job object
    (λ flat. record { ends = at.ends; rows = rows; behind = tt; numbers = tt })
    (λ some. record { ends = at.ends; rows = rows; behind = tt; numbers = above_none job.tuples.count some })
makes_rest turn at = record { ends = at.ends; rows = at.rows; behind = tt; numbers = tt }

pub makes_hold : MakingKeepsHeld
makes_hold job past here held after calls next turn at = with_rest (makes_rest turn at) (trail.makes_keep turn at.trail) (makes_feed turn)
